-- 01, "Job list bytes": map bytes and the fields behind them, and the entry of a job.
use Rattle.std.specs.Prelude.{ℕ, zero, suc, ◌+◌, ◌*◌, ◌/◌, ◌%◌, Bool, true, false, not, List, [], ◌∷◌, ◌++◌, eqb}
use Rattle.sched.specs.Bits.{bit}
use Rattle.sched.specs.TwoBytes.{two_bytes}

-- "An absent release is 0, an absent deadline is H, an absent volume is 1."
abbrev pub absent_release : ℕ
absent_release = 0

abbrev pub absent_deadline : ℕ → ℕ
absent_deadline h = h

abbrev pub absent_volume : ℕ
absent_volume = 1

-- A map byte: "bit 0 release, bit 1 deadline, bit 2 volume"
abbrev pub has_release : ℕ → Bool
has_release m = eqb (m % 2) 1

abbrev pub has_deadline : ℕ → Bool
has_deadline m = eqb (m / 2 % 2) 1

abbrev pub has_volume : ℕ → Bool
has_volume m = eqb (m / 4 % 2) 1

-- the map byte in which just these bits stand
abbrev pub map_byte : Bool → Bool → Bool → ℕ
map_byte r d p = bit r + 2 * bit d + 4 * bit p

-- Where the fields of an entry lie, counted from its map byte: "in that order, only the fields whose bit stands"
abbrev pub width : Bool → ℕ
width true = 2
width false = 0

abbrev pub release_at : ℕ
release_at = 1

abbrev pub deadline_at : ℕ → ℕ
deadline_at m = release_at + width (has_release m)

abbrev pub volume_at : ℕ → ℕ
volume_at m = deadline_at m + width (has_deadline m)

-- where the volume ends, for any map, by its low three bits: another layout has other bytes behind it
abbrev pub fields_end : ℕ → ℕ
fields_end m = volume_at m + width (has_volume m)

-- The length of an entry, by its map byte. Card 4 of 02: "With the map byte, maps 0 to 7 take 1, 3, 3, 5, 3, 5, 5 and 7 bytes". `suc` stands as often
-- before `zero` as the map says. A byte in which one of bits 3 to 7 stands is refused before its length counts.
abbrev pub entry_length : ℕ → ℕ
entry_length zero = 1
entry_length (suc zero) = 3
entry_length (suc (suc zero)) = 3
entry_length (suc (suc (suc zero))) = 5
entry_length (suc (suc (suc (suc zero)))) = 3
entry_length (suc (suc (suc (suc (suc zero))))) = 5
entry_length (suc (suc (suc (suc (suc (suc zero)))))) = 5
entry_length (suc (suc (suc (suc (suc (suc (suc zero))))))) = 7
entry_length (suc (suc (suc (suc (suc (suc (suc (suc m)))))))) = 0

-- The entry of a job

-- a field stands unless it has its absent value
abbrev pub stands : ℕ → ℕ → Bool
stands absent x = not (eqb x absent)

abbrev pub bytes_if : Bool → ℕ → List ℕ
bytes_if true x = two_bytes x
bytes_if false x = []

-- the map byte of a job
abbrev pub job_map : ℕ → ℕ → ℕ → ℕ → ℕ
job_map h r d p = map_byte (stands absent_release r) (stands (absent_deadline h) d) (stands absent_volume p)

unfoldable pub entry_bytes : ℕ → ℕ → ℕ → ℕ → List ℕ
entry_bytes h r d p =
    job_map h r d p
    ∷ bytes_if (stands absent_release r) r ++ (bytes_if (stands (absent_deadline h) d) d ++ bytes_if (stands absent_volume p) p)
