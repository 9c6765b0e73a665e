-- 01, "Job list bytes" and "Refused, and where": the entry of a job, its checks, and the walk over entries. The walk takes the check and the
-- length of an entry, and the check of an entry takes that of a job, so that another layout or another order of faults can use them.
use Rattle.std.specs.Prelude.{ℕ, zero, suc, ◌+◌, Bool, true, false, not, ◌&&◌, List, [], ◌∷◌, length, get_or, drop, leb, ltb, eqb, Ok}
use Rattle.sched.specs.TwoBytes.{word}
use Rattle.sched.specs.Checks.{JobCheck, refuse_if, and_then}
use Rattle.sched.specs.declared.Refusal.TheVariants.{Truncated, UnknownBit, Redundant, LeftOver}
use Rattle.list_parts.specs.Layout.{absent_release, absent_deadline, absent_volume, has_release, has_deadline, has_volume, release_at, deadline_at}
use Rattle.list_parts.specs.Layout.{volume_at, entry_length}
use Rattle.sched.specs.Refusals.{Checked}

-- The job whose entry a list of bytes starts with

abbrev pub entry_map : List ℕ → ℕ
entry_map bs = get_or bs 0 0

abbrev pub entry_size : List ℕ → ℕ
entry_size bs = entry_length (entry_map bs)

-- a field: its two bytes where its bit stands, else its absent value
abbrev pub value_if : Bool → ℕ → List ℕ → ℕ
value_if true absent bs = word bs
value_if false absent bs = absent

abbrev pub release_of : List ℕ → ℕ
release_of bs = value_if (has_release (entry_map bs)) absent_release (drop release_at bs)

abbrev pub deadline_of : ℕ → List ℕ → ℕ
deadline_of h bs = value_if (has_deadline (entry_map bs)) (absent_deadline h) (drop (deadline_at (entry_map bs)) bs)

abbrev pub volume_of : List ℕ → ℕ
volume_of bs = value_if (has_volume (entry_map bs)) absent_volume (drop (volume_at (entry_map bs)) bs)

-- The checks of an entry at offset `at` of an input of n bytes

-- 13: "one of bits 3 to 7 stands"
abbrev pub known_maps : ℕ
known_maps = 8

-- "11 for the map, 13": a map byte is there, and it is below a bound
unfoldable pub map_check : ℕ → ℕ → ℕ → List ℕ → Checked
map_check maps n at bs = refuse_if (eqb (length bs) 0) (Truncated n) (refuse_if (leb maps (entry_map bs)) (UnknownBit at) (Ok tt))

-- "11 for its fields"
abbrev pub whole_check : ℕ → ℕ → List ℕ → Checked
whole_check size n bs = refuse_if (ltb (length bs) size) (Truncated n) (Ok tt)

-- 14: "a field stands with its absent value"
abbrev pub redundant : Bool → ℕ → List ℕ → Bool
redundant stands absent bs = stands && eqb (word bs) absent

-- 14 for the field at a place of the entry
abbrev pub field_check : Bool → ℕ → ℕ → ℕ → List ℕ → Checked
field_check stands absent place at bs = refuse_if (redundant stands absent (drop place bs)) (Redundant (at + place)) (Ok tt)

-- "14 in field order"
unfoldable pub redundancy_check : ℕ → ℕ → List ℕ → Checked
redundancy_check h at bs =
    and_then (field_check (has_release (entry_map bs)) absent_release release_at at bs)
    (and_then (field_check (has_deadline (entry_map bs)) (absent_deadline h) (deadline_at (entry_map bs)) at bs)
    (field_check (has_volume (entry_map bs)) absent_volume (volume_at (entry_map bs)) at bs))

-- the job that is read, by a check of jobs
abbrev pub fault_check : JobCheck → ℕ → ℕ → List ℕ → Checked
fault_check check h j bs = check h j (release_of bs) (deadline_of h bs) (volume_of bs)

-- a check of an entry, from the job's number, the offset, and the bytes from there on
abbrev pub EntryCheck : Type 0
EntryCheck = ℕ → ℕ → List ℕ → Checked

-- "11 for the map, 13, 11 for its fields, 14 in field order", then the job: "where 15 stood"
unfoldable pub entry_check : JobCheck → ℕ → ℕ → EntryCheck
entry_check check h n j at bs =
    and_then (map_check known_maps n at bs)
    (and_then (whole_check (entry_size bs) n bs)
    (and_then (redundancy_check h at bs) (fault_check check h j bs)))

-- The walk over the k entries from job j on, each by one check and of a length that its bytes tell

-- "at the end 16"
unfoldable pub entries_check : EntryCheck → (List ℕ → ℕ) → ℕ → ℕ → ℕ → List ℕ → Checked
entries_check check size zero j at bs = refuse_if (not (eqb (length bs) 0)) (LeftOver at) (Ok tt)
entries_check check size (suc k) j at bs =
    and_then (check j at bs) (entries_check check size k (suc j) (at + size bs) (drop (size bs) bs))

-- one field of each job
unfoldable pub column : (List ℕ → ℕ) → (List ℕ → ℕ) → ℕ → List ℕ → List ℕ
column size field zero bs = []
column size field (suc k) bs = field bs ∷ column size field k (drop (size bs) bs)
