-- 01, "Job list bytes" and "Refused, and where": the header of a list, its numbers, its checks and its bytes.
use Rattle.std.specs.Prelude.{ℕ, Bool, false, List, [], ◌∷◌, ◌++◌, length, get_or, drop, ltb}
use Rattle.sched.specs.Jobs.{Jobs, count}
use Rattle.sched.specs.TwoBytes.{two_bytes, word}
use Rattle.sched.specs.Checks.{refuse_if, and_then, horizon_check, count_check}
use Rattle.sched.specs.declared.Refusal.TheVariants.{Truncated}
use Rattle.sched.specs.Refusals.{Checked}

-- The header: "H, then q, two bytes each, low byte first, then the number of jobs"
abbrev pub header_length : ℕ
header_length = 5

abbrev pub header_horizon : List ℕ → ℕ
header_horizon bs = word bs

abbrev pub header_wake : List ℕ → ℕ
header_wake bs = word (drop 2 bs)

-- the byte with the number of jobs, taken apart: the number, and the state before slot 0, which is always asleep
abbrev pub count_in : ℕ → ℕ
count_in byte = byte

abbrev pub start_in : ℕ → Bool
start_in byte = false

abbrev pub count_byte : Bool → ℕ → ℕ
count_byte start n = n

abbrev pub header_count : List ℕ → ℕ
header_count bs = count_in (get_or bs 4 0)

abbrev pub header_start : List ℕ → Bool
header_start bs = start_in (get_or bs 4 0)

-- "11 for the header; 12 for H; 12 for the count"
abbrev pub header_check : List ℕ → Checked
header_check bytes =
    refuse_if (ltb (length bytes) header_length) (Truncated (length bytes))
    (and_then (horizon_check (header_horizon bytes)) (count_check (header_count bytes)))

-- the header of a list
abbrev pub header : Jobs → List ℕ
header J = two_bytes J.horizon ++ (two_bytes J.wake ++ (count_byte J.start (count J) ∷ []))
