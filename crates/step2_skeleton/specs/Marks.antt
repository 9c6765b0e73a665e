-- The bytes that step 2 writes.
use Rattle.std.specs.Prelude.{ℕ, ◌-◌, Bool, List, map, ◌++◌, take, drop, replicate}
use Rattle.sched.specs.Slots.{mark_byte, idle, asleep}
pub mod Laws

-- the table of a set of slots in which no job runs yet
abbrev pub marked : List Bool → List ℕ
marked = map mark_byte

-- the slots from s up to slot `first` sleep, from there up to slot `end` they are awake and idle; the other bytes are as they were
abbrev pub with_run : ℕ → ℕ → ℕ → List ℕ → List ℕ
with_run s first end table = take s table ++ ((replicate (first - s) asleep ++ replicate (end - first) idle) ++ drop end table)
