-- 02, cards 5 and 10, in place of 01's step 5: what becomes of the slots in which no job runs. The rule goes by the working slots and the wake cost,
-- and by the state before slot 0 (card 10), and by nothing else.
use Rattle.std.specs.Prelude.{ℕ, suc, ◌-◌, Bool, true, false, ◌&&◌, List, length, get_or, ltb}
use Rattle.std.proofs.Math.Option.{Option, none, some}
use Rattle.sched.specs.Bounded.{least_from, last_below, values_from}
use Rattle.sched.specs.Slots.{mark_byte, working_of}

-- slot t works; slots outside the list do not
abbrev pub working : List Bool → ℕ → Bool
working W t = get_or W t false

-- the nearest working slot before slot t, and the nearest after it, if there are any
abbrev pub work_before : List Bool → ℕ → Option ℕ
work_before W t = last_below t (working W)

abbrev pub work_after : List Bool → ℕ → Option ℕ
work_after W t = least_from (length W - suc t) (suc t) (working W)

-- "An idle stretch between two working slots stays awake if it is shorter than q, and sleeps if it is q or longer. Before the first and after the
-- last working slot the processor sleeps." But since card 10 "An idle stretch before the first working slot stays awake if the start is awake and the
-- stretch is shorter than q." Given are the nearest working slots around a slot; the stretch between a and b has b − a − 1 slots, the one before b
-- has b.
abbrev pub stays_awake : ℕ → Bool → Option ℕ → Option ℕ → Bool
stays_awake q start (some a) (some b) = ltb (b - suc a) q
stays_awake q start (some a) none = false
stays_awake q start none (some b) = start && ltb b q
stays_awake q start none none = false

-- slot t, which does not work, is awake all the same
abbrev pub idle_at : ℕ → Bool → List Bool → ℕ → Bool
idle_at q start W t = stays_awake q start (work_before W t) (work_after W t)

-- the byte of slot t: a working slot keeps its job, any other is awake and idle (254), or asleep (255)
abbrev pub slept_byte : ℕ → Bool → List ℕ → ℕ → ℕ
slept_byte q start table t =
    let W = working_of table in
    elim (working W t) [ true ↦ get_or table t 0 | false ↦ mark_byte (idle_at q start W t) ]

-- the table after the rule, with wake cost q, awake or asleep before slot 0
unfoldable pub sleep_rule : ℕ → Bool → List ℕ → List ℕ
sleep_rule q start table = values_from (length table) 0 (slept_byte q start table)
