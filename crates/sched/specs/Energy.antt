-- 01, "Words of the plan" (000, section 1.1), and 02, card 10: awake slots, runs, wakes and energy of a set of slots, and the figures of a table.
use Rattle.std.specs.Prelude.{ℕ, suc, ◌+◌, ◌*◌, Bool, true, false, List, [], ◌∷◌}
use Rattle.sched.specs.Jobs.{Jobs}
use Rattle.sched.specs.Slots.{awake_of}
use Rattle.sched.specs.declared.Figures.{Figures}

-- "the number of awake slots"
unfoldable pub awake_slots : List Bool → ℕ
awake_slots [] = 0
awake_slots (true ∷ S) = suc (awake_slots S)
awake_slots (false ∷ S) = awake_slots S

-- "A run is a longest stretch of awake slots": one begins at each awake slot that is not directly behind another. The Bool is the state before the
-- first slot; from an awake one, awake slots at the front go on with what was before and begin nothing.
unfoldable pub runs_from : Bool → List Bool → ℕ
runs_from b [] = 0
runs_from b (false ∷ S) = runs_from false S
runs_from true (true ∷ S) = runs_from true S
runs_from false (true ∷ S) = suc (runs_from true S)

abbrev pub runs : List Bool → ℕ
runs S = runs_from false S

-- The wakes that are paid: one for each run, but if the start is awake "A run that begins at slot 0 then costs no wake, but still counts as a run."
abbrev pub wakes : Jobs → List Bool → ℕ
wakes J S = runs_from J.start S

-- "Energy is the number of awake slots plus q times the number of runs"; since card 10 q times the wakes, of which a start asleep has one for each run
abbrev pub energy : Jobs → List Bool → ℕ
energy J S = awake_slots S + J.wake * wakes J S

-- "energy, awake slots and runs" of a table
abbrev pub table_figures : Jobs → List ℕ → Figures
table_figures J table =
    record { energy = energy J (awake_of table); awake = awake_slots (awake_of table); runs = runs (awake_of table) }
