-- 01, "From list to table", last paragraph: the judge's answer for every list and table, and the number and values of each case.
use Rattle.std.specs.Prelude.{ℕ, ◌≤◌, ◌≡◌, Bool, List, [], ◌∷◌, length, take, Err, Ok, Result}
use Rattle.sched.specs.Jobs.{Jobs}
use Rattle.sched.specs.Refusals.{number, place, Checked}
use Rattle.sched.specs.Checks.{Passes, and_then, length_check, check_of}
use Rattle.sched.specs.Slots.{awake_of}
use Rattle.sched.specs.Energy.{table_figures, awake_slots, runs, energy}
use Rattle.sched.specs.Feasible.{Feasible}
use Rattle.sched.specs.declared.Figures.{Figures}
use Rattle.judge.specs.Faults.{SlotCheck, slot_fault, faults_by, faults_check}
use Rattle.sched.specs.declared.Refusal.{Refusal}

-- a table without a fault is told its figures
abbrev pub accepts : Checked → Figures → Result Figures Refusal
accepts (Ok tt) f = Ok f
accepts (Err r) f = Err r

-- the list checks, 17 for the table, then the faults of "its first H bytes", each slot by a check
abbrev pub judge_check_by : SlotCheck → Jobs → List ℕ → Checked
judge_check_by fault J table =
    and_then (check_of J)
    (and_then (length_check (length table) J.horizon)
    (faults_by fault J.releases J.deadlines J.volumes (take J.horizon table)))

abbrev pub judge_check : Jobs → List ℕ → Checked
judge_check = judge_check_by slot_fault

unfoldable pub judged : Jobs → List ℕ → Result Figures Refusal
judged J table = accepts (judge_check J table) (table_figures J (take J.horizon table))

-- a refusal has 01's number with its place, an accepted table energy, awake slots and runs; that its number is 0 is ours
abbrev pub judged_number : Result Figures Refusal → ℕ
judged_number (Ok f) = 0
judged_number (Err r) = number r

abbrev pub judged_values : Result Figures Refusal → List ℕ
judged_values (Ok f) = f.energy ∷ f.awake ∷ f.runs ∷ []
judged_values (Err r) = place r ∷ []

-- an answer is just to the H bytes that were judged: they are accepted exactly when they are a feasible schedule, and then their energy from
-- the list's start, awake slots and runs are told; from a start asleep that is the energy of 000 (`asleep_energy`, `sched/specs/Energy/Laws`)
pub record Just (J : Jobs) (slots : List ℕ) (answer : Result Figures Refusal) : Type 0 where
  pub accepted_feasible : judged_number answer ≡ 0 → Feasible J slots
  pub feasible_accepted : Feasible J slots → judged_number answer ≡ 0
  pub figures : judged_number answer ≡ 0 → judged_values answer ≡ energy J (awake_of slots) ∷ awake_slots (awake_of slots) ∷ runs (awake_of slots) ∷ []

-- the promise: the number and the values that come back are those of the definition, and so is the case; only for a list that passes the list
-- checks and a table of at least H bytes is a table accepted, and for these the answer is just
pub record Judges (J : Jobs) (table : List ℕ) (answer : Result Figures Refusal) : Type 0 where
  pub number : judged_number answer ≡ judged_number (judged J table)
  pub values : judged_values answer ≡ judged_values (judged J table)
  pub same : answer ≡ judged J table
  pub checked : judged_number answer ≡ 0 → Passes J × (J.horizon ≤ length table)
  pub just : Passes J → J.horizon ≤ length table → Just J (take J.horizon table) answer

-- what is promised of a table of just H bytes, for every J with this wake cost and start: the jobs' fields are rs, ds and ps, and J's own do not
-- matter
abbrev pub JudgesSlots : ℕ → Bool → List ℕ → List ℕ → List ℕ → List ℕ → Result Figures Refusal → Type 0
JudgesSlots q start rs ds ps slots answer =
    (J : Jobs) → J.wake ≡ q → J.start ≡ start → answer ≡ accepts (faults_check rs ds ps slots) (table_figures J slots)
