-- 01, "From list to table" and "Refused, and where": the planner's answer and what a lent table holds afterwards, for every input. The
-- number and the values that 01 gives each case of the answer are in `sched/specs/Answers`.
use Rattle.std.specs.Prelude.{ℕ, List, ◌++◌, length, drop, Err, Ok}
use Rattle.std.proofs.Math.Option.{Option, none, some}
use Rattle.sched.specs.Jobs.{Jobs}
use Rattle.sched.specs.Checks.{and_then, length_check, check_of}
use Rattle.sched.specs.Slots.{awake_of}
use Rattle.sched.specs.Energy.{awake_slots, runs, energy}
use Rattle.steps.specs.Overload.{shown_overload}
use Rattle.steps.specs.Skeleton.{least_skeleton}
use Rattle.steps.specs.Extension.{woken}
use Rattle.steps.specs.Steps.{plan_table}
use Rattle.sched.specs.declared.PlanFigures.{PlanFigures}
use Rattle.sched.specs.declared.Outcome.{Outcome}
use Rattle.sched.specs.declared.Outcome.TheVariants.{Planned, Overloaded, Refused}

-- "energy, awake slots, runs and added; added counts the slots woken in step 3"
unfoldable pub figures_of : Jobs → List ℕ → ℕ → PlanFigures
figures_of J table added =
    record { energy = energy J (awake_of table); awake = awake_slots (awake_of table); runs = runs (awake_of table); added = added }

-- the answer, and the lent table afterwards
pub record Plan : Type 0 where
  pub answer : Outcome
  pub table : List ℕ

-- What is answered before any slot is planned, the same under any planner: a refusal of the list or of a table of `have` bytes, or an
-- overload; none if the steps can be taken.
unfoldable pub early_answer : Jobs → ℕ → Option Outcome
early_answer J have =
    elim (and_then (check_of J) (length_check have J.horizon)) [
      | Err r ↦ some (Refused r)
      | (Ok tt) ↦ elim (shown_overload J) [ none ↦ none | some i ↦ some (Overloaded i) ]
    ]

-- A planner is what it makes of a list that passes the checks and has no overloaded interval, and of a table that is long enough.
unfoldable pub plan_by : (Jobs → List ℕ → Plan) → Jobs → List ℕ → Plan
plan_by steps J lent =
    elim (early_answer J (length lent)) [ some answer ↦ record { answer = answer; table = lent } | none ↦ steps J lent ]

-- steps 2 to 5: "The table goes to the first H bytes of the lent buffer, and later bytes keep their values."
unfoldable pub planned : Jobs → List ℕ → Plan
planned J lent =
    let table = plan_table J in
    record { answer = Planned (figures_of J table (length (woken J (least_skeleton J)))); table = table ++ drop J.horizon lent }

-- the plan of 01, with cards 5, 6 and 10 of 02
unfoldable pub plan : Jobs → List ℕ → Plan
plan J lent = plan_by planned J lent
