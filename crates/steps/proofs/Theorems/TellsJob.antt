-- 02, card 1, of the planner: it refuses a job exactly where the list checks do, by their number and place.
use Rattle.std.specs.Prelude.{ℕ, refl, List, length, Err, Ok}
use Rattle.std.proofs.Common.{inl, inr, arith}
use Rattle.std.proofs.Math.Option.{Option, none, some}
use Rattle.sched.specs.Jobs.{Jobs}
use Rattle.sched.specs.Checks.{length_check, check_of}
use Rattle.sched.specs.Answers.{outcome_number, outcome_values}
use Rattle.sched.proofs.Theorems.RefusesJob.{JobFaultNumber, not_job, other_length}
use Rattle.sched.proofs.Theorems.TellsJob.{TellsJob, first_tells}
use Rattle.sched.specs.declared.Interval.{Interval}
use Rattle.sched.specs.declared.Outcome.{Outcome}
use Rattle.sched.specs.declared.Outcome.TheVariants.{Overloaded, Refused}
use Rattle.steps.specs.Overload.{shown_overload}
use Rattle.steps.specs.Outcomes.{Plan, planned, early_answer, plan_by, plan}
use Rattle.sched.specs.Refusals.{Checked}

-- The planner, as any whose own steps refuse no job: it refuses a job exactly where the list checks do, by their number and place.
pub planner_tells_job : (steps : Jobs → List ℕ → Plan) (J : Jobs) (lent : List ℕ) → (JobFaultNumber (outcome_number (steps J lent).answer) → ⊥) →
    TellsJob (check_of J) (outcome_number (plan_by steps J lent).answer) (outcome_values (plan_by steps J lent).answer)
unfolding plan_by early_answer
planner_tells_job steps J lent other =
    first_tells (λ c. outcome_number (after c).answer) (λ c. outcome_values (after c).answer) (λ r. refl) (λ r. refl) (unrefused (shown_overload J))
    (check_of J) (length_check (length lent) J.horizon) (other_length (length lent) J.horizon)
  where
    ended : Option Outcome → Plan
    ended o = elim o [ some answer ↦ record { answer = answer; table = lent } | none ↦ steps J lent ]

    shown : Option Interval → Option Outcome
    shown o = elim o [ none ↦ none | some i ↦ some (Overloaded i) ]

    after : Checked → Plan
    after c = ended (elim c [ Err r ↦ some (Refused r) | (Ok tt) ↦ shown (shown_overload J) ])

    unrefused : (o : Option Interval) → JobFaultNumber (outcome_number (ended (shown o)).answer) → ⊥
    unrefused none = other
    unrefused (some i) = not_job 18 (inr (omega arith, omega arith))

pub plan_tells_job : (J : Jobs) (lent : List ℕ) → TellsJob (check_of J) (outcome_number (plan J lent).answer) (outcome_values (plan J lent).answer)
unfolding plan planned
plan_tells_job J lent = planner_tells_job planned J lent (not_job 0 (inl (omega arith)))
