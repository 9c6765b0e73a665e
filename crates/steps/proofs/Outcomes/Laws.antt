-- The ways through a plan, whatever its steps: a faulty list, a short table, an overloaded interval, the steps.
use Rattle.std.specs.Prelude.{ℕ, ◌≤◌, ◌<◌, List, length, Err, Ok}
use Rattle.std.proofs.Math.Path.{◌≡◌, refl, ap}
use Rattle.std.proofs.Common.{◌∙◌, arith}
use Rattle.std.proofs.Math.Option.{Option, none, some}
use Rattle.sched.specs.Jobs.{Jobs}
use Rattle.sched.specs.Checks.{Passes, and_then, length_check, check_of}
use Rattle.sched.proofs.Checks.Laws.{passed_passes, passes_passed, then_passed, then_fails, then_passes, length_good, length_passes, length_fails}
use Rattle.steps.specs.Overload.{shown_overload}
use Rattle.steps.specs.Outcomes.{Plan, early_answer, plan_by}
use Rattle.sched.specs.declared.Refusal.{Refusal}
use Rattle.sched.specs.declared.Refusal.TheVariants.{TooShort}
use Rattle.sched.specs.declared.Interval.{Interval}
use Rattle.sched.specs.declared.Outcome.{Outcome}
use Rattle.sched.specs.declared.Outcome.TheVariants.{Overloaded, Refused}
use Rattle.sched.specs.Refusals.{Checked}

module _ (J : Jobs) (have : ℕ) where
  -- the tests of `early_answer`, each as a function of what it tests
  after_step_one : Option Interval → Option Outcome
  after_step_one none = none
  after_step_one (some i) = some (Overloaded i)

  after_checks : Checked → Option Outcome
  after_checks (Err r) = some (Refused r)
  after_checks (Ok tt) = after_step_one (shown_overload J)

  pub early_faulty : (r : Refusal) → check_of J ≡ Err r → early_answer J have ≡ some (Refused r)
  unfolding early_answer after_checks after_step_one
  early_faulty r e = ap after_checks (then_fails (check_of J) (length_check have J.horizon) r e)

  pub early_length : (r : Refusal) → check_of J ≡ Ok tt → length_check have J.horizon ≡ Err r → early_answer J have ≡ some (Refused r)
  unfolding early_answer after_checks after_step_one
  early_length r e l = ap after_checks (then_passes (check_of J) (length_check have J.horizon) e ∙ l)

  pub early_short : check_of J ≡ Ok tt → have < J.horizon → early_answer J have ≡ some (Refused (TooShort J.horizon))
  early_short e l = early_length (TooShort J.horizon) e (length_fails have J.horizon l)

  -- a list that passes the checks, lent a long enough table, comes to step 1
  module _ (p : Passes J) (l : J.horizon ≤ have) where
    checked : and_then (check_of J) (length_check have J.horizon) ≡ Ok tt
    checked = then_passes (check_of J) (length_check have J.horizon) (passes_passed J p) ∙ length_passes have J.horizon l

    pub early_overload : (i : Interval) → shown_overload J ≡ some i → early_answer J have ≡ some (Overloaded i)
    unfolding early_answer after_checks after_step_one
    early_overload i e = ap after_checks checked ∙ ap after_step_one e

    pub early_none : shown_overload J ≡ none → early_answer J have ≡ none
    unfolding early_answer after_checks after_step_one
    early_none e = ap after_checks checked ∙ ap after_step_one e

  -- where there is no answer yet, the list has passed the checks, the table is long enough, and no interval is shown
  none_shown : (o : Option Interval) → after_step_one o ≡ none → o ≡ none
  unfolding after_step_one
  none_shown none e = refl
  none_shown (some i) e = let z : ◌≡◌ {A = ℕ} 0 1 = cc in absurd (omega arith)

  none_refused : (c : Checked) → after_checks c ≡ none → (c ≡ Ok tt) × (shown_overload J ≡ none)
  unfolding after_checks
  none_refused (Err r) e = let z : ◌≡◌ {A = ℕ} 0 1 = cc in absurd (omega arith)
  none_refused (Ok tt) e = (refl, none_shown (shown_overload J) e)

  pub early_open : early_answer J have ≡ none → Passes J × (J.horizon ≤ have) × (shown_overload J ≡ none)
  unfolding early_answer after_checks after_step_one
  early_open e =
      let (passed, nothing) = none_refused (and_then (check_of J) (length_check have J.horizon)) e in
      let (list, table) = then_passed (check_of J) (length_check have J.horizon) passed in
      (passed_passes J list, length_good have J.horizon table, nothing)

module _ (steps : Jobs → List ℕ → Plan) (J : Jobs) (lent : List ℕ) where
  pub plan_ended : (answer : Outcome) → early_answer J (length lent) ≡ some answer → plan_by steps J lent ≡ record { answer = answer; table = lent }
  unfolding plan_by
  plan_ended answer e = rw (e, plan_by)

  pub plan_goes_on : early_answer J (length lent) ≡ none → plan_by steps J lent ≡ steps J lent
  unfolding plan_by
  plan_goes_on e = rw (e, plan_by)
