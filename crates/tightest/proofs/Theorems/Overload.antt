-- 02, card 7: the slack is below zero exactly where the planner says overloaded, by the words of `specs/Theorems/Overload`.
use Rattle.std.specs.Prelude.{ℕ, ◌≤◌, ◌≡◌, Bool, List, ◌↔◌, length, pos, ◌<ℤ◌, Err, Ok, Result}
use Rattle.std.proofs.Math.Path.{refl, ap}
use Rattle.std.proofs.Common.{sym, subst, ◌∙◌, arith}
use Rattle.std.proofs.Math.Option.{Option, none, some}
use Rattle.sched.specs.Jobs.{Jobs, jobs_from}
use Rattle.sched.proofs.Refusals.Laws.{refusal_not_overload}
use Rattle.sched.specs.Checks.{Passes, check_of}
use Rattle.sched.proofs.Checks.Laws.{passed_passes}
use Rattle.steps.specs.Overload.{Overfull, shown_overload, volume_inside}
use Rattle.steps.specs.Outcomes.{Plan, plan, planned}
use Rattle.sched.specs.Answers.{outcome_number}
use Rattle.steps.proofs.Outcomes.Laws.{early_faulty, early_overload, early_none, plan_ended, plan_goes_on}
use Rattle.sched.specs.declared.Interval.{Interval}
use Rattle.sched.specs.declared.Outcome.{Outcome}
use Rattle.sched.specs.declared.Outcome.TheVariants.{Overloaded, Refused}
use Rattle.laws_edf.proofs.Theorems.{shown_ends}
use Rattle.laws_edf.proofs.Overload.Shown.{some_shown, shown_some}
use Rattle.planner.specs.Promises.{PlanPromise}
use Rattle.tightest.specs.declared.Tight.{Tight}
use Rattle.tightest.proofs.Signed.{at_most_less, negative_if, negative_only}
use Rattle.tightest.specs.Slack.{slack_of, ReleaseToDeadline, IsTightest, tightest_of}
use Rattle.tightest.specs.Answer.{TightnessPromise}
use Rattle.tightest.proofs.Answer.Laws.{found_checked, found_if}
use Rattle.tightest.specs.Theorems.Overload.{BelowZero}
use Rattle.sched.specs.declared.Refusal.{Refusal}
use Rattle.sched.specs.Refusals.{Checked}

-- the planner says overload exactly where an interval is shown
module _ (J : Jobs) (lent : List ℕ) (long : J.horizon ≤ length lent) where
  says_if : Passes J → (i : Interval) → shown_overload J ≡ some i → outcome_number (plan J lent).answer ≡ 18
  unfolding plan
  says_if p i e = ap (λ (x : Plan). outcome_number x.answer) (plan_ended planned J lent (Overloaded i) (early_overload J (length lent) p long i e))

  says_only : outcome_number (plan J lent).answer ≡ 18 → Passes J × ((i : Interval) × (shown_overload J ≡ some i))
  unfolding plan planned
  says_only n = by_check (check_of J) refl
    where
      by_shown : Passes J → (o : Option Interval) → shown_overload J ≡ o → (i : Interval) × (shown_overload J ≡ some i)
      by_shown p none e =
          absurd (omega (arith, n, ap (λ (x : Plan). outcome_number x.answer) (plan_goes_on planned J lent (early_none J (length lent) p long e))))
      by_shown p (some i) e = (i, e)

      by_check : (c : Checked) → check_of J ≡ c → Passes J × ((i : Interval) × (shown_overload J ≡ some i))
      by_check (Err r) e =
          absurd (refusal_not_overload r (sym (ap (λ (x : Plan). outcome_number x.answer) (plan_ended planned J lent (Refused r) (early_faulty J (length lent) r e))) ∙ n))
      by_check (Ok tt) e = let p = passed_passes J e in (p, by_shown p (shown_overload J) refl)

-- the tightest interval is overloaded exactly where one is

tightest_overfull : (J : Jobs) (x : Tight) → Passes J → IsTightest J x → x.slack <ℤ pos 0 → Overfull J x.a x.b
unfolding slack_of
tightest_overfull J x p t n =
    let (j, l, e) = t.spans.due in
    let over = negative_only x.a x.b (volume_inside J x.a x.b) (subst (λ (z : _). z <ℤ pos 0) t.slack_is n) in
    record { span = t.spans.ahead; within = omega (arith, e, (p.good j l).within); more = omega (arith, t.spans.ahead) }

overfull_tightest : (J : Jobs) (x : Tight) → IsTightest J x → (a b : ℕ) → ReleaseToDeadline J a b → Overfull J a b → x.slack <ℤ pos 0
unfolding slack_of
overfull_tightest J x t a b s o = at_most_less (t.least a b s) (negative_if a b (volume_inside J a b) (omega (arith, o.span, o.more)))

module _ (J : Jobs) (lent : List ℕ) (long : J.horizon ≤ length lent) (answer : Outcome) (n_is : outcome_number answer ≡ outcome_number (plan J lent).answer)
    (report : Result Tight Refusal) (promise : TightnessPromise J report) where
  overload_if : BelowZero report → outcome_number answer ≡ 18
  overload_if z =
      let p = (found_checked J z.interval (sym promise.same ∙ z.found)).0 in
      let o = tightest_overfull J z.interval p (promise.tightest z.interval z.found) z.negative in
      let (i, e) = some_shown J z.interval.a z.interval.b o in
      n_is ∙ says_if J lent long p i e

  below_zero_if : outcome_number answer ≡ 18 → BelowZero report
  below_zero_if n =
      let (p, shown) = says_only J lent long (sym n_is ∙ n) in
      let (i, e) = shown in
      let (starts, ends) = shown_ends J i p e in
      let o = (shown_some J i e).over in
      let f = promise.same ∙ found_if J p (omega (arith, starts.1)) in
      let s : ReleaseToDeadline J i.a i.b = record { released = starts; due = ends; ahead = o.span } in
      record { interval = tightest_of J; found = f; negative = overfull_tightest J (tightest_of J) (promise.tightest (tightest_of J) f) i.a i.b s o }

pub below_zero_iff_overload :
    (h q : ℕ) (start : Bool) (rs ds ps lent table : List ℕ) (answer : Outcome) (report : Result Tight Refusal) → h ≤ length lent →
    PlanPromise (jobs_from h q start rs ds ps) lent answer table →
    ((q : ℕ) (start : Bool) → TightnessPromise (jobs_from h q start rs ds ps) report) →
    BelowZero report ↔ (outcome_number answer ≡ 18)
below_zero_iff_overload h q start rs ds ps lent table answer report long plans reports =
    let J = jobs_from h q start rs ds ps in
    (overload_if J lent long answer plans.number report (reports q start), below_zero_if J lent long answer plans.number report (reports q start))
