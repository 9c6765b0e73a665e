-- 02, card 7: what the tightest interval is, by the words of `specs/Theorems`.
use Rattle.std.specs.Prelude.{ℕ, zero, suc, ◌+◌, ◌≤◌, ◌<◌, ◌≡◌, refl, true, false, ◌⊎◌, eqb, ◌≤ℤ◌, Err, Ok, Result}
use Rattle.std.proofs.Common.{sym, ap, ◌∙◌, arith, eqb-true}
use Rattle.std.proofs.lemmas.Bool.{eqb-false}
use Rattle.sched.specs.Bounded.{any_below}
use Rattle.sched.proofs.Bounded.Laws.{by_bool, any_elim, any_none}
use Rattle.sched.specs.Jobs.{Jobs, count, release, deadline}
use Rattle.sched.specs.Checks.{Passes, check_of}
use Rattle.sched.specs.declared.Refusal.{Refusal}
use Rattle.sched.specs.declared.Refusal.TheVariants.{NoJobs}
use Rattle.steps.specs.Overload.{volume_inside}
use Rattle.laws_edf.proofs.Overload.Ends.{end_unused, start_unused}
use Rattle.tightest.specs.declared.Tight.{Tight}
use Rattle.tightest.proofs.Signed.{slack_at_most, at_most_trans}
use Rattle.tightest.specs.Slack.{slack_of, ReleaseToDeadline, IsTightest, tightest_of}
use Rattle.tightest.specs.Answer.{TightnessPromise}
use Rattle.tightest.proofs.Answer.Laws.{found_if, found_checked, list_refused, refused_only}
use Rattle.tightest.specs.Theorems.{Holds, CutEnd, CutStart}
pub mod Overload

module _ (J : Jobs) (p : Passes J) where
  to_deadline : (a b : ℕ) → Holds J a b → CutEnd J a b
  to_deadline a zero h = absurd (omega (arith, h.to, (p.good h.job h.known).span))
  to_deadline a (suc b) h =
      by_bool (any_below (count J) (λ k. eqb (deadline J k) (suc b))) here (λ n. earlier (any_none (count J) _ n) (to_deadline a b))
    where
      here : any_below (count J) (λ k. eqb (deadline J k) (suc b)) ≡ true → CutEnd J a (suc b)
      here e =
          let (j, l, t) = any_elim (count J) _ e in
          let q = eqb-true (deadline J j) (suc b) t in
          (j, l, omega arith, ap (volume_inside J a) q, rw q h)

      earlier : ((k : ℕ) → k < count J → eqb (deadline J k) (suc b) ≡ false) → (Holds J a b → CutEnd J a b) → CutEnd J a (suc b)
      earlier n cut =
          let not_last = eqb-false (deadline J h.job) (suc b) (n h.job h.known) in
          let (j, l, m, same, held) = cut (record { job = h.job; known = h.known; from = h.from; to = omega (arith, h.to, not_last) }) in
          (j, l, omega arith, same ∙ sym (end_unused J a b n), held)

  -- within k slots from a
  to_release : (k a b : ℕ) → b ≤ a + k → Holds J a b → CutStart J a b
  to_release zero a b m h = absurd (omega (arith, h.from, h.to, (p.good h.job h.known).span))
  to_release (suc k) a b m h =
      by_bool (any_below (count J) (λ i. eqb (release J i) a)) here (λ n. later (any_none (count J) _ n) (to_release k (suc a) b (omega arith)))
    where
      here : any_below (count J) (λ i. eqb (release J i) a) ≡ true → CutStart J a b
      here e =
          let (i, l, t) = any_elim (count J) _ e in
          let q = eqb-true (release J i) a t in
          (i, l, omega arith, ap (λ (s : ℕ). volume_inside J s b) q, rw q h)

      later : ((i : ℕ) → i < count J → eqb (release J i) a ≡ false) → (Holds J (suc a) b → CutStart J (suc a) b) → CutStart J a b
      later n cut =
          let not_first = eqb-false (release J h.job) a (n h.job h.known) in
          let (i, l, o, same, held) = cut (record { job = h.job; known = h.known; from = omega (arith, h.from, not_first); to = h.to }) in
          (i, l, omega arith, same ∙ sym (start_unused J a b n), held)

  -- every interval that holds a job has at least the slack of the tightest, whatever a and b are
  holding_at_least : (x : Tight) → IsTightest J x → (a b : ℕ) → Holds J a b → x.slack ≤ℤ slack_of J a b
  unfolding slack_of
  holding_at_least x t a b h =
      let (j, m, sooner, same_end, held) = to_deadline a b h in
      let (i, l, later, same_start, inner) = to_release (deadline J j) a (deadline J j) (omega arith) held in
      let good = (p.good inner.job inner.known).span in
      let spans : ReleaseToDeadline J (release J i) (deadline J j) =
      record { released = (i, l, refl); due = (j, m, refl); ahead = omega (arith, inner.from, inner.to, good) } in
      at_most_trans (t.least (release J i) (deadline J j) spans)
      (slack_at_most (release J i) (deadline J j) (volume_inside J (release J i) (deadline J j)) a b (volume_inside J a b) (omega (arith, same_end, same_start)))

-- Of what `find` answers

module _ (J : Jobs) (answer : Result Tight Refusal) (promise : TightnessPromise J answer) where
  -- an interval is reported exactly of the lists that pass the list checks and have a job

  pub reports_if : Passes J → 0 < count J → (x : Tight) × (answer ≡ Ok x)
  reports_if p some = (tightest_of J, promise.same ∙ found_if J p some)

  pub reports_only : (x : Tight) → answer ≡ Ok x → Passes J × (0 < count J)
  reports_only x e = found_checked J x (sym promise.same ∙ e)

  -- a fault of the list is told as the list checks tell it, and nothing else is refused but a list without jobs

  pub refuses_if : (r : Refusal) → check_of J ≡ Err r → answer ≡ Err r
  refuses_if r e = promise.same ∙ sym (list_refused J r e).same

  pub refuses_only : (r : Refusal) → answer ≡ Err r → (check_of J ≡ Err r) ⊎ (Passes J × (count J ≡ 0) × (r ≡ NoJobs 0))
  refuses_only r e = refused_only J r (sym promise.same ∙ e)

  -- no interval from a release to a deadline has less slack, and no interval that holds a job
  module _ (x : Tight) (e : answer ≡ Ok x) where
    pub never_undercut : (a b : ℕ) → ReleaseToDeadline J a b → x.slack ≤ℤ slack_of J a b
    never_undercut a b s = (promise.tightest x e).least a b s

    pub held_at_least : (a b : ℕ) → Holds J a b → x.slack ≤ℤ slack_of J a b
    held_at_least a b h = holding_at_least J (reports_only x e).0 x (promise.tightest x e) a b h
