-- When an interval is told, and what each check leaves to say.
use Rattle.std.specs.Prelude.{ℕ, ◌<◌, ◌≡◌, Bool, true, false, ◌⊎◌, eqb, Err, Ok, Result}
use Rattle.std.proofs.Math.Path.{refl, ap}
use Rattle.std.proofs.Common.{sym, subst, ◌∙◌, inl, inr, arith, eqb-true}
use Rattle.std.proofs.lemmas.Bool.{eqb-false}
use Rattle.sched.specs.Jobs.{Jobs, count}
use Rattle.sched.proofs.Refusals.Laws.{refusal_number}
use Rattle.sched.specs.Checks.{Passes, refuse_if, check_of}
use Rattle.sched.proofs.Checks.Laws.{refuse_passed, then_passed, then_fails, then_passes, passed_passes, passes_passed}
use Rattle.sched.specs.declared.Refusal.{Refusal}
use Rattle.sched.specs.declared.Refusal.TheVariants.{NoJobs}
use Rattle.tightest.specs.declared.Tight.{Tight}
use Rattle.tightest.specs.Slack.{tightest_of, IsTightest}
use Rattle.tightest.proofs.Slack.Laws.{tightest_found, tightest_one}
use Rattle.tightest.specs.Answer.{no_jobs_check, tightness_check, tells, tightness, tightness_number, tightness_values, TightnessPromise}
use Rattle.sched.specs.Refusals.{Checked}

pub some_good : (n : ℕ) → no_jobs_check n ≡ Ok tt → 0 < n
some_good n e = omega (arith, eqb-false n 0 (refuse_passed (eqb n 0) (NoJobs 0) (Ok tt) e).0)

some_passes : (n : ℕ) → 0 < n → no_jobs_check n ≡ Ok tt
some_passes n l = go (eqb n 0) refl
  where
    go : (t : Bool) → eqb n 0 ≡ t → refuse_if t (NoJobs 0) (Ok tt) ≡ Ok tt
    go true e = absurd (omega (arith, eqb-true n 0 e))
    go false e = refl

module _ (J : Jobs) where
  -- a fault of the list comes first, then 34

  list_first : (r : Refusal) → check_of J ≡ Err r → tightness_check J ≡ Err r
  list_first r e = then_fails (check_of J) (no_jobs_check (count J)) r e

  jobs_next : check_of J ≡ Ok tt → tightness_check J ≡ no_jobs_check (count J)
  jobs_next e = then_passes (check_of J) (no_jobs_check (count J)) e

  -- an interval is reported of a list that passes the list checks and has a job, and of no other

  pub found_if : Passes J → 0 < count J → tightness J ≡ Ok (tightest_of J)
  unfolding tightness
  found_if p some = ap (λ (c : Checked). tells c (tightest_of J)) (jobs_next (passes_passed J p) ∙ some_passes (count J) some)

  pub found_checked : (x : Tight) → tightness J ≡ Ok x → Passes J × (0 < count J)
  unfolding tightness
  found_checked x e = go (tightness_check J) refl
    where
      go : (c : Checked) → tightness_check J ≡ c → Passes J × (0 < count J)
      go (Ok tt) f =
          let (list, some) = then_passed (check_of J) (no_jobs_check (count J)) f in
          (passed_passes J list, some_good (count J) some)
      go (Err r) f = absurd (refusal_number r (sym (ap (λ (c : Checked). tightness_number (tells c (tightest_of J))) f) ∙ ap tightness_number e))

  -- the promise, from the answer alone
  pub promised : (answer : Result Tight Refusal) → answer ≡ tightness J → TightnessPromise J answer
  promised answer same =
      record {
        number = ap tightness_number same;
        values = ap tightness_values same;
        same = same;
        tightest = λ x e. found x (sym same ∙ e);
      }
    where
      found : (x : Tight) → tightness J ≡ Ok x → IsTightest J x
      found x e =
          let (p, some) = found_checked x e in
          let y : tightest_of J ≡ x = inside (sym (found_if p some) ∙ e) in
          subst (IsTightest J) y (tightest_found J p some)
        where
          inside : {x y : Tight} → ◌≡◌ {A = Result Tight Refusal} (Ok x) (Ok y) → x ≡ y
          inside f = cc

  pub list_refused : (r : Refusal) → check_of J ≡ Err r → TightnessPromise J (Err r)
  unfolding tightness
  list_refused r e = promised (Err r) (sym (ap (λ (c : Checked). tells c (tightest_of J)) (list_first r e)))

  pub jobs_refused : (r : Refusal) → check_of J ≡ Ok tt → no_jobs_check (count J) ≡ Err r → TightnessPromise J (Err r)
  unfolding tightness
  jobs_refused r e f = promised (Err r) (sym (ap (λ (c : Checked). tells c (tightest_of J)) (jobs_next e ∙ f)))

  pub tightest_reported : Passes J → 0 < count J → (x : Tight) → IsTightest J x → TightnessPromise J (Ok x)
  tightest_reported p some x t = promised (Ok x) (ap Ok (tightest_one J x (tightest_of J) t (tightest_found J p some)) ∙ sym (found_if p some))

  -- only a fault of the list is refused, or a list without jobs
  pub refused_only : (r : Refusal) → tightness J ≡ Err r → (check_of J ≡ Err r) ⊎ (Passes J × (count J ≡ 0) × (r ≡ NoJobs 0))
  unfolding tightness
  refused_only r e = by_list (check_of J) refl
    where
      same : {s : Refusal} → ◌≡◌ {A = Result Tight Refusal} (Err s) (Err r) → s ≡ r
      same f = cc

      told : {c : Checked} → tightness_check J ≡ c → tells c (tightest_of J) ≡ Err r
      told f = sym (ap (λ (c : Checked). tells c (tightest_of J)) f) ∙ e

      by_count : Passes J → (t : Bool) → eqb (count J) 0 ≡ t → tells (refuse_if t (NoJobs 0) (Ok tt)) (tightest_of J) ≡ Err r →
          (check_of J ≡ Err r) ⊎ (Passes J × (count J ≡ 0) × (r ≡ NoJobs 0))
      by_count p true f g = inr (p, eqb-true (count J) 0 f, sym (same g))
      by_count p false f g = absurd (refusal_number r (sym (ap tightness_number g)))

      by_list : (c : Checked) → check_of J ≡ c → (check_of J ≡ Err r) ⊎ (Passes J × (count J ≡ 0) × (r ≡ NoJobs 0))
      by_list (Err s) f = inl (f ∙ ap Err (same (told (list_first s f))))
      by_list (Ok tt) f = by_count (passed_passes J f) (eqb (count J) 0) refl (told (jobs_next f))
