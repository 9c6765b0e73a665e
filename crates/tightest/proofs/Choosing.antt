-- The tightest intervals of the ends, one by one: which is kept, and that it is as good as each.
use Prim.Native.Nat.{ℕ, ◌+◌, ◌≤◌, ◌<◌}
use mathlib.Core.Path.{◌≡◌, refl, sym, ap, subst, ◌∙◌}
use mathlib.Core.Bool.{Bool, true, false}
use mathlib.Core.Logic.{◌⊎◌, inl, inr}
use native.Mathlib.Omega.{arith}
use native.Mathlib.Decide.{ℕ_discrete}
use borrow.Author.Tests.{ltb-true, ltb-false}
use lib.Dec.{ltb}
use lib.Signed.{lt_z}
use Rattle.sched.specs.Jobs.{Jobs, deadline}
use Rattle.tightest.specs.declared.Tight.{Tight}
use Rattle.tightest.proofs.Signed.{less_is, less_not}
use Rattle.tightest.specs.Slack.{slack_of, gauged, ReleaseToDeadline, Gauged, AsGood}
use Rattle.tightest.proofs.Slack.Laws.{as_good_self, as_good_trans, less_good}
use Rattle.tightest.specs.Search.{chosen, rather, TightestTo}

module _ (x y : Tight) where
  -- what is kept is one of the two, and as good as both
  pub rather_good : (y.slack ≡ x.slack → y.b ≡ x.b → y.a ≤ x.a) →
      ((rather x y ≡ x) ⊎ (rather x y ≡ y)) × AsGood (rather x y) x × AsGood (rather x y) y
  rather_good ties = go (lt_z y.slack x.slack) refl (lt_z x.slack y.slack) refl (ltb y.b x.b) refl
    where
      go : (s : Bool) → lt_z y.slack x.slack ≡ s → (t : Bool) → lt_z x.slack y.slack ≡ t → (u : Bool) → ltb y.b x.b ≡ u →
          ((chosen s y (chosen t x (chosen u y x)) ≡ x) ⊎ (chosen s y (chosen t x (chosen u y x)) ≡ y)) ×
          AsGood (chosen s y (chosen t x (chosen u y x))) x × AsGood (chosen s y (chosen t x (chosen u y x))) y
      go true e t f u g = (inr refl, less_good (less_is y.slack x.slack e), as_good_self y)
      go false e true f u g = (inl refl, as_good_self x, less_good (less_is x.slack y.slack f))
      go false e false f true g =
          let sooner = ltb-true y.b x.b g in
          (inr refl, record { slack = less_not x.slack y.slack f; end = λ s. omega arith; start = λ s h. absurd (omega arith) }, as_good_self y)
      go false e false f false g =
          (inl refl, as_good_self x, record { slack = less_not y.slack x.slack e; end = λ s. ltb-false y.b x.b g; start = ties })

module _ (J : Jobs) where
  -- x is as good as each interval that ends with a deadline of the first m jobs, or where x ends
  pub record BestTo (m : ℕ) (x : Tight) : Type 0 where
    pub gauged_is : Gauged J x
    pub own : (a : ℕ) → ReleaseToDeadline J a x.b → AsGood x (gauged J a x.b)
    pub best : (j : ℕ) → j < m → (a : ℕ) → ReleaseToDeadline J a (deadline J j) → AsGood x (gauged J a (deadline J j))

  own_best : {b : ℕ} {x : Tight} → TightestTo J b x → (a : ℕ) → ReleaseToDeadline J a x.b → AsGood x (gauged J a x.b)
  own_best {b = b} {x = x} t = subst (λ (e : ℕ). (a : ℕ) → ReleaseToDeadline J a e → AsGood x (gauged J a e)) (sym t.end_is) t.best

  pub next_end : (m : ℕ) (x y : Tight) → BestTo m x → TightestTo J (deadline J m) y → BestTo (m + 1) (rather x y)
  next_end m x y w t = kept (rather_good x y ties)
    where
      ties : y.slack ≡ x.slack → y.b ≡ x.b → y.a ≤ x.a
      ties e f = (w.own y.a (subst (ReleaseToDeadline J y.a) f t.gauged_is.spans)).start (ap (slack_of J y.a) (sym f) ∙ sym t.gauged_is.slack_is ∙ e) refl

      each : {r : Tight} → AsGood r x → AsGood r y → (j : ℕ) → j < m + 1 → Dec (m ≡ j) → (a : ℕ) → ReleaseToDeadline J a (deadline J j) → AsGood r (gauged J a (deadline J j))
      each {r = r} p q j l (yes e) a s =
          subst (λ (i : ℕ). (a : ℕ) → ReleaseToDeadline J a (deadline J i) → AsGood r (gauged J a (deadline J i))) e (λ a s. as_good_trans q (t.best a s)) a s
      each p q j l (no e) a s = as_good_trans p (w.best j (omega arith) a s)

      kept : ((rather x y ≡ x) ⊎ (rather x y ≡ y)) × AsGood (rather x y) x × AsGood (rather x y) y → BestTo (m + 1) (rather x y)
      kept (inl e, p, q) =
          record {
            gauged_is = subst (Gauged J) (sym e) w.gauged_is;
            own = subst (λ (r : Tight). (a : ℕ) → ReleaseToDeadline J a r.b → AsGood r (gauged J a r.b)) (sym e) w.own;
            best = λ j l. each p q j l (ℕ_discrete m j);
          }
      kept (inr e, p, q) =
          record {
            gauged_is = subst (Gauged J) (sym e) t.gauged_is;
            own = subst (λ (r : Tight). (a : ℕ) → ReleaseToDeadline J a r.b → AsGood r (gauged J a r.b)) (sym e) (own_best t);
            best = λ j l. each p q j l (ℕ_discrete m j);
          }
