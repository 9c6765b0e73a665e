-- What is left along the run: it only falls, a job is served in its own slots only, and what is served is no longer left.
use Prim.Native.Nat.{ℕ, zero, suc, ◌+◌, ◌≤◌, ◌<◌}
use Rattle.std.specs.Prelude.{◌≡◌, Bool, false}
use Rattle.std.proofs.Math.Path.{refl, ap}
use Rattle.std.proofs.Common.{sym, ◌∙◌}
use Rattle.std.proofs.Math.Option.{Option, none, some}
use native.Mathlib.Omega.{arith}
use Rattle.std.proofs.Math.Decide.{ℕ_discrete, le_ind}
use Rattle.laws_edf.specs.Run.{Spans, State, Eligible, chosen, lowered, after, gain, vol, final, left, all_units}
use Rattle.laws_edf.specs.Pick.{View, view}
use Rattle.laws_edf.specs.Units.{OneMore, lowered_less, lowered_elsewhere, less_everywhere, sum_one_more}

module _ (F : Spans) (b : Bool) (t : ℕ) (L : State) where
  after_falls : (o : Option ℕ) → View F b t L o → (j : ℕ) → after L o j ≤ L j
  after_falls none v j = omega arith
  after_falls (some k) v j = less_everywhere k L (lowered L k) (lowered_less L k v.1.able.unit) j

  after_keeps : (o : Option ℕ) → View F b t L o → (j : ℕ) → (Eligible F t L j → ⊥) → after L o j ≡ L j
  after_keeps none v j f = refl
  after_keeps (some k) v j f = go (ℕ_discrete j k)
    where
      go : Dec (j ≡ k) → lowered L k j ≡ L j
      go (yes e) = absurd (f (rw e v.1.able))
      go (no g) = lowered_elsewhere L k j g

  after_units : (o : Option ℕ) → View F b t L o → gain o + all_units F (after L o) ≡ all_units F L
  after_units none v = omega arith
  after_units (some k) v =
      omega (arith, sum_one_more F.n k L (lowered L k) v.1.able.below (lowered_less L k v.1.able.unit))

-- Served and left together are what there was.
pub served_and_left : (F : Spans) (S : ℕ → Bool) (h t : ℕ) (L : State) → vol F S h t L + all_units F (final F S h t L) ≡ all_units F L
unfolding vol final
served_and_left F S zero t L = omega arith
served_and_left F S (suc h) t L =
    let o = chosen F (S t) t L in
    omega (arith, served_and_left F S h (suc t) (after L o), after_units F (S t) t L o (view F (S t) t L))

-- units past their deadline stay left: they are lost
pub final_late : (F : Spans) (S : ℕ → Bool) (h t : ℕ) (L : State) (j : ℕ) → F.d j ≤ t → final F S h t L j ≡ L j
unfolding final
final_late F S zero t L j d = refl
final_late F S (suc h) t L j d =
    let o = chosen F (S t) t L in
    final_late F S h (suc t) (after L o) j (omega arith) ∙ after_keeps F (S t) t L o (view F (S t) t L) j (λ e. omega (arith, e.before))

module _ (F : Spans) (S : ℕ → Bool) (p : State) where
  pub final_left : (h t T : ℕ) → t + h ≡ T → final F S h t (left F S p t) ≡ left F S p T
  unfolding final left
  final_left zero t T e = let q : t ≡ T = omega arith in rw q
  final_left (suc h) t T e = final_left h (suc t) T (omega arith)

  -- served and lost units together are those of the start
  pub vol_and_left : (H : ℕ) → vol F S H 0 p + all_units F (left F S p H) ≡ all_units F p
  unfolding left
  vol_and_left H =
      ap (λ (L : State). vol F S H 0 p + all_units F L) (sym (final_left H 0 H (omega arith))) ∙ served_and_left F S H 0 p

  pub left_asleep : (t : ℕ) → S t ≡ false → left F S p (suc t) ≡ left F S p t
  unfolding left chosen
  left_asleep t e = rw (e, left, chosen)

  left_step : (t j : ℕ) → left F S p (suc t) j ≤ left F S p t j
  unfolding left
  left_step t j =
      after_falls F (S t) t (left F S p t) (chosen F (S t) t (left F S p t)) (view F (S t) t (left F S p t)) j

  left_kept : (t j : ℕ) → (Eligible F t (left F S p t) j → ⊥) → left F S p (suc t) j ≡ left F S p t j
  unfolding left
  left_kept t j f =
      after_keeps F (S t) t (left F S p t) (chosen F (S t) t (left F S p t)) (view F (S t) t (left F S p t)) j f

  pub left_falls : (t T j : ℕ) → t ≤ T → left F S p T j ≤ left F S p t j
  left_falls t T j l =
      le_ind (λ m. left F S p m j ≤ left F S p t j) (omega arith) (λ m q ih. omega (arith, left_step m j)) T l

  pub left_unreleased : (t j : ℕ) → t ≤ F.r j → left F S p t j ≡ p j
  unfolding left
  left_unreleased zero j l = refl
  left_unreleased (suc t) j l = left_kept t j (λ e. omega (arith, e.released)) ∙ left_unreleased t j (omega arith)

-- two sets of awake slots, by what their runs leave
module _ (F : Spans) (S S' : ℕ → Bool) (p : State) (H : ℕ) where
  pub same_left : left F S p H ≡ left F S' p H → vol F S' H 0 p ≡ vol F S H 0 p
  same_left e = omega (arith, vol_and_left F S p H, vol_and_left F S' p H, ap (λ (L : State). all_units F L) e)

  pub one_less_left : (k : ℕ) → k < F.n → OneMore k (left F S p H) (left F S' p H) → vol F S' H 0 p ≡ suc (vol F S H 0 p)
  one_less_left k b o =
      omega (arith, vol_and_left F S p H, vol_and_left F S' p H, sum_one_more F.n k (left F S p H) (left F S' p H) b o)
