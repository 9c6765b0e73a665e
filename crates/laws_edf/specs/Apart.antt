-- Two states one unit apart, at one slot that is awake for both or asleep for both: they stay so, or meet.
use Rattle.std.specs.Prelude.{ℕ, zero, suc, ◌+◌, ◌≤◌, ◌<◌, ◌≡◌, refl, Bool, ◌≢◌}
use Rattle.std.proofs.Common.{ap, arith}
use Rattle.std.proofs.Math.Option.{Option, none, some}
use Rattle.std.proofs.Math.Decide.{ℕ_discrete}
use Rattle.laws_edf.specs.Run.{Spans, State, Eligible, chosen, lowered, after, gain, vol}
use Rattle.laws_edf.specs.Pick.{first_unique, Chosen, View, view}
use Rattle.laws_edf.specs.Units.{OneMore, lowered_less, less_is_lowered, both_lowered, less_everywhere}

pub eligible_with : (F : Spans) (t : ℕ) (L M : State) (j : ℕ) → Eligible F t L j → 0 < M j → Eligible F t M j
eligible_with F t L M j e u = record { below = e.below; released = e.released; before = e.before; unit = u }

-- M has a unit of k more than L before slot t. After it the states are M' and L', and g and h were served.
pub data Step (F : Spans) (t k : ℕ) (M L M' L' : State) (g h : ℕ) : Type 0 where
  stays : g ≡ h → OneMore k M' L' → Step F t k M L M' L' g h
  moves : (k' : ℕ) → g ≡ h → Eligible F t M k → Chosen F t L k' → F.d k ≤ F.d k' → M' ≡ L → OneMore k' M' L' → Step F t k M L M' L' g h
  meets : g ≡ suc h → Eligible F t M k → ((j : ℕ) → Eligible F t L j → ⊥) → M' ≡ L → M' ≡ L' → Step F t k M L M' L' g h

module _ (F : Spans) (b : Bool) (t k : ℕ) (M L : State) (o : OneMore k M L) where
  more : (j : ℕ) → Eligible F t L j → Eligible F t M j
  more j e = eligible_with F t L M j e (omega (arith, e.unit, less_everywhere k M L o j))

  other : (j : ℕ) → j ≢ k → Eligible F t M j → Eligible F t L j
  other j f e = eligible_with F t M L j e (omega (arith, e.unit, o.elsewhere j f))

  step_by : (x y : Option ℕ) → View F b t M x → View F b t L y → Step F t k M L (after M x) (after L y) (gain x) (gain y)
  step_by none none v w = stays refl o
  step_by none (some l) v w = absurd (v w.0 l (more l w.1.able))
  step_by (some m) none v w = go (ℕ_discrete m k)
    where
      go : Dec (m ≡ k) → Step F t k M L (lowered M m) L 1 0
      go (yes e) = rw e (meets refl (rw e at v.1.able) (w v.0) (less_is_lowered k M L o) (less_is_lowered k M L o))
      go (no f) = absurd (w v.0 m (other m f v.1.able))
  step_by (some m) (some l) v w = go (ℕ_discrete m k)
    where
      go : Dec (m ≡ k) → Step F t k M L (lowered M m) (lowered L l) 1 1
      go (yes e) =
          moves l refl (rw e at v.1.able) w.1 (rw e at (v.1.first l (more l w.1.able)).sooner)
          (rw e (less_is_lowered k M L o))
          (rw (e, less_is_lowered k M L o) (lowered_less L l w.1.able.unit))
      go (no f) =
          let q : m ≡ l = first_unique F.d m l (v.1.first l (more l w.1.able)) (w.1.first m (other m f v.1.able)) in
          stays refl (rw (← q) (both_lowered k m M L o f))

  pub step : Step F t k M L (after M (chosen F b t M)) (after L (chosen F b t L)) (gain (chosen F b t M)) (gain (chosen F b t L))
  step = step_by (chosen F b t M) (chosen F b t L) (view F b t M) (view F b t L)

-- v units or one more
pub record OneAtMost (v w : ℕ) : Type 0 where
  pub low : v ≤ w
  pub high : w ≤ suc v

-- A unit more is worth at most one.
pub one_more_worth : (F : Spans) (S : ℕ → Bool) (h t k : ℕ) (M L : State) → OneMore k M L → OneAtMost (vol F S h t L) (vol F S h t M)
unfolding vol
one_more_worth F S zero t k M L o = record { low = omega arith; high = omega arith }
one_more_worth F S (suc h) t k M L o = go (one_more_worth F S h (suc t)) (step F (S t) t k M L o)
  where
    go : {M' L' : State} {g i : ℕ} → ((k : ℕ) (M L : State) → OneMore k M L → OneAtMost (vol F S h (suc t) L) (vol F S h (suc t) M)) →
        Step F t k M L M' L' g i → OneAtMost (i + vol F S h (suc t) L') (g + vol F S h (suc t) M')
    go {M'} {L'} ih (stays e p) = let w = ih k M' L' p in record { low = omega arith; high = omega arith }
    go {M'} {L'} ih (moves k' e a c l i p) = let w = ih k' M' L' p in record { low = omega arith; high = omega arith }
    go {M'} {L'} ih (meets e a c i q) =
        let w : vol F S h (suc t) M' ≡ vol F S h (suc t) L' = ap (λ (X : State). vol F S h (suc t) X) q in
        record { low = omega arith; high = omega arith }
