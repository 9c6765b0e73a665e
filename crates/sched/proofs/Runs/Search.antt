-- The search for the end of a stretch, slot by slot, in a set S of n slots; and that a run begins behind a stretch of sleep.
use Rattle.std.specs.Prelude.{ℕ, ◌+◌, ◌≤◌, ◌<◌, ◌≡◌, refl, Bool, true, false, not, List, ltb}
use Rattle.std.proofs.Common.{sym, ap, ◌∙◌, arith, ltb-true, ltb-false}
use Rattle.std.specs.Bool.{beq}
use Rattle.sched.proofs.Bounded.Laws.{by_bool, true_not_false}
use Rattle.sched.specs.Slots.{awake}
use Rattle.sched.specs.Runs.{StretchEnd}

differs : (x b : Bool) → not (beq x b) ≡ true → x ≡ not b
differs true true e = let z : ◌≡◌ {A = ℕ} 0 1 = cc in absurd (omega arith)
differs true false e = refl
differs false true e = refl
differs false false e = let z : ◌≡◌ {A = ℕ} 0 1 = cc in absurd (omega arith)

agrees : (x b : Bool) → not (beq x b) ≡ false → x ≡ b
agrees true true e = refl
agrees true false e = let z : ◌≡◌ {A = ℕ} 0 1 = cc in absurd (omega arith)
agrees false true e = let z : ◌≡◌ {A = ℕ} 0 1 = cc in absurd (omega arith)
agrees false false e = refl

-- the search for an end stands at slot t
pub record Reached (S : List Bool) (n from : ℕ) (b : Bool) (t : ℕ) : Type 0 where
  pub starts : from ≤ t
  pub within : t ≤ n
  pub inside : (i : ℕ) → from ≤ i → i < t → awake S i ≡ b

pub reached_none : (S : List Bool) (n from : ℕ) (b : Bool) → from ≤ n → Reached S n from b from
reached_none S n from b l = record { starts = omega arith; within = l; inside = λ i s m. absurd (omega arith) }

pub reached_end : (S : List Bool) (n from : ℕ) (b : Bool) (t : ℕ) → Reached S n from b t → n ≤ t → StretchEnd S n from b t
reached_end S n from b t g l =
    record { starts = g.starts; within = g.within; inside = g.inside; turns = λ m. absurd (omega arith) }

-- the next slot, found to be x: it is in the other state, or in the same
module _ (S : List Bool) (n from : ℕ) (b : Bool) (t : ℕ) (x : Bool) (g : Reached S n from b t) (l : t < n) (e : x ≡ awake S t) where
  pub reached_turn : not (beq x b) ≡ true → StretchEnd S n from b t
  reached_turn d = record { starts = g.starts; within = g.within; inside = g.inside; turns = λ m. sym e ∙ differs x b d }

  pub reached_on : not (beq x b) ≡ false → Reached S n from b (t + 1)
  reached_on a =
      record {
        starts = omega (arith, g.starts);
        within = omega arith;
        inside = λ i s m.
            by_bool (ltb i t)
            (λ y. g.inside i s (ltb-true i t y))
            (λ z. let same : i ≡ t = omega (arith, ltb-false i t z) in ap (awake S) same ∙ sym e ∙ agrees x b a);
      }

-- a run begins at slot t, or the set is at its end
pub record RunFrom (S : List Bool) (n t : ℕ) : Type 0 where
  pub within : t ≤ n
  pub begins : t < n → awake S t ≡ true

-- it does behind a stretch of sleep
pub run_from : (S : List Bool) (n from t : ℕ) → StretchEnd S n from false t → RunFrom S n t
run_from S n from t e = record { within = e.within; begins = e.turns }

-- and it has a slot
pub run_moves : (S : List Bool) (n t r : ℕ) → RunFrom S n t → t < n → StretchEnd S n t true r → t < r
run_moves S n t r g l e =
    by_bool (ltb t r) (ltb-true t r)
    (λ z.
    let same : r ≡ t = omega (arith, ltb-false t r z, e.starts) in
    absurd (true_not_false _ (g.begins l) (sym (ap (awake S) same) ∙ e.turns (omega arith))))
