-- The built set is allowed, has the recursion's cost, and precedes every other allowed set of that cost.
use Rattle.std.specs.Prelude.{ℕ, zero, suc, ◌+◌, ◌≤◌, ◌<◌, ◌≡◌, Bool, true, false, List, [], ◌∷◌, ◌⊎◌, length}
use Rattle.std.proofs.Common.{sym, ap, ◌∙◌, inl, inr, arith}
use Rattle.std.proofs.Math.Decide.{dec_lt}
use Rattle.sched.proofs.Bounded.Laws.{by_bool, true_not_false}
use Rattle.laws_skeleton.specs.Recursion.{cost, Allowed, least, built}
use Rattle.laws_skeleton.proofs.Recursion.Clauses.{cost_end, cost_sleep, price, cost_awake, least_end, least_due, least_sleeps, least_awake, built_end, built_due, built_sleeps, built_goes_on, built_ends}
use Rattle.laws_skeleton.proofs.Recursion.Exchange.{allowed_costs}
use Rattle.steps.specs.Skeleton.{Precedes}

module _ (due : ℕ → ℕ → Bool) (q : ℕ) where
  abbrev L : ℕ → Bool → ℕ → ℕ → ℕ
  L = least due q

  abbrev B : ℕ → Bool → ℕ → ℕ → List Bool
  B = built due q

  -- the first slot of the built set wakes or sleeps, and what that means for the cost
  record Wakes (k : ℕ) (b : Bool) (t c : ℕ) : Type 0 where
    is : B (suc k) b t c ≡ true ∷ B k true (suc t) (suc t)
    value : L (suc k) b t c ≡ price q b + suc (L k true (suc t) (suc t))
    dearer : (due c t ≡ true) ⊎ (L (suc k) b t c < L (suc k) false t c)

  record Sleeps (k : ℕ) (b : Bool) (t c : ℕ) : Type 0 where
    is : B (suc k) b t c ≡ false ∷ B k false (suc t) c
    free : due c t ≡ false
    value : L (suc k) b t c ≡ L k false (suc t) c

  first : (k : ℕ) (b : Bool) (t c : ℕ) → Wakes k b t c ⊎ Sleeps k b t c
  first k false t c = by_bool (due c t)
      (λ e. inl (record { is = built_due due q k false t c e; value = least_due due q k t c e; dearer = inl e }))
      (λ e. inr (record { is = built_sleeps due q k t c e; free = e; value = least_sleeps due q k t c e }))
  first k true t c =
      by_bool (due c t)
      (λ e. inl (record {
        is = built_due due q k true t c e;
        value = omega (arith, least_awake due q k t c, least_due due q k t c e);
        dearer = inl e;
      }))
      (λ e. go e (dec_lt (suc (L k true (suc t) (suc t))) (L (suc k) false t c)))
    where
      go : due c t ≡ false → Dec (suc (L k true (suc t) (suc t)) < L (suc k) false t c) → Wakes k true t c ⊎ Sleeps k true t c
      go e (yes l) = inl (record {
        is = built_goes_on due q k t c e l;
        value = omega (arith, least_awake due q k t c);
        dearer = inr (omega (arith, least_awake due q k t c));
      })
      go e (no n) = inr (record {
        is = built_ends due q k t c e (omega arith);
        free = e;
        value = omega (arith, least_awake due q k t c, least_sleeps due q k t c e);
      })

  pub built_length : (k : ℕ) (b : Bool) (t c : ℕ) → length (B k b t c) ≡ k
  built_length zero b t c = ap length (built_end due q b t c)
  built_length (suc k) b t c = go (first k b t c) (built_length k true (suc t) (suc t)) (built_length k false (suc t) c)
    where
      go : Wakes k b t c ⊎ Sleeps k b t c → length (B k true (suc t) (suc t)) ≡ k → length (B k false (suc t) c) ≡ k
          → length (B (suc k) b t c) ≡ suc k
      go (inl w) on off = ap length w.is ∙ ap suc on
      go (inr s) on off = ap length s.is ∙ ap suc off

  pub built_allowed : (k : ℕ) (b : Bool) (t c : ℕ) → Allowed due t c (B k b t c)
  built_allowed zero b t c = rw (built_end due q b t c) tt
  built_allowed (suc k) b t c = go (first k b t c) (built_allowed k true (suc t) (suc t)) (built_allowed k false (suc t) c)
    where
      go : Wakes k b t c ⊎ Sleeps k b t c → Allowed due (suc t) (suc t) (B k true (suc t) (suc t)) → Allowed due (suc t) c (B k false (suc t) c)
          → Allowed due t c (B (suc k) b t c)
      go (inl w) on off = rw w.is on
      go (inr s) on off = rw s.is (s.free, off)

  pub built_costs : (k : ℕ) (b : Bool) (t c : ℕ) → cost q b (B k b t c) ≡ L k b t c
  built_costs zero b t c = ap (cost q b) (built_end due q b t c) ∙ cost_end q b ∙ sym (least_end due q b t c)
  built_costs (suc k) b t c = go (first k b t c) (built_costs k true (suc t) (suc t)) (built_costs k false (suc t) c)
    where
      go : Wakes k b t c ⊎ Sleeps k b t c → cost q true (B k true (suc t) (suc t)) ≡ L k true (suc t) (suc t)
          → cost q false (B k false (suc t) c) ≡ L k false (suc t) c → cost q b (B (suc k) b t c) ≡ L (suc k) b t c
      go (inl w) on off = ap (cost q b) w.is ∙ cost_awake q b _ ∙ ap (λ (n : ℕ). price q b + suc n) on ∙ sym w.value
      go (inr s) on off = ap (cost q b) s.is ∙ cost_sleep q b _ ∙ off ∙ sym s.value

module _ (due : ℕ → ℕ → Bool) (q : ℕ) (rises : (c c' t : ℕ) → c ≤ c' → due c' t ≡ true → due c t ≡ true) where
  pub built_precedes : (k : ℕ) (b : Bool) (t c : ℕ) (S : List Bool) → length S ≡ k → Allowed due t c S → cost q b S ≡ L due q k b t c
      → Precedes (B due q k b t c) S
  built_precedes zero b t c [] n ok e = rw (built_end due q b t c) tt
  built_precedes zero b t c (x ∷ S) n ok e = absurd (omega arith)
  built_precedes (suc k) b t c [] n ok e = absurd (omega arith)
  built_precedes (suc k) b t c (false ∷ S) n ok e = go (first due q k b t c) (built_precedes k false (suc t) c S (omega arith) ok.1)
    where
      go : Wakes due q k b t c ⊎ Sleeps due q k b t c → (cost q false S ≡ L due q k false (suc t) c → Precedes (B due q k false (suc t) c) S)
          → Precedes (B due q (suc k) b t c) (false ∷ S)
      go (inl w) ih = absurd (late w.dearer)
        where
          late : (due c t ≡ true) ⊎ (L due q (suc k) b t c < L due q (suc k) false t c) → ⊥
          late (inl d) = true_not_false (due c t) d ok.0
          late (inr l) =
              omega (arith, least_sleeps due q k t c ok.0, cost_sleep q b S, allowed_costs due q rises k false (suc t) c S (omega arith) ok.1)
      go (inr s) ih = rw s.is (ih (sym (cost_sleep q b S) ∙ e ∙ s.value))
  built_precedes (suc k) b t c (true ∷ S) n ok e = go (first due q k b t c) (built_precedes k true (suc t) (suc t) S (omega arith) ok)
    where
      go : Wakes due q k b t c ⊎ Sleeps due q k b t c → (cost q true S ≡ L due q k true (suc t) (suc t) → Precedes (B due q k true (suc t) (suc t)) S)
          → Precedes (B due q (suc k) b t c) (true ∷ S)
      go (inl w) ih = rw w.is (ih (omega (arith, w.value, cost_awake q b S)))
      go (inr s) ih = rw s.is tt
