-- It is never worse to wake later, and no allowed set is cheaper than the recursion's value.
use Rattle.std.specs.Prelude.{ℕ, zero, suc, ◌+◌, ◌≤◌, ◌≡◌, Bool, true, false, List, [], ◌∷◌, length}
use Rattle.std.proofs.Common.{arith}
use Rattle.sched.proofs.Bounded.Laws.{by_bool, true_not_false}
use Rattle.laws_skeleton.specs.Recursion.{cost, Allowed, least}
use Rattle.laws_skeleton.proofs.Recursion.Clauses.{cost_sleep, cost_awake, least_end, least_due, least_sleeps, least_awake, least_true_le}

-- The three inequalities that are proved together, by induction on the slots left.
pub record Exchange (due : ℕ → ℕ → Bool) (q k : ℕ) : Type 0 where
  -- fewer windows are open to a stretch that began later
  pub later : (t c c' : ℕ) → c ≤ c' → least due q k false t c' ≤ least due q k false t c
  -- a sleeper can wake one slot early
  pub wake : (t c : ℕ) → least due q k false t c ≤ q + suc (least due q k true t t)
  -- and go back to sleep
  pub nap : (t c c' : ℕ) → c' ≤ suc t → least due q k false t c ≤ suc (q + least due q k false t c')

module _ (due : ℕ → ℕ → Bool) (q : ℕ) (rises : (c c' t : ℕ) → c ≤ c' → due c' t ≡ true → due c t ≡ true) where
  abbrev L : ℕ → Bool → ℕ → ℕ → ℕ
  L = least due q

  module _ (k : ℕ) (ih : Exchange due q k) where
    later_step : (t c c' : ℕ) → c ≤ c' → L (suc k) false t c' ≤ L (suc k) false t c
    later_step t c c' l = by_bool (due c t) at (λ e. by_bool (due c' t) (λ e'. true_not_false (due c t) (rises c c' t l e') e) (off e))
      where
        at : due c t ≡ true → L (suc k) false t c' ≤ L (suc k) false t c
        at e = by_bool (due c' t)
            (λ e'. omega (arith, least_due due q k t c e, least_due due q k t c' e'))
            (λ e'. omega (arith, least_due due q k t c e, least_sleeps due q k t c' e', ih.wake (suc t) c'))

        off : due c t ≡ false → due c' t ≡ false → L (suc k) false t c' ≤ L (suc k) false t c
        off e e' = omega (arith, least_sleeps due q k t c e, least_sleeps due q k t c' e', ih.later (suc t) c c' l)

    -- awake at t, the rest is at most what a sleeper has to pay
    awake_le : (t c : ℕ) → c ≤ suc t → L k true (suc t) (suc t) ≤ L (suc k) false t c
    awake_le t c l = by_bool (due c t)
        (λ e. omega (arith, least_due due q k t c e))
        (λ e. omega (arith, least_sleeps due q k t c e, ih.later (suc t) c (suc t) l, least_true_le due q k (suc t) (suc t)))

    nap_step : (t c c' : ℕ) → c' ≤ suc t → L (suc k) false t c ≤ suc (q + L (suc k) false t c')
    nap_step t c c' l = by_bool (due c t)
        (λ e. omega (arith, least_due due q k t c e, awake_le t c' l))
        (λ e. by_bool (due c' t)
        (λ e'. omega (arith, least_sleeps due q k t c e, least_due due q k t c' e', ih.wake (suc t) c))
        (λ e'. omega (arith, least_sleeps due q k t c e, least_sleeps due q k t c' e', ih.nap (suc t) c c' (omega arith))))

    wake_step : (t c : ℕ) → L (suc k) false t c ≤ q + suc (L (suc k) true t t)
    wake_step t c = omega (arith, least_awake due q k t t, nap_step t c t (omega arith), early)
      where
        early : L (suc k) false t c ≤ q + suc (L k true (suc t) (suc t))
        early = by_bool (due c t)
            (λ e. omega (arith, least_due due q k t c e))
            (λ e. omega (arith, least_sleeps due q k t c e, ih.wake (suc t) c))

  pub exchange : (k : ℕ) → Exchange due q k
  exchange zero = record {
    later = λ t c c' l. omega (arith, least_end due q false t c, least_end due q false t c');
    wake = λ t c. omega (arith, least_end due q false t c);
    nap = λ t c c' l. omega (arith, least_end due q false t c);
  }
  exchange (suc k) = let ih = exchange k in record { later = later_step k ih; wake = wake_step k ih; nap = nap_step k ih }

  -- a slot that wakes early gains nothing
  pub wake_early : (k t c : ℕ) → L (suc k) false t c ≤ q + suc (L k true (suc t) (suc t))
  wake_early k t c = by_bool (due c t)
      (λ e. omega (arith, least_due due q k t c e))
      (λ e. omega (arith, least_sleeps due q k t c e, (exchange k).wake (suc t) c))

  -- what is left costs no more one slot later

  pub later_sleep : (k t : ℕ) → L k false (suc t) (suc t) ≤ L (suc k) false t t
  later_sleep k t =
      by_bool (due t t)
      (λ e. omega (arith, least_due due q k t t e, (exchange k).wake (suc t) (suc t)))
      (λ e. omega (arith, least_sleeps due q k t t e, (exchange k).later (suc t) t (suc t) (omega arith)))

  pub later_wake : (k t : ℕ) → L k true (suc t) (suc t) ≤ L (suc k) true t t
  later_wake k t = omega (arith, least_awake due q k t t, awake_le k (exchange k) t t (omega arith))

  each_costs : (b : Bool) (t c : ℕ) (S : List Bool) → Allowed due t c S → L (length S) b t c ≤ cost q b S
  each_costs b t c [] ok = omega (arith, least_end due q b t c)
  each_costs false t c (false ∷ S) ok =
      omega (arith, least_sleeps due q (length S) t c ok.0, cost_sleep q false S, each_costs false (suc t) c S ok.1)
  each_costs false t c (true ∷ S) ok = omega (arith, wake_early (length S) t c, cost_awake q false S, each_costs true (suc t) (suc t) S ok)
  each_costs true t c (false ∷ S) ok =
      let le = least_true_le due q (suc (length S)) t c in
      omega (arith, least_sleeps due q (length S) t c ok.0, cost_sleep q true S, each_costs false (suc t) c S ok.1)
  each_costs true t c (true ∷ S) ok = omega (arith, least_awake due q (length S) t c, cost_awake q true S, each_costs true (suc t) (suc t) S ok)

  pub allowed_costs : (k : ℕ) (b : Bool) (t c : ℕ) (S : List Bool) → length S ≡ k → Allowed due t c S → L k b t c ≤ cost q b S
  allowed_costs k b t c S n ok = rw (← n) (each_costs b t c S ok)
