-- Which ranks wait: those that have come and have units left. How they change when a rank comes, and what their bits say.
use Prim.Native.Nat.{ℕ, suc, ◌≤◌, ◌<◌}
use mathlib.Core.Path.{◌≡◌, refl, sym, ap, subst, ◌∙◌}
use mathlib.Core.Bool.{Bool, true, false, ◌&&◌, and-false}
use mathlib.Core.List.{List}
use mathlib.Core.Logic.{◌≢◌}
use mathlib.Core.Option.{Option, none, some}
use native.Mathlib.Decide.{dec_lt}
use native.Mathlib.Omega.{arith}
use borrow.Author.Tests.{le-leb, lt-ltb, le-ltb, ltb-true, eq-eqb, eqb-true}
use lib.ListN.{get_or}
use lib.Dec.{leb, ltb}
use lib.Count.{count_trailing_zeros}
use Rattle.sched.specs.Bounded.{least_from}
use Rattle.sched.proofs.Bounded.Laws.{true_not_false, and_true, any_intro, any_elim, least_some, least_none}
use Rattle.laws_edf.specs.Run.{State}
use Rattle.laws_edf.specs.Orders.{job_at}
use Rattle.queue.specs.Arrivals.{come, waits}
use Rattle.queue.specs.Arrivals.Laws.{come_fresh, come_others}
use Rattle.queue.specs.Mask.{mask}
use Rattle.queue.specs.Mask.Laws.{Joins, zeros_some, empty_none, some_pos}

module _ (ranks arrivals : List ℕ) (next : ℕ) (L : State) (k : ℕ) where
  pub waits_come : waits ranks arrivals next 0 L k ≡ true → (i : ℕ) × (i < next) × (get_or arrivals i 0 ≡ k)
  waits_come e =
      let c = (and_true (come arrivals next k && leb 0 k) (ltb 0 (L (job_at ranks k))) e).0 in
      let r = any_elim next _ (and_true (come arrivals next k) (leb 0 k) c).0 in
      (r.0, r.1, eqb-true (get_or arrivals r.0 0) k r.2)

  pub waits_units : waits ranks arrivals next 0 L k ≡ true → 0 < L (job_at ranks k)
  waits_units e = ltb-true 0 (L (job_at ranks k)) (and_true (come arrivals next k && leb 0 k) (ltb 0 (L (job_at ranks k))) e).1

  pub waits_if : (i : ℕ) → i < next → get_or arrivals i 0 ≡ k → 0 < L (job_at ranks k) → waits ranks arrivals next 0 L k ≡ true
  waits_if i l e u =
      let c : come arrivals next k ≡ true = any_intro next _ i l (eq-eqb (get_or arrivals i 0) k e) in
      rw (c, le-leb 0 k (omega arith), lt-ltb 0 (L (job_at ranks k)) u)

  pub waits_not : L (job_at ranks k) ≡ 0 → waits ranks arrivals next 0 L k ≡ false
  waits_not z = rw (le-ltb 0 (L (job_at ranks k)) (omega arith)) (and-false (come arrivals next k && leb 0 k))

-- the rank at place i comes
module _ (ranks arrivals : List ℕ) (i n : ℕ) (L : State) (once : (j : ℕ) → j < i → get_or arrivals j 0 ≢ get_or arrivals i 0) where
  pub comes_joins : 0 < L (job_at ranks (get_or arrivals i 0)) → Joins n (waits ranks arrivals i 0 L) (waits ranks arrivals (suc i) 0 L) (get_or arrivals i 0)
  comes_joins u =
      let fresh : come arrivals i (get_or arrivals i 0) ≡ false = come_fresh arrivals i once in
      record {
        out = rw fresh;
        within = waits_if ranks arrivals (suc i) L (get_or arrivals i 0) i (omega arith) refl u;
        same = λ k l m. ap (λ (b : Bool). b && leb 0 k && ltb 0 (L (job_at ranks k))) (come_others arrivals i k m);
      }

-- what the bits of a set say
module _ (f : ℕ → Bool) (n bits : ℕ) (few : n ≤ 64) (b : bits ≡ mask f n) where
  pub no_bit : bits ≡ 0 → (i : ℕ) → i < n → f i ≡ false
  no_bit z i l = go (least_from n 0 f) refl
    where
      go : (o : Option ℕ) → least_from n 0 f ≡ o → f i ≡ false
      go none e = least_none n 0 f e i (omega arith) (omega arith)
      go (some k) e = absurd (omega (arith, some_pos f n 0 k e))

  -- k is the least number of the set
  pub record LeastOf (k : ℕ) : Type 0 where
    pub below : k < n
    pub on : f k ≡ true
    pub first : (i : ℕ) → i < n → f i ≡ true → k ≤ i

  pub lowest_bit : (bits ≡ 0 → ⊥) → LeastOf (count_trailing_zeros 64 bits)
  lowest_bit z = go (least_from n 0 f) refl
    where
      go : (o : Option ℕ) → least_from n 0 f ≡ o → LeastOf (count_trailing_zeros 64 bits)
      go none e = absurd (z (b ∙ empty_none f n 0 e))
      go (some k) e =
          let least = least_some n 0 f k e in
          let zeros : count_trailing_zeros 64 bits ≡ k = ap (count_trailing_zeros 64) b ∙ omega (arith, zeros_some f 64 n 0 k few e) in
          subst LeastOf (sym zeros) (record {
            below = omega (arith, least.below);
            on = least.holds;
            first = λ i l t. low i t (dec_lt i k) least.first;
          })
        where
          low : (i : ℕ) → f i ≡ true → Dec (i < k) → ((i : ℕ) → 0 ≤ i → i < k → f i ≡ false) → k ≤ i
          low i t (yes l) h = true_not_false (f i) t (h i (omega arith) l)
          low i t (no l) h = omega arith
