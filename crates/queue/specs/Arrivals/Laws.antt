-- What comes at some slot, or never; and the rank at place i comes: it has come then, and no other has.
use Rattle.std.specs.Prelude.{ℕ, suc, ◌≤◌, ◌<◌, ◌≡◌, List, ◌≢◌, get_or}
use Rattle.std.proofs.Math.Path.{refl}
use Rattle.std.proofs.Common.{sym, ap, arith, lt-ltb, eq-eqb, ne_eqb}
use Rattle.std.proofs.Math.Bool.{true, false, or-false}
use Rattle.std.proofs.Math.Decide.{dec_lt}
use Rattle.sched.specs.Bounded.{any_below}
use Rattle.sched.proofs.Bounded.Laws.{any_intro, any_refute}
use Rattle.queue.specs.Arrivals.{come, or_beyond}

pub beyond_in : (n : ℕ) (f : ℕ → ℕ) (i : ℕ) → i < n → or_beyond n f i ≡ f i
unfolding or_beyond
beyond_in n f i l = rw (lt-ltb i n l, or_beyond)

-- f rises, so no later one comes sooner
pub later_rises : (n : ℕ) (f : ℕ → ℕ) (i k : ℕ) → i ≤ k → k < n → (i < k → f i ≤ f k) → or_beyond n f i ≤ f k
later_rises n f i k l m rises = go (dec_lt i k)
  where
    go : Dec (i < k) → or_beyond n f i ≤ f k
    go (yes a) = omega (arith, beyond_in n f i (omega arith), rises a)
    go (no a) = let e : i ≡ k = omega arith in omega (arith, beyond_in n f i (omega arith), ap f e)

module _ (arrivals : List ℕ) (i : ℕ) where
  pub come_fresh : ((j : ℕ) → j < i → get_or arrivals j 0 ≢ get_or arrivals i 0) → come arrivals i (get_or arrivals i 0) ≡ false
  come_fresh once = any_refute i _ (λ j m. ne_eqb (get_or arrivals j 0) (get_or arrivals i 0) (once j m))

  pub come_itself : come arrivals (suc i) (get_or arrivals i 0) ≡ true
  come_itself = any_intro (suc i) _ i (omega arith) (eq-eqb (get_or arrivals i 0) (get_or arrivals i 0) refl)

  pub come_others : (k : ℕ) → k ≢ get_or arrivals i 0 → come arrivals (suc i) k ≡ come arrivals i k
  unfolding any_below
  come_others k n = rw (ne_eqb (get_or arrivals i 0) k (λ e. n (sym e))) (or-false (come arrivals i k))
