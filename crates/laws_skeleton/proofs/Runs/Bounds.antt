-- How large the numbers get, for code that keeps them in 32 bits.
use Rattle.std.specs.Prelude.{ℕ, zero, suc, ◌+◌, ◌*◌, ◌≤◌, ◌<◌, length, get_or}
use mathlib.Core.List.Memᴰ.{tail as there}
use mathlib.Core.List.{List, [], ◌∷◌, Memᴰ as Among}
use Rattle.std.proofs.Common.{suc-mul, arith}
use Rattle.std.proofs.Math.Decide.{dec_le}
use Rattle.sched.specs.Jobs.{Jobs, count}
use Rattle.sched.specs.Checks.{Passes}
use Rattle.laws_skeleton.specs.Windows.{window_start, window_end}
use Rattle.laws_skeleton.proofs.Windows.Laws.{window_within}
use Rattle.laws_skeleton.specs.Runs.{sleep_cost, end_after, values, value_at}
use Rattle.laws_skeleton.proofs.Runs.Clauses.{sleep_none, sleep_wakes, sleep_skips, values_none, values_first}
use Rattle.laws_skeleton.proofs.Runs.Values.{run_end_inside}

-- what n jobs can cost
abbrev pub most : Jobs → ℕ → ℕ
most J n = n * (J.horizon + J.wake)

module _ (J : Jobs) (p : Passes J) where
  -- the jobs behind have small costs, so the next number is small
  value_step : (j : ℕ) (js : List ℕ) → ((k : ℕ) → Among k js → k < count J)
      → ((t : ℕ) → sleep_cost J t js (values J js) ≤ J.wake + most J (length js))
      → value_at J (window_end J j) js (values J js) ≤ most J (suc (length js))
  value_step j js listed small =
      let u = end_after J js (values J js) (window_end J j) in
      let within = run_end_inside J p js (values J js) (suc (window_end J j)) listed (window_within J p j) in
      omega (arith, suc-mul (length js) (J.horizon + J.wake), small u)

  pub sleep_cost_small : (js : List ℕ) → ((k : ℕ) → Among k js → k < count J) → (s : ℕ)
      → sleep_cost J s js (values J js) ≤ J.wake + most J (length js)
  sleep_cost_small [] listed s = omega (arith, sleep_none J s (values J []))
  sleep_cost_small (j ∷ js) listed s = rw (values_first J j js) (go (dec_le s (window_start J j)) (sleep_cost_small js (λ k m. listed k (there m))))
    where
      go : Dec (s ≤ window_start J j) → ((t : ℕ) → sleep_cost J t js (values J js) ≤ J.wake + most J (length js))
          → sleep_cost J s (j ∷ js) (value_at J (window_end J j) js (values J js) ∷ values J js) ≤ J.wake + most J (suc (length js))
      go (yes m) small =
          rw
          (sleep_wakes J s j (value_at J (window_end J j) js (values J js)) js (values J js) m)
          (omega (arith, value_step j js (λ k i. listed k (there i)) small))
      go (no n) small =
          rw
          (sleep_skips J s j (value_at J (window_end J j) js (values J js)) js (values J js) (omega arith))
          (omega (arith, small s, suc-mul (length js) (J.horizon + J.wake)))

  pub value_small : (js : List ℕ) → ((k : ℕ) → Among k js → k < count J) → (i : ℕ) → get_or (values J js) i 0 ≤ most J (length js)
  value_small [] listed i = rw (values_none J) (omega arith)
  value_small (j ∷ js) listed zero =
      rw (values_first J j js) (value_step j js (λ k m. listed k (there m)) (sleep_cost_small js (λ k m. listed k (there m))))
  value_small (j ∷ js) listed (suc i) =
      rw (values_first J j js) (omega (arith, value_small js (λ k m. listed k (there m)) i, suc-mul (length js) (J.horizon + J.wake)))
