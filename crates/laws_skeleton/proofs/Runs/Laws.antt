-- The runs are those of the built set.
use Rattle.std.specs.Prelude.{ℕ, zero, suc, ◌-◌, ◌≤◌, ◌≡◌, Bool, List, [], ◌∷◌, ◌++◌, length}
use Rattle.std.proofs.Math.Path.{refl, ap}
use Rattle.std.proofs.Common.{sym, ◌∙◌, append-nil}
use Rattle.std.proofs.Math.Bool.{true, false}
use mathlib.Core.List.Memᴰ.{head as here}
use Rattle.std.proofs.Math.Nat.{sub-zero}
use Rattle.std.proofs.Math.Decide.{dec_le}
use native.Mathlib.Omega.{arith}
use Rattle.std.proofs.Math.ListN.{replicate}
use Rattle.sched.specs.Jobs.{Jobs}
use Rattle.sched.specs.Checks.{Passes}
use Rattle.laws_skeleton.specs.Recursion.{least, built}
use Rattle.laws_skeleton.specs.Windows.{window_start, window_end, due}
use Rattle.laws_skeleton.proofs.Windows.Laws.{window_opens, window_within}
use Rattle.laws_skeleton.proofs.Order.Laws.{Rest, rest_next}
use Rattle.laws_skeleton.specs.Runs.{through_cost, run_end, end_after, values, runs_of, first_end, run_up_to, runs_from_start, spread}
use Rattle.sched.specs.Runs.{Run}
use Rattle.laws_skeleton.proofs.Runs.Clauses.{values_first, runs_none, runs_begin, runs_skip, spread_none, spread_run, spread_first}
use Rattle.laws_skeleton.proofs.Runs.Until.{until_cost, until_built, built_waits, built_wakes, built_nothing}
use Rattle.laws_skeleton.proofs.Runs.Choice.{run_end_from}
use Rattle.laws_skeleton.proofs.Runs.Values.{Holds, holds_later, holds_skips, holds_behind, none_due, never_due, first_due, run_end_inside, run_end_right, values_right}

runs_few : (J : Jobs) (s : ℕ) (js vs : List ℕ) → length (runs_of J s js vs) ≤ length js
unfolding runs_of
runs_few J s [] vs = omega arith
runs_few J s (j ∷ js) [] = omega arith
runs_few J s (j ∷ js) (v ∷ vs) = go (dec_le s (window_start J j)) (runs_few J (end_after J js vs (window_end J j)) js vs) (runs_few J s js vs)
  where
    go : Dec (s ≤ window_start J j) → length (runs_of J (end_after J js vs (window_end J j)) js vs) ≤ length js → length (runs_of J s js vs) ≤ length js
        → length (runs_of J s (j ∷ js) (v ∷ vs)) ≤ suc (length js)
    go (yes l) on off = rw (runs_begin J s j v js vs l) (omega arith)
    go (no n) on off = rw (runs_skip J s j v js vs (omega arith)) (omega arith)

pub start_runs_few : (J : Jobs) (b : Bool) (js vs : List ℕ) → length (runs_from_start J b js vs) ≤ suc (length js)
unfolding run_up_to
start_runs_few J b js vs = let e = first_end J b js vs in omega (arith, up_to_few e (runs_of J e js vs), runs_few J e js vs)
  where
    up_to_few : (e : ℕ) (rs : List Run) → length (run_up_to e rs) ≤ suc (length rs)
    up_to_few zero rs = omega arith
    up_to_few (suc e) rs = omega arith

module _ (J : Jobs) (p : Passes J) where
  abbrev B : Bool → ℕ → ℕ → List Bool
  B b t c = built (due J) J.wake (J.horizon - t) b t c

  -- awake before `low`, the run goes on until `run_end`
  pub run_built : (js : List ℕ) (low : ℕ) → Rest J js → low ≤ J.horizon → Holds J low js
      → B true low low
      ≡ replicate (run_end J js (values J js) low low js - low) true
      ++ B false (run_end J js (values J js) low low js) (run_end J js (values J js) low low js)
  run_built js low r l o =
      let w = run_end_right J p js low r l o in
      let u = run_end J js (values J js) low low js in
      until_built (due J) J.wake J.horizon (u - low) low u (omega (arith, w.from)) w

  -- asleep from s on, a run begins at the end of the first window that starts at s or later
  wait_built : (s j : ℕ) (js : List ℕ) → Rest J (j ∷ js) → Holds J s (j ∷ js) → s ≤ window_start J j
      → B false s s ≡ replicate (window_end J j - s) false ++ (true ∷ B true (suc (window_end J j)) (suc (window_end J j)))
  wait_built s j js r o l =
      let e = window_end J j in
      let h = window_within J p j in
      built_waits (due J) J.wake J.horizon (e - s) s s e
      (omega (arith, window_opens J p j (r.listed j (here refl)))) (omega arith)
      (λ u a b. none_due J p s u j js r o b)
      ∙ ap (λ (S : List Bool). replicate (e - s) false ++ S) (built_wakes (due J) J.wake J.horizon e s h (first_due J p s j js r l))

  -- the two together, for a first run
  runs_step : (s j : ℕ) (js : List ℕ) → Rest J (j ∷ js) → Holds J s (j ∷ js) → s ≤ window_start J j
      → ((t : ℕ) → t ≤ J.horizon → Holds J t js → spread J.horizon t (runs_of J t js (values J js)) ≡ B false t t)
      → spread J.horizon s (runs_of J s (j ∷ js) (values J (j ∷ js))) ≡ B false s s
  runs_step s j js r o m ih =
      let h = J.horizon in
      let e = window_end J j in
      let vs = values J js in
      let u = end_after J js vs e in
      let next = rest_next J j js r in
      let f = run_end_from J js vs (suc e) in
      rw (values_first J j js) (
      ap (spread h s) (runs_begin J s j _ js vs m)
      ∙ spread_run h s e u (runs_of J u js vs) f
      ∙ ap
      (λ (S : List Bool). replicate (e - s) false ++ (true ∷ (replicate (u - suc e) true ++ S)))
      (ih u (run_end_inside J p js vs (suc e) next.listed (window_within J p j)) (holds_behind J p u j js r f))
      ∙ ap
      (λ (S : List Bool). replicate (e - s) false ++ (true ∷ S))
      (sym (run_built js (suc e) next (window_within J p j) (holds_behind J p (suc e) j js r (omega arith))))
      ∙ sym (wait_built s j js r o m))

  pub runs_built : (js : List ℕ) → Rest J js → (s : ℕ) → s ≤ J.horizon → Holds J s js
      → spread J.horizon s (runs_of J s js (values J js)) ≡ B false s s
  runs_built [] r s l o =
      ap (spread J.horizon s) (runs_none J s (values J []))
      ∙ spread_none J.horizon s
      ∙ sym (append-nil (replicate (J.horizon - s) false))
      ∙ ap (λ (S : List Bool). replicate (J.horizon - s) false ++ S) (sym (built_nothing (due J) J.wake J.horizon s))
      ∙ sym (built_waits (due J) J.wake J.horizon (J.horizon - s) s s J.horizon (omega arith) (omega arith) (λ u a b. never_due J p s u o))
  runs_built (j ∷ js) r s l o = go (dec_le s (window_start J j)) (runs_built js (rest_next J j js r))
    where
      go : Dec (s ≤ window_start J j) → ((t : ℕ) → t ≤ J.horizon → Holds J t js → spread J.horizon t (runs_of J t js (values J js)) ≡ B false t t)
          → spread J.horizon s (runs_of J s (j ∷ js) (values J (j ∷ js))) ≡ B false s s
      go (yes m) ih = runs_step s j js r o m ih
      go (no n) ih =
          rw (values_first J j js)
          (ap (spread J.horizon s) (runs_skip J s j _ js (values J js) (omega arith)) ∙ ih s l (holds_skips J s j js (omega arith) o))

  -- From slot 0 on, awake or asleep before

  start_end_inside : (b : Bool) (js : List ℕ) → Rest J js → first_end J b js (values J js) ≤ J.horizon
  unfolding first_end
  start_end_inside false js r = omega arith
  start_end_inside true js r = run_end_inside J p js (values J js) 0 r.listed (omega arith)

  start_run_built : (b : Bool) (js : List ℕ) → Rest J js → Holds J 0 js
      → B b 0 0 ≡ replicate (first_end J b js (values J js)) true ++ B false (first_end J b js (values J js)) (first_end J b js (values J js))
  unfolding first_end
  start_run_built false js r o = refl
  start_run_built true js r o =
      let e = run_end J js (values J js) 0 0 js in
      run_built js 0 r (omega arith) o ∙ ap (λ (n : ℕ). replicate n true ++ B false e e) (sub-zero e)

  -- the runs are those of the built set
  pub start_built : (b : Bool) (js : List ℕ) → Rest J js → Holds J 0 js → spread J.horizon 0 (runs_from_start J b js (values J js)) ≡ B b 0 0
  start_built b js r o =
      let e = first_end J b js (values J js) in
      spread_first J.horizon e (runs_of J e js (values J js))
      ∙ ap (λ (S : List Bool). replicate e true ++ S) (runs_built js r e (start_end_inside b js r) (holds_later J 0 e js (omega arith) o))
      ∙ sym (start_run_built b js r o)

  -- and cost what it costs
  pub start_cost : (b : Bool) (js : List ℕ) → Rest J js → Holds J 0 js
      → through_cost J js (values J js) (first_end J b js (values J js)) ≡ least (due J) J.wake (J.horizon - 0) b 0 0
  unfolding first_end
  start_cost false js r o = omega (arith, values_right J p js r 0 (omega arith) o)
  start_cost true js r o =
      let e = run_end J js (values J js) 0 0 js in
      let w = run_end_right J p js 0 r (omega arith) o in
      omega (arith, until_cost (due J) J.wake J.horizon 0 e w, values_right J p js r e w.within (holds_later J 0 e js (omega arith) o))
