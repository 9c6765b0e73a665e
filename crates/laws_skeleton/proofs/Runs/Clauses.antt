-- One turn of each definition of `Runs`, as a loop over the jobs takes it.
use Rattle.std.specs.Prelude.{ℕ, zero, suc, ◌+◌, ◌-◌, ◌≤◌, ◌<◌, ◌≡◌, true, false, List, [], ◌∷◌, ◌++◌, replicate}
use Rattle.std.proofs.Math.Path.{refl}
use Rattle.std.proofs.Common.{arith, le-leb}
use Rattle.std.proofs.lemmas.Bool.{lt-leb}
use Rattle.sched.specs.Jobs.{Jobs}
use Rattle.laws_skeleton.specs.Windows.{window_start, window_end}
use Rattle.laws_skeleton.specs.Runs.{sleep_cost, takes, run_end, end_after, value_at, values, run_at, runs_of, first_end, run_up_to, spread}
use Rattle.sched.specs.Runs.{Run}

module _ (J : Jobs) where
  -- the job to wake for

  pub sleep_none : (s : ℕ) (vs : List ℕ) → sleep_cost J s [] vs ≡ 0
  unfolding sleep_cost
  sleep_none s vs = refl

  pub sleep_wakes : (s j v : ℕ) (js vs : List ℕ) → s ≤ window_start J j → sleep_cost J s (j ∷ js) (v ∷ vs) ≡ J.wake + v
  unfolding sleep_cost
  sleep_wakes s j v js vs l = rw (le-leb _ _ l, sleep_cost)

  pub sleep_skips : (s j v : ℕ) (js vs : List ℕ) → window_start J j < s → sleep_cost J s (j ∷ js) (v ∷ vs) ≡ sleep_cost J s js vs
  unfolding sleep_cost
  sleep_skips s j v js vs l = rw (lt-leb _ _ l, sleep_cost)

  -- the end of a run

  pub run_end_none : (js vs : List ℕ) (low s : ℕ) → run_end J js vs low s [] ≡ s
  unfolding run_end
  run_end_none js vs low s = refl

  pub run_end_takes : (js vs : List ℕ) (low s k : ℕ) (ks : List ℕ) → takes J js vs low s k ≡ true
      → run_end J js vs low s (k ∷ ks) ≡ run_end J js vs low (suc (window_start J k)) ks
  unfolding run_end
  run_end_takes js vs low s k ks e = rw (e, run_end)

  pub run_end_keeps : (js vs : List ℕ) (low s k : ℕ) (ks : List ℕ) → takes J js vs low s k ≡ false
      → run_end J js vs low s (k ∷ ks) ≡ run_end J js vs low s ks
  unfolding run_end
  run_end_keeps js vs low s k ks e = rw (e, run_end)

  -- the numbers

  pub values_none : values J [] ≡ []
  unfolding values
  values_none = refl

  pub values_first : (j : ℕ) (js : List ℕ) → values J (j ∷ js) ≡ value_at J (window_end J j) js (values J js) ∷ values J js
  unfolding values
  values_first j js = refl

  -- the runs

  pub runs_none : (s : ℕ) (vs : List ℕ) → runs_of J s [] vs ≡ []
  unfolding runs_of
  runs_none s vs = refl

  pub runs_begin : (s j v : ℕ) (js vs : List ℕ) → s ≤ window_start J j
      → runs_of J s (j ∷ js) (v ∷ vs) ≡ run_at J (window_end J j) js vs ∷ runs_of J (end_after J js vs (window_end J j)) js vs
  unfolding runs_of
  runs_begin s j v js vs l = rw (le-leb _ _ l, runs_of)

  pub runs_skip : (s j v : ℕ) (js vs : List ℕ) → window_start J j < s → runs_of J s (j ∷ js) (v ∷ vs) ≡ runs_of J s js vs
  unfolding runs_of
  runs_skip s j v js vs l = rw (lt-leb _ _ l, runs_of)

  -- the run from before slot 0: asleep before it there is none

  pub first_none : (js vs : List ℕ) → first_end J false js vs ≡ 0
  unfolding first_end
  first_none js vs = refl

  pub first_some : (js vs : List ℕ) → first_end J true js vs ≡ run_end J js vs 0 0 js
  unfolding first_end
  first_some js vs = refl

-- the slots of the runs

pub spread_none : (h t : ℕ) → spread h t [] ≡ replicate (h - t) false
unfolding spread
spread_none h t = refl

-- a run from e up to u without it
pub spread_run : (h t e u : ℕ) (rs : List Run) → e < u
    → spread h t (record { first = e; slots = u - e } ∷ rs) ≡ replicate (e - t) false ++ (true ∷ (replicate (u - suc e) true ++ spread h u rs))
unfolding spread
spread_run h t e u rs l =
    let n : u - e ≡ suc (u - suc e) = omega arith in
    let m : e + suc (u - suc e) ≡ u = omega arith in
    rw (n, m)

-- a run from slot 0 up to e without it
pub spread_first : (h e : ℕ) (rs : List Run) → spread h 0 (run_up_to e rs) ≡ replicate e true ++ spread h e rs
unfolding run_up_to spread
spread_first h zero rs = refl
spread_first h (suc e) rs = let m : 0 + suc e ≡ suc e = omega arith in rw m
