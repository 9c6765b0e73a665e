-- The least skeleton as runs, from one number a job, for code that keeps a few short arrays and nothing that grows with the horizon.
--
-- What is to be computed, for an `order` of the jobs by the ends of their windows:
--   1. `values`, from the last job of the order backwards: what is to be paid from the last slot of the job's window on, once it is awake;
--   2. `runs_of`, from the first job forwards: a job whose window starts before the end of the last run has been met, any other begins a run
--      in the last slot of its window.
-- Both ask `run_end` where a run is best ended, and that asks `sleep_cost` what follows. Each looks only at the jobs behind.
-- A processor that is awake before slot 0 may stay awake without a wake: `runs_from_start` has that run in front.
use Rattle.std.specs.Prelude.{ℕ, zero, suc, ◌+◌, ◌-◌, Bool, true, false, ◌&&◌, ◌||◌, List, [], ◌∷◌, ◌++◌, replicate, leb, ltb, eqb}
use Rattle.sched.specs.Jobs.{Jobs}
use Rattle.sched.specs.Runs.{Run}
use Rattle.laws_skeleton.specs.Windows.{window_start, window_end}

-- The cost from slot s on when sleep begins there: the first job of the order whose window starts at s or later is the one to wake for.
-- `vs` has the numbers of the jobs `js`.
unfoldable pub sleep_cost : Jobs → ℕ → List ℕ → List ℕ → ℕ
sleep_cost J s [] vs = 0
sleep_cost J s (j ∷ js) [] = 0
sleep_cost J s (j ∷ js) (v ∷ vs) = elim (leb s (window_start J j)) [ true ↦ J.wake + v | false ↦ sleep_cost J s js vs ]

-- a run that ends before slot s, counted from slot 0, with what follows
abbrev pub through_cost : Jobs → List ℕ → List ℕ → ℕ → ℕ
through_cost J js vs s = s + sleep_cost J s js vs

-- to end before c is cheaper than before s, or as cheap and earlier
abbrev pub beats : Jobs → List ℕ → List ℕ → ℕ → ℕ → Bool
beats J js vs c s =
    ltb (through_cost J js vs c) (through_cost J js vs s) || eqb (through_cost J js vs c) (through_cost J js vs s) && ltb c s

-- the slot behind the start of job k's window takes the place of s
abbrev pub takes : Jobs → List ℕ → List ℕ → ℕ → ℕ → ℕ → Bool
takes J js vs low s k = leb low (suc (window_start J k)) && beats J js vs (suc (window_start J k)) s

-- The slot before which a run that may not end before `low` is best ended: s, or behind the start of a window of `ks`.
unfoldable pub run_end : Jobs → List ℕ → List ℕ → ℕ → ℕ → List ℕ → ℕ
run_end J js vs low s [] = s
run_end J js vs low s (k ∷ ks) =
    elim (takes J js vs low s k) [ true ↦ run_end J js vs low (suc (window_start J k)) ks | false ↦ run_end J js vs low s ks ]

-- the end of a run that is awake in slot t
abbrev pub end_after : Jobs → List ℕ → List ℕ → ℕ → ℕ
end_after J js vs t = run_end J js vs (suc t) (suc t) js

-- what is to be paid from an awake slot t on, its wake paid
abbrev pub value_at : Jobs → ℕ → List ℕ → List ℕ → ℕ
value_at J t js vs = end_after J js vs t - t + sleep_cost J (end_after J js vs t) js vs

-- the number of each job: that, from the last slot of its window on
unfoldable pub values : Jobs → List ℕ → List ℕ
values J [] = []
values J (j ∷ js) =
    let vs = values J js in
    value_at J (window_end J j) js vs ∷ vs

-- the run that begins in slot t
abbrev pub run_at : Jobs → ℕ → List ℕ → List ℕ → Run
run_at J t js vs = record { first = t; slots = end_after J js vs t - t }

-- the runs from slot s on, asleep before
unfoldable pub runs_of : Jobs → ℕ → List ℕ → List ℕ → List Run
runs_of J s [] vs = []
runs_of J s (j ∷ js) [] = []
runs_of J s (j ∷ js) (v ∷ vs) =
    elim (leb s (window_start J j)) [
      | true ↦ run_at J (window_end J j) js vs ∷ runs_of J (end_after J js vs (window_end J j)) js vs
      | false ↦ runs_of J s js vs
    ]

-- The slot before which the run from before slot 0 is best ended: 0 where it is best ended at once, and where there is none. The Bool says
-- whether the processor is awake before slot 0.
unfoldable pub first_end : Jobs → Bool → List ℕ → List ℕ → ℕ
first_end J false js vs = 0
first_end J true js vs = run_end J js vs 0 0 js

-- the slots from 0 up to slot e as a run before the others; no run where there is no such slot
unfoldable pub run_up_to : ℕ → List Run → List Run
run_up_to zero rs = rs
run_up_to (suc e) rs = record { first = 0; slots = suc e } ∷ rs

-- the runs from slot 0 on
abbrev pub runs_from_start : Jobs → Bool → List ℕ → List ℕ → List Run
runs_from_start J b js vs = run_up_to (first_end J b js vs) (runs_of J (first_end J b js vs) js vs)

-- the slots from t up to the horizon h, awake in these runs
unfoldable pub spread : ℕ → ℕ → List Run → List Bool
spread h t [] = replicate (h - t) false
spread h t (r ∷ rs) = replicate (r.first - t) false ++ (replicate r.slots true ++ spread h (r.first + r.slots) rs)
