-- Skeletons of 01, "Plans worked by hand", as `Runs` finds them, so that a reader can follow what it computes.
use Rattle.std.specs.Prelude.{ℕ, ◌≡◌, refl, List, [], ◌∷◌}
use Rattle.sched.specs.Jobs.{Jobs, jobs_of}
use Rattle.sched.specs.Runs.{Run}
use Rattle.laws_skeleton.specs.Runs.{sleep_cost, run_end, values, runs_of}

-- the numbers of the jobs in an order, what sleep from slot 0 on costs, and the runs
record Found : Type 0 where
  numbers : List ℕ
  energy : ℕ
  runs : List Run

run : ℕ → ℕ → Run
run first slots = record { first = first; slots = slots }

found : Jobs → List ℕ → Found
found J order =
    record {
      numbers = values J order;
      energy = sleep_cost J 0 order (values J order);
      runs = runs_of J 0 order (values J order);
    }

-- H 12, (0,4,2) (6,10,2), by the wake cost: slots 4 and 5; where a wake is free, 4 and 10
first : ℕ → Jobs
first q = jobs_of 12 q (0 ∷ 6 ∷ []) (4 ∷ 10 ∷ []) (2 ∷ 2 ∷ [])

first_run : found (first 3) (0 ∷ 1 ∷ []) ≡ record { numbers = 2 ∷ 1 ∷ []; energy = 5; runs = run 4 2 ∷ [] }
unfolding run found first sleep_cost run_end values runs_of
first_run = refl

free_wakes : found (first 0) (0 ∷ 1 ∷ []) ≡ record { numbers = 2 ∷ 1 ∷ []; energy = 2; runs = run 4 1 ∷ run 10 1 ∷ [] }
unfolding run found first sleep_cost run_end values runs_of
free_wakes = refl

-- H 10, q 3, (0,3,1) (8,10,2) (0,10,5), with the last job put first: slots 3 and 9, whichever of the two that end in slot 9 stands first
third : Jobs
third = jobs_of 10 3 (0 ∷ 0 ∷ 8 ∷ []) (10 ∷ 3 ∷ 10 ∷ []) (5 ∷ 1 ∷ 2 ∷ [])

third_runs : found third (1 ∷ 0 ∷ 2 ∷ []) ≡ record { numbers = 5 ∷ 1 ∷ 1 ∷ []; energy = 8; runs = run 3 1 ∷ run 9 1 ∷ [] }
unfolding run found third sleep_cost run_end values runs_of
third_runs = refl

third_again : found third (1 ∷ 2 ∷ 0 ∷ []) ≡ found third (1 ∷ 0 ∷ 2 ∷ [])
unfolding run found third sleep_cost run_end values runs_of
third_again = refl
