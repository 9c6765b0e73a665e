-- Step 3 before its first turn: what it starts from, and what it keeps of the run over the skeleton, first by job and then by rank.
use Rattle.std.specs.Prelude.{ℕ, ◌<◌, ◌≡◌, false, List, length, get_or}
use Rattle.sched.specs.Jobs.{Jobs, count}
use Rattle.sched.specs.Checks.{Passes}
use Rattle.sched.specs.Slots.{awake_of}
use Rattle.steps.specs.Overload.{overloaded}
use Rattle.steps.specs.Skeleton.{least_skeleton}
use Rattle.laws_extension.specs.Chain.{end_of, RankedJobs, Kept}
use Rattle.laws_extension.specs.Chain.Start.{reach_of}
use Rattle.step3_extend.specs.Turns.{Extending}

-- the lists are those of J, which passes the checks and has no overloaded interval; the table's set is the least skeleton
pub record Extendable (J : Jobs) (releases deadlines volumes ranks table : List ℕ) : Type 0 where
  pub releases_are : J.releases ≡ releases
  pub deadlines_are : J.deadlines ≡ deadlines
  pub volumes_are : J.volumes ≡ volumes
  pub passes : Passes J
  pub free : (a b : ℕ) → overloaded J a b ≡ false
  pub ranked : RankedJobs J ranks
  pub many : length ranks ≡ count J
  pub set_is : awake_of table ≡ least_skeleton J

-- one more than the last slot of each job that a list may have
pub record EndsOf (table ends : List ℕ) : Type 0 where
  pub each : (j : ℕ) → j < 64 → get_or ends j 0 ≡ end_of j table

-- the run over the skeleton has been made: what it loses of each job and one more than the last slot of each are kept
pub record Begun (J : Jobs) (releases deadlines ranks lost ends table : List ℕ) (short : ℕ) : Type 0 where
  pub releases_are : J.releases ≡ releases
  pub deadlines_are : J.deadlines ≡ deadlines
  pub way : Extending J (awake_of table) short 0 0
  pub ranked : RankedJobs J ranks
  pub many : length ranks ≡ count J
  pub kept : Kept J (awake_of table) table lost ends

-- how far each of the first n ranks reaches, in an array
pub record ReachOf (deadlines lost ends reach : List ℕ) (n : ℕ) : Type 0 where
  pub long : length reach ≡ 64
  pub each : (k : ℕ) → k < n → get_or reach k 0 ≡ reach_of (get_or lost k 0) (get_or ends k 0) (get_or deadlines k 0)
