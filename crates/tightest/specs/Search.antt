-- What the functions of the search promise each other.
use Rattle.std.specs.Prelude.{ℕ, ◌+◌, ◌-◌, ◌≤◌, ◌<◌, ◌≡◌, Bool, true, false, List, length, get_or, ltb}
use Rattle.std.specs.Int.Signed.{lt_z}
use Rattle.sched.specs.Jobs.{Jobs, jobs_of, count}
use Rattle.sched.specs.Checks.{Passes}
use Rattle.orders.specs.Rising.{rising_by, key_of}
use Rattle.orders.specs.Lists.{ListsOf}
use Rattle.tightest.specs.declared.Tight.{Tight}
use Rattle.tightest.specs.Slack.{gauged, ReleaseToDeadline, Gauged, AsGood}

-- the first of two if the test holds, else the second
abbrev pub chosen : Bool → Tight → Tight → Tight
chosen true x y = x
chosen false x y = y

-- which of the tightest intervals of two ends is reported
abbrev pub rather : Tight → Tight → Tight
rather x y = chosen (lt_z y.slack x.slack) y (chosen (lt_z x.slack y.slack) x (chosen (ltb y.b x.b) y x))

-- the lists of a job list without a fault that has a job
pub record Listed (releases deadlines volumes : List ℕ) : Type 0 where
  pub J : Jobs
  pub lists : ListsOf J releases deadlines volumes
  pub some : 0 < count J

-- the job list of these lists with the greatest horizon: where any job list of them passes the checks, it does, too
abbrev pub widest : List ℕ → List ℕ → List ℕ → Jobs
widest releases deadlines volumes = jobs_of 4096 0 releases deadlines volumes

-- the same of lists alone, and the numbers of the jobs by release
pub record Arranged (releases deadlines volumes order : List ℕ) : Type 0 where
  pub passes : Passes (widest releases deadlines volumes)
  pub some : 0 < length releases
  pub order_is : order ≡ rising_by (key_of releases) (length releases)

-- b is a job's deadline
abbrev pub EndsAt : List ℕ → ℕ → Type 0
EndsAt deadlines b = (j : ℕ) × (j < length deadlines) × (get_or deadlines j 0 ≡ b)

-- of the intervals that end at b none is reported rather than x
pub record TightestTo (J : Jobs) (b : ℕ) (x : Tight) : Type 0 where
  pub gauged_is : Gauged J x
  pub end_is : x.b ≡ b
  pub best : (a : ℕ) → ReleaseToDeadline J a b → AsGood x (gauged J a b)

-- a job is released before b
pub record Startable (releases order : List ℕ) (b : ℕ) : Type 0 where
  pub known : (k : ℕ) → k < length order → get_or order k 0 < length releases
  pub place : ℕ
  pub below : place < length order
  pub sooner : get_or releases (get_or order place 0) 0 < b

-- the n-th of the order is released before b, and none behind it is; where the order climbs, so are all before it
pub record CountsBefore (releases order : List ℕ) (b n : ℕ) : Type 0 where
  pub some : 0 < n
  pub within : n ≤ length order
  pub last : get_or releases (get_or order (n - 1) 0) 0 < b
  pub rest : (k : ℕ) → n ≤ k → k < length order → b ≤ get_or releases (get_or order k 0) 0

-- a visit of a job with release r, deadline d and volume p: a job that is not due by b changes nothing, another adds its volume, and its release is
-- taken if work reaches further from there
pub record Visits (b r d p sum a until sum' a' until' : ℕ) : Type 0 where
  pub late : b < d → (sum' ≡ sum) × (a' ≡ a) × (until' ≡ until)
  pub sum_is : d ≤ b → sum' ≡ sum + p
  pub further : d ≤ b → until < r + (sum + p) → (a' ≡ r) × (until' ≡ r + (sum + p))
  pub kept : d ≤ b → r + (sum + p) ≤ until → (a' ≡ a) × (until' ≡ until)
