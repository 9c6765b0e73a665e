-- 01, "Words of the plan": when a table of H bytes is feasible (000, section 1.1: a feasible schedule). A rival's schedule is any such table.
use Rattle.std.specs.Prelude.{ℕ, ◌≤◌, ◌<◌, ◌≡◌, List, ◌⊎◌, length, get_or}
use Rattle.sched.specs.Jobs.{Jobs, count, release, deadline, volume}
use Rattle.sched.specs.Slots.{times, idle, asleep}

-- "It may run in slots r to d−1."
pub record OwnSlot (J : Jobs) (j t : ℕ) : Type 0 where
  pub released : release J j ≤ t
  pub before : t < deadline J j

-- "it holds only 254, 255 and numbers of jobs in the list, and each job stands only in its own slots and exactly p times"
pub record Feasible (J : Jobs) (table : List ℕ) : Type 0 where
  pub long : length table ≡ J.horizon
  pub known : (t : ℕ) → t < J.horizon → (get_or table t 0 < count J) ⊎ ((get_or table t 0 ≡ idle) ⊎ (get_or table t 0 ≡ asleep))
  pub own : (t : ℕ) → t < J.horizon → get_or table t 0 < count J → OwnSlot J (get_or table t 0) t
  pub exact : (j : ℕ) → j < count J → times j table ≡ volume J j
