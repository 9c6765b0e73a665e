-- Placements from a state: the units left before slot t, and the slots from t on.
use Rattle.std.specs.Prelude.{ℕ, ◌+◌, ◌≤◌, ◌<◌, ◌≡◌, Bool, true, List, length, get_or}
use Rattle.sched.specs.Jobs.{Jobs, count}
use Rattle.sched.specs.Slots.{times}
use Rattle.sched.specs.Feasible.{OwnSlot}
use Rattle.laws_edf.specs.Run.{State}

-- placed gives each slot from t on a number; of a job, for a unit of it, or any other for none. There are L units of each job.
pub record PlacedFrom (J : Jobs) (S : ℕ → Bool) (t : ℕ) (L : State) (placed : List ℕ) : Type 0 where
  pub in_set : (i : ℕ) → i < length placed → get_or placed i 0 < count J → S (t + i) ≡ true
  pub own : (i : ℕ) → i < length placed → get_or placed i 0 < count J → OwnSlot J (get_or placed i 0) (t + i)
  pub often : (j : ℕ) → j < count J → times j placed ≤ L j

-- all units of the state are placed in the h slots from t on
pub record AllPlaced (J : Jobs) (S : ℕ → Bool) (h t : ℕ) (L : State) (placed : List ℕ) : Type 0 where
  pub long : length placed ≡ h
  pub fair : PlacedFrom J S t L placed
  pub exact : (j : ℕ) → j < count J → times j placed ≡ L j
