-- 01, "Words of the plan" and step 2 (000, section 1.1: skeletons): which sets are skeletons, and the least one.
use Rattle.std.specs.Prelude.{ℕ, zero, suc, ◌≤◌, ◌≡◌, Bool, true, false, ◌&&◌, List, [], ◌∷◌, map, ◌++◌, length, leb}
use Rattle.sched.specs.Bounded.{any_below, all_below, keep, first_least}
use Rattle.sched.specs.Jobs.{Jobs, count, release, deadline}
use Rattle.sched.specs.Slots.{awake}
use Rattle.sched.specs.Energy.{energy}

-- slot t is "among r−1 to d"
abbrev pub in_window : Jobs → ℕ → ℕ → Bool
in_window J j t = leb (release J j) (suc t) && leb t (deadline J j)

-- "a set of awake slots that has, for each job, at least one slot among r−1 to d, as far as these lie in 0 to H−1". Card 10: from a start awake "A
-- skeleton still needs slots of its own": the start is a state and meets no window.
unfoldable pub is_skeleton : Jobs → List Bool → Bool
is_skeleton J S = all_below (count J) (λ j. any_below J.horizon (λ t. awake S t && in_window J j t))

-- all sets of n slots, in the order in which the first slot where two differ sleeps in the earlier one
unfoldable pub all_sets : ℕ → List (List Bool)
all_sets zero = [] ∷ []
all_sets (suc n) = map (λ S. false ∷ S) (all_sets n) ++ map (λ S. true ∷ S) (all_sets n)

unfoldable pub skeletons : Jobs → List (List Bool)
skeletons J = keep (is_skeleton J) (all_sets J.horizon)

-- the first of least energy; a list that passes the checks has a skeleton, all slots awake
unfoldable pub least_of : Jobs → List (List Bool) → List Bool
least_of J [] = []
least_of J (S ∷ rest) = first_least (energy J) S rest

-- from the list's start "the skeleton of least energy. Among equals take the one that, at the first slot where two differ, is asleep."
unfoldable pub least_skeleton : Jobs → List Bool
least_skeleton J = least_of J (skeletons J)

-- The same in words, for theorems to name

-- the sets have as many slots and are the same, or differ, and the first sleeps where they first differ
abbrev pub Precedes : List Bool → List Bool → Type 0
Precedes [] [] = Unit {0}
Precedes [] (y ∷ R) = ⊥
Precedes (x ∷ S) [] = ⊥
Precedes (false ∷ S) (false ∷ R) = Precedes S R
Precedes (false ∷ S) (true ∷ R) = Unit {0}
Precedes (true ∷ S) (false ∷ R) = ⊥
Precedes (true ∷ S) (true ∷ R) = Precedes S R

-- "the skeleton of least energy", and among equals the first
pub record Least (J : Jobs) (B : List Bool) : Type 0 where
  pub long : length B ≡ J.horizon
  pub skeleton : is_skeleton J B ≡ true
  pub cheapest : (S : List Bool) → length S ≡ J.horizon → is_skeleton J S ≡ true → energy J B ≤ energy J S
  pub first : (S : List Bool) → length S ≡ J.horizon → is_skeleton J S ≡ true → energy J S ≡ energy J B → Precedes B S
