-- 01, "Words of the plan", last sentence: the workable volume of a set of slots, the greatest number of job units that can be placed in it.
use Rattle.std.specs.Prelude.{ℕ, suc, ◌-◌, ◌≤◌, ◌<◌, max, ◌≡◌, Bool, true, false, ◌&&◌, List, [], ◌∷◌, length, get_or, set, leb, ltb}
use Rattle.sched.specs.Bounded.{max_below}
use Rattle.sched.specs.Jobs.{Jobs, count, release, deadline, volume}
use Rattle.sched.specs.Slots.{awake, times}
use Rattle.sched.specs.Feasible.{OwnSlot}

-- A placement in S gives each slot a number: of a job, for a unit of it, or any other for none. So there is "at most one a slot",
-- "each job in its own slots and at most p times".
pub record Placement (J : Jobs) (S : List Bool) (placed : List ℕ) : Type 0 where
  pub long : length placed ≡ J.horizon
  pub in_set : (t : ℕ) → t < J.horizon → get_or placed t 0 < count J → awake S t ≡ true
  pub own : (t : ℕ) → t < J.horizon → get_or placed t 0 < count J → OwnSlot J (get_or placed t 0) t
  pub often : (j : ℕ) → j < count J → times j placed ≤ volume J j

-- how many job units a placement has
unfoldable pub units : Jobs → List ℕ → ℕ
units J [] = 0
units J (x ∷ rest) = elim (ltb x (count J)) [ true ↦ suc (units J rest) | false ↦ units J rest ]

-- v is the workable volume of S: it is reached, and no placement has more
pub record Greatest (J : Jobs) (S : List Bool) (v : ℕ) : Type 0 where
  pub reached : (placed : List ℕ) × Placement J S placed × (units J placed ≡ v)
  pub bound : (placed : List ℕ) → Placement J S placed → units J placed ≤ v

-- a unit of job j may be placed in slot t where these units are left
abbrev pub placeable : Jobs → ℕ → List ℕ → ℕ → Bool
placeable J t left j = leb (release J j) t && ltb t (deadline J j) && ltb 0 (get_or left j 0)

-- the units left after one of job j
abbrev pub lower : List ℕ → ℕ → List ℕ
lower left j = set left j (get_or left j 0 - 1)

-- the most units that can be placed from slot t on: none in slot t, or, where it is awake, one of any job that may be placed there
unfoldable pub most_from : Jobs → ℕ → List ℕ → List Bool → ℕ
most_from J t left [] = 0
most_from J t left (false ∷ S) = most_from J (suc t) left S
most_from J t left (true ∷ S) =
    max (most_from J (suc t) left S)
    (max_below (count J) (λ j. elim (placeable J t left j) [ true ↦ suc (most_from J (suc t) (lower left j) S) | false ↦ 0 ]))

-- The workable volume, by trying every placement. That it is `Greatest` is `workable_greatest` of the crate `laws_edf`.
unfoldable pub workable : Jobs → List Bool → ℕ
workable J S = most_from J 0 J.volumes S
