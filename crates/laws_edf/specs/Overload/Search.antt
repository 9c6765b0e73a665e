-- The greatest start for an end b: only the release of a job with d ≤ b can be one. The jobs are visited by falling release, and the volumes of those
-- with d ≤ b added up, until they exceed the slots from the release to b.
use Rattle.std.specs.Prelude.{ℕ, suc, ◌+◌, ◌-◌, ◌≤◌, ◌<◌, ◌≡◌, true, false, List, [], ◌∷◌, map, leb, ltb}
use Rattle.std.proofs.Math.Option.{Option, none, some}
use Rattle.sched.specs.Jobs.{Jobs, count, release, deadline, volume}
use Rattle.sched.specs.Bounded.{total}
use Rattle.steps.specs.Overload.{volume_if, volume_inside}
use Rattle.steps.specs.Overload.{Overfull}
use Rattle.laws_edf.specs.Overload.Order.{AtMost, Falling}

-- the greatest start for the end b; `sum` is the volume of the jobs with d ≤ b that were visited
unfoldable pub start_for : Jobs → ℕ → List ℕ → ℕ → Option ℕ
start_for J b [] sum = none
start_for J b (j ∷ js) sum =
    elim (leb (deadline J j) b) [
      | false ↦ start_for J b js sum
      | true ↦ elim (ltb (b - release J j) (sum + volume J j)) [ true ↦ some (release J j) | false ↦ start_for J b js (sum + volume J j) ]
    ]

-- the start, or x where there is none
abbrev pub start_or : ℕ → Option ℕ → ℕ
start_or x none = x
start_or x (some a) = a

-- what holds before the rest of the jobs is visited: no start above `top` was missed, the jobs of the rest are released at `top` or before, and
-- a start up to there has the visited jobs inside as well as those of the rest
pub record Visited (J : Jobs) (b : ℕ) (rest : List ℕ) (sum top : ℕ) : Type 0 where
  pub known : AtMost suc (count J) rest
  pub most : AtMost (release J) top rest
  pub falling : Falling (release J) rest
  pub room : sum ≤ b - top
  pub later : (a : ℕ) → top < a → Overfull J a b → ⊥
  pub inside : (a : ℕ) → a ≤ top → volume_inside J a b ≡ sum + total (map (volume_if J a b) rest)

-- what an answer says of the starts for the end b
abbrev pub Starts : Jobs → ℕ → Option ℕ → Type 0
Starts J b none = (a : ℕ) → Overfull J a b → ⊥
Starts J b (some a) = Overfull J a b × ((x : ℕ) → Overfull J x b → x ≤ a)
