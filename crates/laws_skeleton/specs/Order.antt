-- The jobs of a list in the order in which their windows end.
use Rattle.std.specs.Prelude.{ℕ, ◌≤◌, ◌<◌}
use mathlib.Core.List.{List, [], ◌∷◌, Memᴰ as Among}
use Rattle.sched.specs.Jobs.{Jobs, count}
use Rattle.laws_skeleton.specs.Windows.{window_end}

-- no job stands behind one whose window ends later
abbrev pub Rising : Jobs → List ℕ → Type 0
Rising J [] = Unit {0}
Rising J (j ∷ js) = ((k : ℕ) → Among k js → window_end J j ≤ window_end J k) × Rising J js

-- An order that serves: `Runs` needs no more of it, so jobs whose windows end together may stand either way round.
pub record Order (J : Jobs) (order : List ℕ) : Type 0 where
  pub rising : Rising J order
  pub listed : (j : ℕ) → Among j order → j < count J
  pub all : (j : ℕ) → j < count J → Among j order
