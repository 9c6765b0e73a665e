-- 01's windows, "r−1 to d, as far as these lie in 0 to H−1", and the least skeleton by the recursion over them.
use Rattle.std.specs.Prelude.{ℕ, ◌-◌, min, Bool, ◌&&◌, List, leb, eqb}
use Rattle.sched.specs.Bounded.{any_below}
use Rattle.sched.specs.Jobs.{Jobs, count, release, deadline}
use Rattle.laws_skeleton.specs.Recursion.{least, built}

-- the first and the last slot of job j's window
abbrev pub window_start : Jobs → ℕ → ℕ
window_start J j = release J j - 1

abbrev pub window_end : Jobs → ℕ → ℕ
window_end J j = min (deadline J j) (J.horizon - 1)

-- slot t is the last of a window that starts at c or later
unfoldable pub due : Jobs → ℕ → ℕ → Bool
due J c t = any_below (count J) (λ j. leb c (window_start J j) && eqb (window_end J j) t)

-- what the least skeleton costs
abbrev pub skeleton_energy : Jobs → ℕ
skeleton_energy J = least (due J) J.wake J.horizon J.start 0 0

-- the least skeleton
abbrev pub built_skeleton : Jobs → List Bool
built_skeleton J = built (due J) J.wake J.horizon J.start 0 0
