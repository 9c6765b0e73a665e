-- Rules of step 4 that take a released, unfinished job of earliest deadline wherever there is one. Which of several they take is left open.
use Rattle.std.specs.Prelude.{ℕ, ◌≤◌, ◌<◌, ◌≡◌, Bool, true, false, List}
use Rattle.std.proofs.Math.Option.{Option, none, some}
use Rattle.sched.specs.Jobs.{Jobs, count, deadline}
use Rattle.steps.specs.Table.{Rule, runnable}

-- k is one of the jobs below n of which f holds, and none of these has an earlier deadline d
pub record Soonest (d : ℕ → ℕ) (f : ℕ → Bool) (n k : ℕ) : Type 0 where
  pub below : k < n
  pub holds : f k ≡ true
  pub first : (j : ℕ) → j < n → f j ≡ true → d k ≤ d j

-- one of them, where there is one
abbrev pub OneOf : (ℕ → ℕ) → (ℕ → Bool) → ℕ → Option ℕ → Type 0
OneOf d f n none = (j : ℕ) → j < n → f j ≡ false
OneOf d f n (some k) = Soonest d f n k

-- whatever it is given, the rule takes one of the released, unfinished jobs of earliest deadline, where there is one
abbrev pub EarliestRule : Jobs → Rule → Type 0
EarliestRule J rule = (t : ℕ) (left : List ℕ) (latest : Option ℕ) → OneOf (deadline J) (runnable J t left) (count J) (rule t left latest)
