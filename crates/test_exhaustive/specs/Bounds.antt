-- How large the figures of an exhaustive search over eight slots can get.
use Rattle.std.specs.Prelude.{◌≤◌}
use Rattle.test_exhaustive.specs.declared.Solved.{Solved}

pub record Bounded (s : Solved) : Type 0 where
  pub energy : s.energy ≤ 524288
  pub awake : s.awake ≤ 8
  pub runs : s.runs ≤ 8
  pub added : s.added ≤ 8
