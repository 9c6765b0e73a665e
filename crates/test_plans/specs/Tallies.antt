-- Tallies added.
use Rattle.std.specs.Prelude.{◌≡◌, ◌+◌, ◌%◌, ◌^◌}
use Rattle.test_plans.specs.declared.compare.Tally.{Tally}

-- s is a plus b, each field modulo 2^64
pub record Sum (a b s : Tally) : Type 0 where
  pub lists : s.lists ≡ (a.lists + b.lists) % 2 ^ 64
  pub overloaded : s.overloaded ≡ (a.overloaded + b.overloaded) % 2 ^ 64
  pub differing : s.differing ≡ (a.differing + b.differing) % 2 ^ 64
  pub energy : s.energy ≡ (a.energy + b.energy) % 2 ^ 64
  pub added : s.added ≡ (a.added + b.added) % 2 ^ 64
  pub rival : s.rival ≡ (a.rival + b.rival) % 2 ^ 64
