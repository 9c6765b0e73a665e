-- `least` ends: at each call fewer slots are left; and the best so far has its bound.
use Rattle.std.proofs.Common.{◌+◌, ◌*◌, ◌≤◌}
use Rattle.test_exhaustive.proofs.rivals.+least.Given as goal

abbrev pub invariant-loop-j : goal.invariant-loop-j
invariant-loop-j l = l.best ≤ 1000000 + 65536 * l.slots

abbrev pub decreases-least : goal.decreases-least
decreases-least l = l.slots
