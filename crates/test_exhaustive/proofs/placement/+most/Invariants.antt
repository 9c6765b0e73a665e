-- `most` ends: at each call fewer slots are left; and the best so far has at most one unit a slot.
use Rattle.std.proofs.Common.{◌≤◌}
use Rattle.test_exhaustive.proofs.placement.+most.Given as goal

abbrev pub invariant-loop-j : goal.invariant-loop-j
invariant-loop-j l = l.best ≤ l.slots

abbrev pub decreases-most : goal.decreases-most
decreases-most l = l.slots
