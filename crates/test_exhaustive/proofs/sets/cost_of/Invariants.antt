-- `cost_of` meets its bounds: each slot adds at most 65,536 to the energy and 1 to each count.
use Rattle.std.proofs.Common.{◌*◌, ◌≤◌}
use Rattle.test_exhaustive.proofs.sets.cost_of.Given as goal

abbrev pub invariant-loop-t : goal.invariant-loop-t
invariant-loop-t l = (l.runs ≤ l.t) × (l.awake ≤ l.t) × (l.energy ≤ 65536 * l.t)
