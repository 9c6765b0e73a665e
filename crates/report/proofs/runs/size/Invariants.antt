-- `runs::size` meets its contract: a run a turn, from the awake slot where it begins.
use Prim.Native.Nat.{◌-◌}
use lib.ListN.{length}
use Rattle.report.proofs.Stretches.{LinesSized}
use Rattle.report.proofs.runs.size.Given as goal

abbrev pub invariant-loop-first : goal.invariant-loop-first
invariant-loop-first l = LinesSized l.table l.n l.first

abbrev pub decreases-loop-first : goal.decreases-loop-first
decreases-loop-first l = length l.table - l.first
