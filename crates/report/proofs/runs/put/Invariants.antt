-- `runs::put` meets its contract: a run a turn, from the awake slot where it begins.
use Prim.Native.Nat.{◌-◌}
use lib.ListN.{length}
use Rattle.report.proofs.Stretches.{LinesLeft}
use Rattle.report.proofs.runs.put.Given as goal

abbrev pub invariant-loop-first : goal.invariant-loop-first
invariant-loop-first l = LinesLeft l.table l.initial.out l.at l.out l.place l.first

abbrev pub decreases-loop-first : goal.decreases-loop-first
decreases-loop-first l = length l.table - l.first
