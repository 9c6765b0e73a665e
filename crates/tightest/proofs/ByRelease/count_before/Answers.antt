-- `count_before` meets its contract: it counts down while the job at hand is not released before b, and one job is.
use native.Mathlib.Omega.{arith}
use Rattle.tightest.proofs.Seeking.{seek_start, seek_on}
use Rattle.tightest.proofs.ByRelease.count_before.Goals as goal

pub loop-at-init : goal.loop-at-init
loop-at-init c = seek_start c.requires

pub loop-at-preserved : goal.loop-at-preserved
loop-at-preserved c = seek_on c.loop-at.invariant (omega arith)
