-- `count_before` meets its contract: no job is released before b from the place at hand on, and one job is.
use Rattle.tightest.proofs.Seeking.{Seeking}
use Rattle.tightest.proofs.ByRelease.count_before.Given as goal

abbrev pub invariant-loop-at : goal.invariant-loop-at
invariant-loop-at l = Seeking l.self.releases.now l.self.order.now l.b l.at
