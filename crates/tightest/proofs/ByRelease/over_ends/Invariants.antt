-- `over_ends` meets its contract: what is kept is as good as the tightest of each end so far.
use Rattle.tightest.proofs.EndByEnd.{EndByEnd}
use Rattle.tightest.proofs.ByRelease.over_ends.Given as goal

abbrev pub invariant-loop-j : goal.invariant-loop-j
invariant-loop-j l = EndByEnd l.self.releases.now l.self.deadlines.now l.self.volumes.now l.self.order.now l.best l.j
