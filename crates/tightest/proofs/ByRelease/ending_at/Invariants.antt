-- `ending_at` meets its contract: a turn visits the last of the jobs that are left, and 64 volumes are far within 31 bits.
use Rattle.tightest.proofs.Walking.{Walking}
use Rattle.tightest.proofs.ByRelease.ending_at.Given as goal

abbrev pub invariant-loop-at : goal.invariant-loop-at
invariant-loop-at l =
    Walking l.self.releases.now l.self.deadlines.now l.self.volumes.now l.self.order.now l.b l.at l.far.sum l.far.a l.far.until
