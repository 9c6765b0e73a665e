-- `over_ends` meets its contract: what is kept is as good as the tightest of each end so far.
use Rattle.tightest.proofs.EndByEnd.{ends_turn}
use Rattle.tightest.proofs.ByRelease.over_ends.Goals as goal

pub loop-j-preserved : goal.loop-j-preserved
loop-j-preserved c = ends_turn c.loop-j.invariant c.ending_at.ensures c.rather-best.ensures
