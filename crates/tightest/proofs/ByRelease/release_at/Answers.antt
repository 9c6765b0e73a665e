-- `release_at` meets its contract: the order has numbers of jobs alone.
use Rattle.tightest.proofs.Walking.{known_at}
use Rattle.tightest.proofs.ByRelease.release_at.Goals as goal

pub bounds-self-self : goal.bounds-self-self
bounds-self-self c = known_at c.args.self.now.arranged c.args.at c.requires
