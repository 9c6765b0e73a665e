-- `release_at` meets its contract: there is a release exactly at the places of `arrivals`.
use Rattle.std.proofs.Common.{rules}
use Rattle.queue.specs.Arrivals.{or_beyond}
use Rattle.queue.proofs.release_at.Goals as goal

pub returns-in-Some : goal.returns-in-Some
unfolding or_beyond
returns-in-Some c = search rules

pub returns-in-None : goal.returns-in-None
unfolding or_beyond
returns-in-None c = search rules
