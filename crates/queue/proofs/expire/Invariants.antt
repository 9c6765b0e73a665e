-- `expire` meets its contract: deadlines rise by rank, so it stops at the first that has not passed.
use Rattle.queue.specs.Arrivals.{Gone}
use Rattle.queue.proofs.expire.Given as goal

abbrev pub invariant-loop-k : goal.invariant-loop-k
invariant-loop-k l = Gone l.fn.jobs.deadlines.now l.fn.jobs.ranks.now l.t l.k
