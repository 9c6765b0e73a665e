-- `arrive` meets its contract: the next rank of `arrivals` joins while it is released.
use Rattle.queue.specs.Arrivals.{Come}
use Rattle.queue.proofs.arrive.Given as goal

abbrev pub invariant-loop-i : goal.invariant-loop-i
invariant-loop-i l = Come l.fn.jobs.releases.now l.fn.jobs.ranks.now l.fn.jobs.arrivals.now l.fn.left l.t l.bits l.i l.gone
