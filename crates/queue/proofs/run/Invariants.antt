-- `run` meets its contract: the slots from the first to before t are done, and the rest of the run is that from what is left.
use Rattle.queue.specs.Ranks.{spans_of}
use Rattle.queue.specs.Arrivals.{ReadyAt}
use Rattle.queue.specs.Runs.{RunTo}
use Rattle.queue.proofs.run.Given as goal

abbrev pub invariant-loop-t : goal.invariant-loop-t
invariant-loop-t l =
    let jobs = l.fn.jobs in
    RunTo (spans_of jobs.releases.now jobs.deadlines.now) l.first l.initial.left l.initial.table l.left l.table l.t
    × ReadyAt jobs.releases.now jobs.deadlines.now jobs.ranks.now jobs.arrivals.now l.left l.t l.last
