-- `fill` meets its contract: the slots before t are filled, and the rest is filled from what is left and the job that ran last.
use Rattle.queue.specs.Arrivals.{ReadyAt}
use Rattle.step4_table.proofs.SlotBySlot.{FilledTo}
use Rattle.step4_table.proofs.fill.Given as goal

abbrev pub invariant-loop-t : goal.invariant-loop-t
invariant-loop-t l =
    let jobs = l.fn.jobs in
    FilledTo jobs l.initial.left l.initial.table l.left l.table l.t l.last.latest
    × ReadyAt jobs.releases.now jobs.deadlines.now jobs.ranks.now jobs.arrivals.now l.left l.t l.last.ready
