-- `deadline_at` meets its contract, by its test.
use Rattle.std.proofs.Common.{sym, arith}
use Rattle.queue.specs.Arrivals.Laws.{beyond_in}
use Rattle.queue.proofs.Events.{beyond_out}
use Rattle.queue.proofs.deadline_at.Goals as goal

pub returns-then-k-jobs : goal.returns-then-k-jobs
returns-then-k-jobs c =
    let o = c.args.jobs.now.orders in
    sym (beyond_in _ _ _ (omega (arith, c.if-k-jobs.true, o.same, o.by_deadline.long)))

pub returns : goal.returns
returns c =
    let o = c.args.jobs.now.orders in
    sym (beyond_out _ _ _ (omega (arith, c.if-k-jobs.false, o.same, o.by_deadline.long)))
