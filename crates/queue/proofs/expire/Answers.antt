-- `expire` meets its contract: deadlines rise by rank, so it stops at the first that has not passed.
use Rattle.std.proofs.Common.{arith}
use Rattle.queue.proofs.Events.{gone_turn, gone_all}
use Rattle.queue.proofs.expire.Goals as goal

pub loop-k-preserved : goal.loop-k-preserved
loop-k-preserved c =
    let o = c.args.jobs.now.orders in
    gone_turn _ _ _ _ _ (omega (arith, c.loop-k-test.true, o.same, o.by_deadline.long)) c.deadline_at.ensures (omega (arith, c.if-t-deadline_at.false)) c.loop-k.invariant

pub returns : goal.returns
returns c = gone_all c.args.jobs.now _ _ _ c.requires.short (omega arith) (omega (arith, c.loop-k-test.false)) c.loop-k.invariant
