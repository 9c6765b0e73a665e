-- `arrive` meets its contract: the next rank of `arrivals` joins while it is released.
use Rattle.std.proofs.Common.{arith}
use Rattle.queue.proofs.Events.{come_turn, come_small, come_all}
use Rattle.queue.proofs.arrive.Goals as goal

pub overflow_add-bits : goal.overflow_add-bits
overflow_add-bits c =
    let next = come_turn c.requires _ _ _ _ (omega (arith, c.loop-i-test.true, c.args.jobs.now.orders.by_release.long)) c.release_at.ensures (omega (arith, c.if-t-release_at.false)) c.loop-i.invariant c.joining-bits.ensures in
    record { fits = come_small c.requires _ _ next }

pub loop-i-preserved : goal.loop-i-preserved
loop-i-preserved c =
    come_turn c.requires _ _ _ _ (omega (arith, c.loop-i-test.true, c.args.jobs.now.orders.by_release.long)) c.release_at.ensures (omega (arith, c.if-t-release_at.false)) c.loop-i.invariant c.joining-bits.ensures

pub returns : goal.returns
returns c = come_all c.requires _ _ (omega (arith, c.loop-i-test.false, c.requires.came.most, c.args.jobs.now.orders.by_release.long)) c.loop-i.invariant
