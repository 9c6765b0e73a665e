-- `fill` meets its contract: the slots before t are filled, and the rest is filled from what is left and the job that ran last.
use Rattle.std.proofs.Common.{arith}
use Rattle.queue.specs.Runs.Waiting.{ready_first}
use Rattle.step4_table.proofs.SlotBySlot.{fill_starts, fill_more, fill_ready, fill_ends}
use Rattle.step4_table.proofs.fill.Goals as goal

pub loop-t-init : goal.loop-t-init
loop-t-init c = (fill_starts _ _ _, ready_first _ _ _ _ _ _)

pub loop-t-preserved : goal.loop-t-preserved
loop-t-preserved c =
    let so_far = c.loop-t.invariant.0 in
    let filled = c.slot-last.ensures so_far.job so_far.stands in (
      fill_more _ _ _ _ _ _ _ _ _ _ (omega (arith, c.loop-t-test.true, so_far.same_long)) so_far filled,
      fill_ready _ _ _ _ _ _ _ _ filled,
    )

pub returns : goal.returns
returns c =
    let so_far = c.loop-t.invariant.0 in
    fill_ends _ _ _ _ _ _ _ _ c.units-left.ensures (omega (arith, c.loop-t-test.false, so_far.same_long)) so_far
