-- `run` meets its contract: the slots from the first to before t are done, and the rest of the run is that from what is left.
use Rattle.std.proofs.Common.{arith}
use Rattle.queue.specs.Runs.Waiting.{ready_first}
use Rattle.queue.proofs.SlotBySlot.{run_starts, run_turn, run_ready, run_ends}
use Rattle.queue.proofs.run.Goals as goal

pub loop-t-init : goal.loop-t-init
loop-t-init c = (run_starts _ _ _ _, ready_first _ _ _ _ _ _)

pub loop-t-preserved : goal.loop-t-preserved
loop-t-preserved c =
    let so_far = c.loop-t.invariant.0 in
    (run_turn _ _ _ _ _ _ _ _ _ _ (omega (arith, c.loop-t-test.true, so_far.same_long)) so_far c.slot-last.ensures, run_ready _ _ _ _ _ _ _ c.slot-last.ensures)

pub returns : goal.returns
returns c =
    let so_far = c.loop-t.invariant.0 in
    run_ends _ _ _ _ _ _ _ (omega (arith, c.loop-t-test.false, so_far.same_long)) so_far
