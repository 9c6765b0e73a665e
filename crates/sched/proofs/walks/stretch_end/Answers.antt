-- `stretch_end` meets its contract: the slots passed are all in the same state.
use Rattle.sched.proofs.Runs.Search.{reached_on}
use Rattle.sched.proofs.walks.stretch_end.Goals as goal

pub loop-t-preserved : goal.loop-t-preserved
loop-t-preserved g c S f =
    reached_on S _ _ _ _ _ (c.loop-t.invariant S f) c.loop-t-test.true (f _ _ c.loop-t-test.true c.is_awake.ensures) c.if-is_awake-state.false
