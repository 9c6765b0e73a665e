-- `JobWindows::best_end` meets its contract: after each window the best end of those looked at is known for every list.
use Rattle.std.proofs.Common.{arith}
use Rattle.step2_skeleton.proofs.Pricing.{start_small}
use Rattle.step2_skeleton.proofs.Sleeping.{ended_turn, ended_end}
use Rattle.step2_skeleton.proofs.JobWindows.best_end.Goals as goal

pub overflow_add-end : goal.overflow_add-end
overflow_add-end c = omega (arith, start_small _ _ c.args.self.now.placed _ c.loop-k-test.true)

pub loop-k-preserved : goal.loop-k-preserved
loop-k-preserved c =
    ended_turn _ c.args.rests.now _ _ _ c.loop-k.best c.better-best.result _ c.loop-k.auto.k c.loop-k-test.true
    c.loop-k.invariant c.better-best.ensures.0 c.better-best.ensures.1

pub returns : goal.returns
returns c = ended_end _ c.args.rests.now _ _ _ _ _ _ c.loop-k-test.false c.loop-k.invariant
