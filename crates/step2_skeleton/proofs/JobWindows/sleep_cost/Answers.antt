-- `JobWindows::sleep_cost` meets its contract: no window passed so far is waked for, and the first that is not passed is.
use Rattle.std.proofs.Common.{rules}
use Rattle.step2_skeleton.proofs.Sleeping.{asleep_turn, asleep_found, asleep_end}
use Rattle.step2_skeleton.proofs.JobWindows.sleep_cost.Goals as goal

pub returns-then-s-self : goal.returns-then-s-self
returns-then-s-self c = asleep_found _ _ _ c.args.from _ _ (search rules) c.loop-k.invariant c.loop-k-test.true c.if-s-self.true

pub loop-k-preserved : goal.loop-k-preserved
loop-k-preserved c = asleep_turn _ _ _ c.args.from _ _ (search rules) c.loop-k.invariant c.loop-k-test.true c.if-s-self.false

pub returns : goal.returns
returns c = asleep_end _ _ _ c.args.from _ _ (search rules) c.loop-k.invariant c.loop-k-test.false
