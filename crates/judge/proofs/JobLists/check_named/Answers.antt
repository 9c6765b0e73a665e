-- `JobLists::check_named` meets its contract: a turn is a clause of `rare_from`.
use Rattle.judge.proofs.Walk.{rare_next, rare_stop, rare_end}
use Rattle.judge.proofs.JobLists.check_named.Goals as goal

pub returns-then-named-j : goal.returns-then-named-j
returns-then-named-j c = rare_stop _ _ _ _ _ c.loop-j.invariant c.loop-j-test.true c.if-named-j.true

pub loop-j-preserved : goal.loop-j-preserved
loop-j-preserved c = rare_next _ _ _ _ _ c.loop-j.invariant c.loop-j-test.true c.if-named-j.false

pub returns : goal.returns
returns c = rare_end _ _ _ _ _ c.loop-j.invariant c.loop-j-test.false
