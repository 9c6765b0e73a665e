-- `grow::first_near` meets its contract: up to the first awake slot all sleep.
use Rattle.step3_extend.proofs.Reading.{sleeping_start, sleeping_turn, alone_none, alone_before}
use Rattle.step3_extend.proofs.grow.first_near.Goals as goal

pub loop-t-init : goal.loop-t-init
loop-t-init c = sleeping_start _

pub loop-t-preserved : goal.loop-t-preserved
loop-t-preserved c = sleeping_turn _ _ c.loop-t-test.true c.if-books-t.false c.loop-t.invariant

pub returns-then-books-t : goal.returns-then-books-t
returns-then-books-t c = rw c.saturating_sub.ensures (alone_before _ _ c.loop-t.invariant)

pub returns : goal.returns
returns c = alone_none _
