-- `line::put_numbers` meets its contract: a number a turn.
use Rattle.report.proofs.Putting.{numbers_room, numbers_turn, numbers_end}
use Rattle.report.proofs.line.put_numbers.Goals as goal

pub put_number-place-requires : goal.put_number-place-requires
put_number-place-requires c = numbers_room _ _ _ _ _ _ c.loop-x.invariant c.loop-x-test.true c.requires

pub loop-x-preserved : goal.loop-x-preserved
loop-x-preserved c = numbers_turn _ _ _ _ _ _ c.loop-x.invariant _ _ c.loop-x-test.true c.put_number-place.ensures

pub returns : goal.returns
returns c = numbers_end _ _ _ _ _ _ c.loop-x.invariant c.loop-x-test.false
