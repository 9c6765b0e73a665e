-- `line::numbers_size` meets its contract: a number a turn.
use native.Mathlib.Omega.{arith}
use Rattle.report.proofs.Putting.{sized_turn, sized_few, sized_end}
use Rattle.report.proofs.line.numbers_size.Goals as goal

pub overflow_add-n : goal.overflow_add-n
overflow_add-n c =
    omega (
      arith,
      sized_few _ _ _ (sized_turn _ _ _ c.loop-x.invariant _ c.loop-x-test.true c.size.ensures) c.requires,
    )

pub overflow_add-n-in-loop-x : goal.overflow_add-n-in-loop-x
overflow_add-n-in-loop-x c =
    omega (
      arith,
      sized_few _ _ _ (sized_turn _ _ _ c.loop-x.invariant _ c.loop-x-test.true c.size.ensures) c.requires,
    )

pub loop-x-preserved : goal.loop-x-preserved
loop-x-preserved c = sized_turn _ _ _ c.loop-x.invariant _ c.loop-x-test.true c.size.ensures

pub returns : goal.returns
returns c = sized_end _ _ _ c.loop-x.invariant c.loop-x-test.false
