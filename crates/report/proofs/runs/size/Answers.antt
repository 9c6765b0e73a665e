-- `runs::size` meets its contract: a run a turn, from the awake slot where it begins.
use native.Mathlib.Omega.{arith}
use Rattle.report.proofs.Stretches.{lines_sized_start, lines_sized_few, lines_sized_turn, lines_sized_end}
use Rattle.report.proofs.runs.size.Goals as goal

pub loop-first-init : goal.loop-first-init
loop-first-init c = lines_sized_start _ _ c.end-first.ensures

pub overflow_add-n : goal.overflow_add-n
overflow_add-n c =
    omega (
      arith,
      lines_sized_few _ _ _ c.loop-first.invariant _ _ c.loop-first-test.true c.end-behind.ensures c.run_size-n.ensures
          c.requires,
    )

pub loop-first-preserved : goal.loop-first-preserved
loop-first-preserved c = lines_sized_turn _ _ _ c.loop-first.invariant _ _ c.loop-first-test.true c.end-behind.ensures c.run_size-n.ensures _ c.end-first-in-loop-first.ensures

pub returns : goal.returns
returns c = lines_sized_end _ _ _ c.loop-first.invariant c.loop-first-test.false
