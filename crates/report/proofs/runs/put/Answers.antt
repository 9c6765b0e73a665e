-- `runs::put` meets its contract: a run a turn, from the awake slot where it begins.
use Rattle.report.proofs.Stretches.{lines_left_start, lines_left_room, lines_left_turn, lines_left_end}
use Rattle.report.proofs.runs.put.Goals as goal

pub loop-first-init : goal.loop-first-init
loop-first-init c = lines_left_start _ _ _ _ c.end-first.ensures

pub put_run-place-requires : goal.put_run-place-requires
put_run-place-requires c =
    lines_left_room _ _ _ _ _ _ c.loop-first.invariant _ c.loop-first-test.true c.end-behind.ensures
    c.requires

pub loop-first-preserved : goal.loop-first-preserved
loop-first-preserved c = lines_left_turn _ _ _ _ _ _ c.loop-first.invariant _ c.loop-first-test.true c.end-behind.ensures _ _ c.put_run-place.ensures _ c.end-first-in-loop-first.ensures

pub returns : goal.returns
returns c = lines_left_end _ _ _ _ _ _ c.loop-first.invariant c.loop-first-test.false
