-- `JobWindows::draw` meets its contract: what is drawn so far and the runs still to come are the whole set.
use Rattle.step2_skeleton.proofs.Drawing.{drawing_start, drawing_met, run_fits, drawing_run, drawing_end}
use Rattle.step2_skeleton.proofs.JobWindows.draw.Goals as goal
use Rattle.step2_skeleton.proofs.JobWindows.draw.Goals.{then-s-start, else-s-start}

pub loop-i-init : goal.loop-i-init
loop-i-init c = drawing_start c.requires

pub draw_run-requires : goal.draw_run-requires
draw_run-requires c = run_fits c.requires c.loop-i-test.true c.loop-i.invariant c.if-s-start.true c.args.self.now.placed

pub loop-i-preserved : goal.loop-i-preserved
loop-i-preserved c =
    let l = c.loop-i-test.true in
    let d = c.loop-i.invariant in
    elim c.if-s-start.branch [
      | then-s-start w ↦ rw (w.table-is, w.s-is) (drawing_run c.requires l d w.if-s-start.true c.args.self.now.placed _ w.draw_run.auto.table w.draw_run.ensures)
      | else-s-start w ↦ rw (w.table-is, w.s-is) (drawing_met c.requires l d w.if-s-start.false)
    ]

pub returns : goal.returns
returns c = drawing_end c.requires c.fill.new.table c.loop-i-test.false c.fill.auto.table c.fill.ensures c.loop-i.invariant
