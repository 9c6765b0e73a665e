-- `step2_skeleton::draw_run` meets its contract: two stretches, one behind the other.
use mathlib.Core.Path.{ap, ◌∙◌}
use Rattle.sched.specs.Slots.{idle}
use Rattle.sched.specs.Buffers.{poured}
use Rattle.step2_skeleton.proofs.Drawing.{run_drawn}
use Rattle.step2_skeleton.proofs.draw_run.Goals as goal

pub returns : goal.returns
returns c =
    let a = c.args in
    c.fill-2.ensures ∙ ap (poured a.first a.end idle) c.fill.ensures
    ∙ run_drawn a.table.now a.s a.first a.end c.requires.0 c.requires.1 c.requires.2
