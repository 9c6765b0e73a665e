-- `fill` meets its contract: a byte a turn joins the stretch.
use Rattle.sched.proofs.Poured.{poured_start, poured_turn, poured_end}
use Rattle.sched.proofs.fill.Goals as goal

pub loop-i-init : goal.loop-i-init
loop-i-init c = poured_start _ _ _ _ c.requires.0 c.requires.1

pub loop-i-preserved : goal.loop-i-preserved
loop-i-preserved c = poured_turn _ _ _ _ _ _ c.loop-i-test.true c.loop-i.invariant

pub returns : goal.returns
returns c = poured_end _ _ _ _ _ _ c.loop-i-test.false c.loop-i.invariant
