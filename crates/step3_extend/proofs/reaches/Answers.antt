-- `step3_extend::reaches` meets its contract, a rank a turn.
use Rattle.std.proofs.Common.{refl}
use Rattle.step3_extend.proofs.Gathering.{reaching_start, reaching_turn, reaching_end}
use Rattle.step3_extend.proofs.reaches.Goals as goal

pub loop-k-init : goal.loop-k-init
loop-k-init c = reaching_start _ _ _ _ refl

pub loop-k-preserved : goal.loop-k-preserved
loop-k-preserved c = reaching_turn _ _ _ _ _ _ c.loop-k-test.true c.reach_of.ensures c.loop-k.invariant

pub returns : goal.returns
returns c = reaching_end _ _ _ _ _ c.loop-k-test.false c.loop-k.invariant
