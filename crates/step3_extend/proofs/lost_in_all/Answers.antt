-- `step3_extend::lost_in_all` meets its contract: all of the list has been added up.
use Rattle.std.proofs.Common.{◌≡◌, take, sum, ap, ◌∙◌, arith, take_all}
use Rattle.step3_extend.proofs.Ends.{sum_is}
use Rattle.step3_extend.proofs.lost_in_all.Goals as goal

pub returns : goal.returns
returns c =
    let whole : take c.loop-units.units-index c.args.lost.now ≡ c.args.lost.now = take_all _ _ (omega arith) in
    c.loop-units.invariant.0 ∙ ap sum whole ∙ sum_is c.args.lost.now
