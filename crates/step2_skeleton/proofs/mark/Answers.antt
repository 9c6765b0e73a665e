-- `step2_skeleton::mark` meets its contract: the windows by place are those of every list with these parts, so what is drawn is its skeleton.
use Rattle.std.proofs.Common.{rules}
use Rattle.step2_skeleton.proofs.Marking.{placed_few, placed_same, all_placed, mark_ends}
use Rattle.step2_skeleton.proofs.mark.Goals as goal

pub invariant_of-windows : goal.invariant_of-windows
invariant_of-windows c =
    let kept = c.by_place.auto in
    let filled = c.by_place.ensures in
    let p = c.requires.1 in
    record {
      few = placed_few kept.starts kept.ends filled.0 filled.1 p;
      same = placed_same kept.starts kept.ends filled.0 filled.1 p;
      placed = all_placed kept.starts kept.ends filled.0 filled.1 p (search rules);
    }

pub returns : goal.returns
returns c J p =
    mark_ends c.by_place.auto.starts c.by_place.auto.ends c.by_place.ensures.0 c.by_place.ensures.1 p c.mark.new.table c.mark.ensures
