-- `stretch::line` is safe: the part that is lent has its length.
use Rattle.std.proofs.Common.{sym, arith, ◌+◌, ◌*◌, ◌≤◌}
use lib.Seq.{length-take-le}
use Rattle.test_sleep.proofs.stretch.line.Goals as goal

pub slice_bounds-settle-end : goal.slice_bounds-settle-end
slice_bounds-settle-end c =
    let fits : 3 * c.args.g + 2 ≤ 196610 = omega (arith, c.requires) in
    sym (length-take-le _ _ fits)

pub settle-requires-clause-long : goal.settle-requires-clause-long
settle-requires-clause-long c =
    let fits : 3 * c.args.g + 2 ≤ 196610 = omega (arith, c.requires) in
    length-take-le _ _ fits
