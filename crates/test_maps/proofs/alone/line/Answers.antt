-- `alone::line` is safe: the number of lists fits.
use Rattle.std.proofs.Common.{◌≤◌, ◌^◌, arith}
use Rattle.std.proofs.Math.Nat.{pow-le-pow_right}
use Rattle.test_maps.proofs.alone.line.Goals as goal

pub pow-code-end-requires : goal.pow-code-end-requires
pow-code-end-requires c =
    let last : c.loop-n.n ≤ 7 = omega arith in
    let most : 4 ^ c.loop-n.n ≤ 16384 = pow-le-pow_right (omega arith) last in
    omega arith
