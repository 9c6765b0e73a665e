-- `every::line` is safe: the number of tables fits.
use Rattle.std.proofs.Common.{◌≤◌, ◌^◌, arith}
use Rattle.std.proofs.Math.Nat.{pow-le-pow_right}
use Rattle.test_sleep.proofs.every.line.Goals as goal

pub pow-end-requires : goal.pow-end-requires
pow-end-requires c =
    let most : 5 ^ c.args.n ≤ 78125 = pow-le-pow_right (omega arith) c.requires in
    omega arith
