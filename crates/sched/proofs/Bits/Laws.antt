-- A bit is 0 or 1.
use Rattle.std.specs.Prelude.{◌≤◌, Bool, true, false}
use Rattle.std.proofs.Common.{arith}
use Rattle.sched.specs.Bits.{bit}

pub bit_small : (b : Bool) → bit b ≤ 1
bit_small true = omega arith
bit_small false = omega arith
