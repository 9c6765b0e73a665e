-- `map_byte` meets its contract: the slots from first + k on are packed, and k falls to 0.
use Prim.Native.Nat.{◌+◌, ◌-◌}
use mathlib.Core.Path.{refl}
use native.Mathlib.Omega.{arith}
use Rattle.sched.specs.Slots.{awake, awake_of}
use Rattle.sched.proofs.Bits.Laws.{bit_small}
use Rattle.record_map.specs.MapBytes.{bits}
use Rattle.record_map.proofs.Bits.{packed_small, packed_turn}
use Rattle.record_map.proofs.writer.map_byte.Goals as goal

pub loop-k-init : goal.loop-k-init
unfolding bits
loop-k-init c = refl

pub overflow_mul-byte : goal.overflow_mul-byte
overflow_mul-byte c = omega (arith, packed_small _ _ _ _ c.loop-k.invariant c.loop-k.auto.k c.loop-k-test.true)

pub overflow_add-byte : goal.overflow_add-byte
overflow_add-byte c =
    omega (arith, packed_small _ _ _ _ c.loop-k.invariant c.loop-k.auto.k c.loop-k-test.true, c.bit.ensures, bit_small (awake (awake_of c.args.slots.now) (c.args.first + (c.loop-k.k - 1))))

pub loop-k-preserved : goal.loop-k-preserved
loop-k-preserved c = packed_turn _ _ _ _ c.loop-k.invariant c.loop-k.auto.k _ c.loop-k-test.true c.bit.ensures
