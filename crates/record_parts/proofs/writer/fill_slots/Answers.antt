-- `fill_slots` meets its contract: an awake slot stores one byte, a sleeping one none.
use native.Mathlib.Omega.{arith}
use Rattle.record_parts.proofs.SlotBytes.{slots_asleep, slots_room, slots_awake, slots_end}
use Rattle.record_parts.proofs.writer.fill_slots.Goals as goal
use Rattle.record_parts.proofs.writer.fill_slots.Goals.{then-byte, else-byte}

pub bounds-out-at : goal.bounds-out-at
bounds-out-at c = omega (arith, slots_room _ _ _ _ _ c.loop-byte.invariant c.loop-byte-test.true c.if-byte.true)

pub loop-byte-preserved : goal.loop-byte-preserved
loop-byte-preserved c =
    elim c.if-byte.branch [
      | then-byte w ↦ rw (w.out-is, w.at-is) (slots_awake _ _ _ _ _ c.loop-byte.invariant c.loop-byte-test.true w.if-byte.true)
      | else-byte w ↦ rw (w.out-is, w.at-is) (slots_asleep _ _ _ _ _ c.loop-byte.invariant c.loop-byte-test.true w.if-byte.false)
    ]

pub returns : goal.returns
returns c = slots_end _ _ _ _ _ c.loop-byte.invariant c.requires c.loop-byte-test.false
