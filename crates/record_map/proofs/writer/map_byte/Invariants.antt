-- `map_byte` meets its contract: the slots from first + k on are packed, and k falls to 0.
use Rattle.sched.specs.Slots.{awake_of}
use Rattle.record_map.proofs.Bits.{Packed}
use Rattle.record_map.proofs.writer.map_byte.Given as goal

abbrev pub invariant-loop-k : goal.invariant-loop-k
invariant-loop-k l = Packed l.first (awake_of l.slots) l.byte l.k
