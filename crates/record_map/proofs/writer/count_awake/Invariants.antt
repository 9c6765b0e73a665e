-- `count_awake` meets its contract: it adds the ones of one map byte a turn.
use lib.ListN.{length}
use Rattle.record_map.specs.MapBytes.{map_length}
use Rattle.sched.specs.Slots.{awake_of}
use Rattle.record_map.proofs.Bits.{Counted}
use Rattle.record_map.proofs.writer.count_awake.Given as goal

abbrev pub invariant-loop-k : goal.invariant-loop-k
invariant-loop-k l = Counted (awake_of l.slots) (map_length (length l.slots)) l.awake l.k
