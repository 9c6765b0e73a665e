-- `fill_map` meets its contract: it stores one map byte a turn.
use lib.ListN.{length}
use Rattle.record_map.specs.MapBytes.{map_length}
use Rattle.sched.specs.Slots.{awake_of}
use Rattle.record_map.proofs.MapFilling.{Map}
use Rattle.record_map.proofs.writer.fill_map.Given as goal

abbrev pub invariant-loop-k : goal.invariant-loop-k
invariant-loop-k l = Map (awake_of l.slots) (map_length (length l.slots)) l.initial.map l.map l.k
