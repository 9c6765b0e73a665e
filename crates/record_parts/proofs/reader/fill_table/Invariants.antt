-- `fill_table` meets its contract: an awake slot takes the next byte, a sleeping one none.
use lib.ListN.{length, take}
use Rattle.record_map.specs.MapBits.{bits_of}
use Rattle.record_parts.proofs.Spreading.{Spreading}
use Rattle.record_parts.proofs.reader.fill_table.Given as goal

abbrev pub invariant-loop-t : goal.invariant-loop-t
invariant-loop-t l = Spreading (take (length l.initial.table) (bits_of l.bits)) l.bytes l.initial.table l.table l.at l.t
