-- `fill_slots` meets its contract: an awake slot stores one byte, a sleeping one none.
use lib.ListN.{drop}
use Rattle.record_map.proofs.Stored.Laws.{Filling}
use Rattle.record_parts.specs.Layout.{slot_bytes}
use Rattle.record_parts.proofs.writer.fill_slots.Given as goal

abbrev pub invariant-loop-byte : goal.invariant-loop-byte
invariant-loop-byte l = Filling l.initial.out (slot_bytes l.slots) l.out l.at (slot_bytes (drop l.byte-index l.slots))
