-- `fill_record` meets its contract: the slot bytes are filled in the part behind the map.
use native.Mathlib.Omega.{arith}
use lib.ListN.{length-take, length-drop}
use Rattle.record_map.proofs.MapBytes.Laws.{length_map_of}
use Rattle.record_parts.specs.Layout.{front_of, slot_bytes, record_of}
use Rattle.record_parts.proofs.LayoutLaws.{length_record, length_slot_bytes}
use Rattle.record_parts.proofs.Parts.{next_piece}
use Rattle.record_parts.proofs.writer.fill_record.Goals as goal

pub fill_front-requires : goal.fill_front-requires
fill_front-requires c = (c.requires.few, omega (arith, c.requires.room, length_record c.args.h c.args.slots.now))

pub slice_bounds-fill_slots-count : goal.slice_bounds-fill_slots-count
slice_bounds-fill_slots-count c = omega (arith, c.fill_front.auto.out, c.requires.start, c.requires.room, length_record c.args.h c.args.slots.now)

pub slice_bounds-fill_slots-start : goal.slice_bounds-fill_slots-start
slice_bounds-fill_slots-start c = omega (arith, c.fill_front.auto.out, c.requires.start, c.requires.room, length_record c.args.h c.args.slots.now)

pub fill_slots-requires : goal.fill_slots-requires
fill_slots-requires c =
    let slots = c.args.slots.now in
    simp (length-take, length-drop)
    (omega (arith, c.fill_front.auto.out, c.requires.start, c.requires.room, length_record c.args.h slots, length_slot_bytes slots))

pub returns : goal.returns
unfolding record_of
returns c =
    let h = c.args.h in
    let slots = c.args.slots.now in
    next_piece (front_of h slots) (slot_bytes slots) c.args.out.now c.fill_front.new.out c.fill_slots.new.out
    c.args.behind (omega (arith, c.requires.start, length_map_of slots))
    (omega (arith, c.requires.room, length_record h slots, length_map_of slots)) c.fill_front.ensures c.fill_slots.ensures
