-- `fill_table` meets its contract: an awake slot takes the next byte, a sleeping one none.
use Rattle.std.specs.Prelude.{ℕ, Bool, false, List, length, take, ◌<◌, ◌≡◌}
use Rattle.std.proofs.Common.{sym, ◌∙◌, arith}
use lib.Seq.{get_or-take}
use Rattle.sched.specs.Slots.{awake}
use Rattle.record_map.specs.MapBits.{bits_of}
use Rattle.record_map.proofs.MapBits.Laws.{length_slots}
use Rattle.record_parts.proofs.Spreading.{spreading_start, spreading_room, spreading_awake, spreading_asleep, spreading_end}
use Rattle.record_parts.proofs.reader.fill_table.Goals as goal
use Rattle.record_parts.proofs.reader.fill_table.Goals.{then-is_awake, else-is_awake}

-- the slot that was looked at
looked : (bits table : List ℕ) (t : ℕ) (told : Bool) → t < length table → told ≡ awake (bits_of bits) t → awake (take (length table) (bits_of bits)) t ≡ told
looked bits table t told l e = get_or-take (length table) (bits_of bits) t false l ∙ sym e

pub loop-t-init : goal.loop-t-init
loop-t-init c = spreading_start _ _ _

pub bounds-bytes-at : goal.bounds-bytes-at
bounds-bytes-at c =
    let is = looked c.args.bits.now c.args.table.now c.loop-t.t c.is_awake.result (omega arith) c.is_awake.ensures in
    spreading_room _ _ _ _ _ _ (length_slots _ _ c.requires.marked) c.loop-t.invariant (omega arith) (is ∙ c.if-is_awake.true) c.requires.enough

pub overflow_add-at : goal.overflow_add-at
overflow_add-at c =
    let is = looked c.args.bits.now c.args.table.now c.loop-t.t c.is_awake.result (omega arith) c.is_awake.ensures in
    let room = spreading_room _ _ _ _ _ _ (length_slots _ _ c.requires.marked) c.loop-t.invariant (omega arith) (is ∙ c.if-is_awake.true) c.requires.enough in
    omega (arith, room)

pub loop-t-preserved : goal.loop-t-preserved
loop-t-preserved c =
    let is = looked c.args.bits.now c.args.table.now c.loop-t.t c.is_awake.result (omega arith) c.is_awake.ensures in
    elim c.if-is_awake.branch [
      | then-is_awake w ↦ rw (w.table-is, w.at-is) (spreading_awake _ _ _ _ _ _ (length_slots _ _ c.requires.marked) c.loop-t.invariant (omega arith) (is ∙ w.if-is_awake.true))
      | else-is_awake w ↦ rw (w.table-is, w.at-is) (spreading_asleep _ _ _ _ _ _ (length_slots _ _ c.requires.marked) c.loop-t.invariant (omega arith) (is ∙ w.if-is_awake.false))
    ]

pub returns : goal.returns
returns c = spreading_end _ _ _ _ _ _ (length_slots _ _ c.requires.marked) c.loop-t.invariant (omega arith)
