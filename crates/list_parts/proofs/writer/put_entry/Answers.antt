-- `writer::put_entry` meets its contract: the map byte and the three fields stand one behind the other.
use native.Mathlib.Omega.{arith}
use lib.ListN.{length-set}
use Rattle.sched.proofs.Buffers.Laws.{put_length}
use Rattle.list_parts.proofs.Putting.{entry_length, put_entry}
use Rattle.list_parts.proofs.writer.put_entry.Goals as goal

pub bounds-out-at : goal.bounds-out-at
bounds-out-at c = let a = c.args in let e = entry_length a.h a.r a.d a.p in omega arith

pub put_field-deadline_at-requires : goal.put_field-deadline_at-requires
put_field-deadline_at-requires c =
    let a = c.args in
    let e = entry_length a.h a.r a.d a.p in
    simp length-set (omega arith)

pub put_field-volume_at-requires : goal.put_field-volume_at-requires
put_field-volume_at-requires c =
    let a = c.args in
    let first = c.put_field-deadline_at in
    omega
    (arith, entry_length a.h a.r a.d a.p, first.ensures.next, put_length _ first.new.out _ _ _ first.ensures, length-set a.out.now a.at c.map_byte.result)

pub put_field-requires : goal.put_field-requires
put_field-requires c =
    let a = c.args in
    let first = c.put_field-deadline_at in
    let second = c.put_field-volume_at in
    omega (
      arith,
      entry_length a.h a.r a.d a.p,
      first.ensures.next,
      put_length _ first.new.out _ _ _ first.ensures,
      second.ensures.next,
      put_length _ second.new.out _ _ _ second.ensures,
      length-set a.out.now a.at c.map_byte.result,
    )

pub returns : goal.returns
returns c =
    let a = c.args in
    let first = c.put_field-deadline_at in
    let second = c.put_field-volume_at in
    put_entry a.h a.r a.d a.p a.out.now first.new.out second.new.out c.put_field.new.out c.map_byte.result a.at _ _ _
    c.map_byte.ensures first.ensures second.ensures c.put_field.ensures
