-- `record::write_slots` meets its contract: the ones of the map give the length, which is tested before anything is written.
use Rattle.std.specs.Prelude.{Err}
use Prim.Native.Nat.{◌+◌}
use mathlib.Core.Path.{◌≡◌, sym, ◌∙◌}
use mathlib.Core.Bool.{not}
use native.Mathlib.Omega.{arith}
use lib.ListN.{length, length-map}
use lib.Dec.{eqb}
use Rattle.std.proofs.Common.{rules}
use Rattle.sched.proofs.Checks.Laws.{length_good}
use Rattle.sched.specs.Slots.{awake_of}
use Rattle.record_map.specs.MapBytes.{map_length}
use Rattle.record_map.proofs.MapBytes.Laws.{ones_of_slots, map_ones_few}
use Rattle.record_parts.proofs.LayoutLaws.{record_size}
use Rattle.record.proofs.Answers.{no_room, room}
use Rattle.record.proofs.write_slots.Goals as goal

pub overflow_add-bytes : goal.overflow_add-bytes
overflow_add-bytes c =
    let slots = c.args.slots.now in
    omega (
      arith,
      c.count_awake-awake.ensures,
      c.behind_map-behind.ensures,
      map_ones_few (map_length (length (awake_of slots))) 0 (awake_of slots),
      length-map slots (λ byte. not (eqb byte 255)),
    )

pub returns-in_err-check_length : goal.returns-in_err-check_length
returns-in_err-check_length c =
    let args = c.args in
    let told : c.from_residual.result ≡ Err c.in_err-check_length.field-0.0 = search rules in
    rw told
    (no_room _ _ _ _ (record_size args.h args.slots.now _ c.behind_map-behind.ensures _ c.count_awake-awake.ensures) _
    (sym c.check_length.ensures.same ∙ c.in_err-check_length.was))

pub fill_record-requires : goal.fill_record-requires
fill_record-requires c =
    let args = c.args in
    let bytes = c.behind_map-behind.result + c.count_awake-awake.result in
    record {
      few = c.requires;
      start = c.behind_map-behind.ensures;
      room =
          omega (
            arith,
            record_size args.h args.slots.now _ c.behind_map-behind.ensures _ c.count_awake-awake.ensures,
            length_good (length args.out.now) bytes (sym c.check_length.ensures.same ∙ c.in_ok-check_length.was),
          );
    }

pub returns : goal.returns
returns c =
    let args = c.args in
    room _ _ _ _ (record_size args.h args.slots.now _ c.behind_map-behind.ensures _ c.count_awake-awake.ensures) _ _
    (sym c.check_length.ensures.same ∙ c.in_ok-check_length.was)
    (c.count_awake-awake.ensures ∙ ones_of_slots args.slots.now) c.fill_record.ensures
