-- The answer and the output of `write_slots` in each case, from what the check of the length said.
use Rattle.std.specs.Prelude.{Err, Ok}
use Prim.Native.Nat.{ℕ}
use mathlib.Core.Path.{◌≡◌, sym, ap, ◌∙◌}
use mathlib.Core.List.{List}
use lib.ListN.{length}
use Rattle.sched.specs.Slots.{awake_of}
use Rattle.sched.specs.Energy.{awake_slots}
use Rattle.sched.specs.Checks.{length_check}
use Rattle.sched.specs.declared.Refusal.{Refusal}
use Rattle.record_map.specs.Stored.{stored}
use Rattle.record_parts.specs.Layout.{record_of}
use Rattle.record.specs.Record.{room_check, write_answer, out_after, WritesSlots}
use Rattle.sched.specs.Refusals.{Checked}

module _ (h : ℕ) (slots out : List ℕ) (n : ℕ) (e : n ≡ length (record_of h slots)) where
  room_is : (c : Checked) → length_check (length out) n ≡ c → room_check (record_of h slots) out ≡ c
  room_is c f = ap (length_check (length out)) (sym e) ∙ f

  pub no_room : (r : Refusal) → length_check (length out) n ≡ Err r → WritesSlots h slots out (Err r) out
  no_room r f =
      let q = room_is (Err r) f in
      record { same = sym (ap (write_answer h slots) q); bytes = sym (ap (out_after (record_of h slots) out) q) }

  pub room : (awake : ℕ) (after : List ℕ) → length_check (length out) n ≡ Ok tt → awake ≡ awake_slots (awake_of slots) →
      after ≡ stored (record_of h slots) out → WritesSlots h slots out (Ok (record { bytes = n; awake = awake })) after
  room awake after f a o =
      let q = room_is (Ok tt) f in
      record { same = rw (e, a) (sym (ap (write_answer h slots) q)); bytes = o ∙ sym (ap (out_after (record_of h slots) out) q) }
