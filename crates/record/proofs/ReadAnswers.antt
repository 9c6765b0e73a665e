-- What the reader lends to the pass that fills the table.
use Rattle.std.specs.Prelude.{Ok}
use Prim.Native.Nat.{ℕ, ◌-◌}
use mathlib.Core.Path.{◌≡◌, ap, ap₂, ◌∙◌}
use mathlib.Core.List.{List}
use native.Mathlib.Omega.{arith}
use lib.ListN.{length, take, drop, length-drop}
use lib.Seq.{take_all, length-take-le}
use Rattle.sched.specs.TwoBytes.{AreBytes, word}
use Rattle.sched.specs.Energy.{awake_slots}
use Rattle.sched.specs.Checks.{length_check}
use Rattle.sched.proofs.Checks.Laws.{length_good}
use Rattle.record_map.specs.MapBits.{bits_of}
use Rattle.record_parts.specs.Layout.{behind_map}
use Rattle.record_parts.specs.Bytes.{slots_in, record_check, TableFits}
use Rattle.record_parts.proofs.Bytes.Laws.{GoodRecord, record_passed, slot_bytes_are_awake}
use Rattle.record.proofs.Opened.{map_is, map_marks}

-- a record that passes, whose slot bytes begin at `behind`
module _ (bytes lent : List ℕ) (p : record_check bytes ≡ Ok tt) (h : ℕ) (e : h ≡ word bytes) where
  module _ (behind : ℕ) (f : behind ≡ behind_map h) where
    good : GoodRecord bytes
    good = record_passed bytes p

    slot_bytes_are : take (length bytes - behind) (drop behind bytes) ≡ drop (behind_map (word bytes)) bytes
    slot_bytes_are =
        take_all (length bytes - behind) (drop behind bytes) (omega (arith, length-drop behind bytes))
        ∙ ap (λ (k : ℕ). drop k bytes) (f ∙ ap behind_map e)

    module _ (l : length_check (length lent) h ≡ Ok tt) where
      front_long : length (take h lent) ≡ h
      front_long = length-take-le h lent (length_good (length lent) h l)

      slots_are : take (length (take h lent)) (bits_of (take (behind - 2) (drop 2 bytes))) ≡ slots_in bytes
      slots_are = ap₂ (λ (n : ℕ) (M : List ℕ). take n (bits_of M)) (front_long ∙ e) (map_is bytes p h e behind f)

      pub fits : AreBytes bytes → TableFits (take (behind - 2) (drop 2 bytes)) (take (length bytes - behind) (drop behind bytes)) (take h lent)
      fits small =
          record {
            marked = omega (arith, front_long, map_marks bytes p h e behind f);
            enough = omega (arith, ap awake_slots slots_are, ap length slot_bytes_are, slot_bytes_are_awake bytes good small);
          }
