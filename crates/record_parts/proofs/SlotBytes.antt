-- The slot bytes, stored one a turn.
use Prim.Native.Nat.{ℕ, ◌+◌, ◌≤◌, ◌<◌}
use mathlib.Core.Path.{◌≡◌, ap, ◌∙◌}
use mathlib.Core.List.{List, ◌∷◌}
use native.Mathlib.Numerals.{add-one}
use native.Mathlib.Omega.{arith}
use lib.ListN.{length, get_or, set, drop, drop_of_length-le}
use lib.Seq.{drop-cons}
use Rattle.sched.specs.Bounded.{keep}
use Rattle.record_map.specs.Stored.{stored}
use Rattle.record_map.proofs.Stored.Laws.{Filling, filling_turn, filling_end}
use Rattle.record_parts.specs.Layout.{slot_bytes}
use Rattle.record_parts.proofs.LayoutLaws.{slot_awake, slot_asleep}

-- the slot bytes of the slots from t on

module _ (slots out₀ out : List ℕ) (at t : ℕ) (s : Filling out₀ (slot_bytes slots) out at (slot_bytes (drop t slots))) where
  next_slot : t < length slots → drop t slots ≡ get_or slots t 0 ∷ drop (t + 1) slots
  next_slot l = rw (add-one, drop-cons slots t 0)

  pub slots_asleep : t < length slots → get_or slots t 0 ≡ 255 → Filling out₀ (slot_bytes slots) out at (slot_bytes (drop (t + 1) slots))
  slots_asleep l e = rw (ap slot_bytes (next_slot l) ∙ slot_asleep (get_or slots t 0) (drop (t + 1) slots) e) at s

  module _ (l : t < length slots) (n : get_or slots t 0 ≡ 255 → ⊥) where
    one_slot : Filling out₀ (slot_bytes slots) out at (get_or slots t 0 ∷ slot_bytes (drop (t + 1) slots))
    one_slot = rw (ap slot_bytes (next_slot l) ∙ slot_awake (get_or slots t 0) (drop (t + 1) slots) n) at s

    pub slots_room : at < length out₀
    slots_room = omega (arith, one_slot.room)

    pub slots_awake : Filling out₀ (slot_bytes slots) (set out at (get_or slots t 0)) (at + 1) (slot_bytes (drop (t + 1) slots))
    slots_awake = filling_turn out₀ (slot_bytes slots) out at (get_or slots t 0) (slot_bytes (drop (t + 1) slots)) one_slot

  pub slots_end : length (slot_bytes slots) ≤ length out₀ → length slots ≤ t → out ≡ stored (slot_bytes slots) out₀
  unfolding keep
  slots_end m l = filling_end out₀ (slot_bytes slots) out at m (rw (drop_of_length-le slots l) at s)
