-- How long a record is.
use Rattle.std.specs.Prelude.{ℕ, suc, ◌+◌, ◌≡◌, refl, List, [], ◌∷◌, map, length, eqb}
use Rattle.std.proofs.Common.{ap, ◌∙◌, arith, eq-eqb, ne_eqb, eqb-true, length-append}
use Rattle.std.proofs.lemmas.Bool.{eqb-false}
use Rattle.std.specs.Int.Count.{ones}
use Rattle.sched.specs.Bounded.{total, keep}
use Rattle.sched.proofs.Bounded.Laws.{by_bool}
use Rattle.sched.specs.Slots.{awake_of}
use Rattle.sched.specs.Energy.{awake_slots}
use Rattle.record_map.specs.MapBytes.{map_length, map_bytes_of}
use Rattle.record_map.proofs.MapBytes.Laws.{length_map_of, ones_of_slots}
use Rattle.record_parts.specs.Layout.{behind_map, slot_bytes, record_of}

-- a slot byte more, or none
pub slot_awake : (x : ℕ) (slots : List ℕ) → (x ≡ 255 → ⊥) → slot_bytes (x ∷ slots) ≡ x ∷ slot_bytes slots
unfolding keep
slot_awake x slots n = rw (ne_eqb x 255 n, keep)

pub slot_asleep : (x : ℕ) (slots : List ℕ) → x ≡ 255 → slot_bytes (x ∷ slots) ≡ slot_bytes slots
unfolding keep
slot_asleep x slots e = rw (eq-eqb x 255 e, keep)

pub length_slot_bytes : (slots : List ℕ) → length (slot_bytes slots) ≡ awake_slots (awake_of slots)
unfolding keep awake_slots
length_slot_bytes [] = refl
length_slot_bytes (x ∷ slots) =
    by_bool (eqb x 255)
    (λ y. ap length (slot_asleep x slots (eqb-true x 255 y)) ∙ simp y (length_slot_bytes slots))
    (λ y. ap length (slot_awake x slots (eqb-false x 255 y)) ∙ simp y (ap suc (length_slot_bytes slots)))

pub length_record : (h : ℕ) (slots : List ℕ) → length (record_of h slots) ≡ 2 + map_length (length slots) + awake_slots (awake_of slots)
unfolding record_of
length_record h slots =
    omega (
      arith,
      length-append (map_bytes_of (awake_of slots)) (slot_bytes slots),
      length_map_of slots,
      length_slot_bytes slots,
    )

-- the length of the record, from where its slot bytes begin and the ones of its map
pub record_size : (h : ℕ) (slots : List ℕ) (behind : ℕ) → behind ≡ behind_map (length slots) → (awake : ℕ) →
    awake ≡ total (map ones (map_bytes_of (awake_of slots))) → behind + awake ≡ length (record_of h slots)
record_size h slots behind b awake e = omega (arith, length_record h slots, ones_of_slots slots)
