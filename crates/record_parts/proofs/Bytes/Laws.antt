-- The order of two checks; a record that passes all; its lengths; and tables from awake slots and their bytes, slot by slot.
use Rattle.std.specs.Prelude.{ℕ, zero, suc, ◌+◌, ◌≤◌, ◌<◌, ◌≡◌, refl, Bool, true, length, get_or, take, drop, ltb, Err, Ok}
use Rattle.std.proofs.Math.Path.{ap}
use Rattle.std.proofs.Common.{◌∙◌, le-ltb, ne_eqb, ltb-false, length-drop, take-append-drop, length-take-le, take-suc, drop-drop, get_or-drop}
use Rattle.std.proofs.Math.Bool.{false}
use mathlib.Core.List.{List, [], ◌∷◌}
use native.Mathlib.Omega.{arith}
use Rattle.sched.specs.Bits.{bit}
use Rattle.sched.proofs.Bounded.Laws.{true_not_false}
use Rattle.sched.specs.TwoBytes.{AreBytes, word}
use Rattle.sched.proofs.TwoBytes.Laws.{are_bytes_take, are_bytes_drop}
use Rattle.sched.specs.Slots.{awake}
use Rattle.sched.specs.Energy.{awake_slots}
use Rattle.sched.proofs.Energy.Laws.{awake_append}
use Rattle.sched.specs.Checks.{refuse_if, and_then, horizon_check, bytes_by}
use Rattle.sched.proofs.Checks.Laws.{refuse_passed, then_passed, horizon_good}
use Rattle.sched.specs.declared.Refusal.{Refusal}
use Rattle.sched.specs.declared.Refusal.TheVariants.{Truncated, LeftOver, PaddingBit}
use Rattle.record_map.specs.MapBytes.{map_length}
use Rattle.record_map.specs.MapBits.{bits_of, some_bit}
use Rattle.record_map.proofs.MapBits.Laws.{length_bits, ones_bits, none_awake, awake_first}
use Rattle.record_parts.specs.Layout.{behind_map}
use Rattle.record_parts.specs.Bytes.{map_in, slots_in, padding_in, slot_byte_count, slot_byte_check, slot_bytes_check, body_check, record_check, spread}
use Rattle.sched.specs.Refusals.{Checked}

-- "32, 16": a bad slot byte is told before bytes that are left over
pub bad_first : (from count : ℕ) (bytes : List ℕ) (r : Refusal) → from + count ≤ length bytes → bytes_by slot_byte_check count from bytes ≡ Err r →
    slot_bytes_check from count bytes ≡ Err r
bad_first from count bytes r l e = simp (le-ltb (length bytes) (from + count) l, e)

-- a record that passes the checks
pub record GoodRecord (bytes : List ℕ) : Type 0 where
  pub low : 1 ≤ word bytes
  pub high : word bytes ≤ 4096
  pub clear : some_bit (padding_in (word bytes) bytes) ≡ false
  pub whole : length bytes ≡ behind_map (word bytes) + slot_byte_count (word bytes) bytes
  pub known : bytes_by slot_byte_check (slot_byte_count (word bytes) bytes) (behind_map (word bytes)) bytes ≡ Ok tt

pub record_passed : (bytes : List ℕ) → record_check bytes ≡ Ok tt → GoodRecord bytes
record_passed bytes e =
    let h = word bytes in
    let n = length bytes in
    let end = behind_map h + slot_byte_count h bytes in
    let x₆ : Checked = refuse_if (ltb end n) (LeftOver end) (Ok tt) in
    let x₅ : Checked = and_then (bytes_by slot_byte_check (slot_byte_count h bytes) (behind_map h) bytes) x₆ in
    let x₄ : Checked = slot_bytes_check (behind_map h) (slot_byte_count h bytes) bytes in
    let x₃ : Checked = refuse_if (some_bit (padding_in h bytes)) (PaddingBit (1 + map_length h)) x₄ in
    let x₂ : Checked = body_check h bytes in
    let a = refuse_passed (ltb n 2) (Truncated n) (and_then (horizon_check h) x₂) e in
    let b = then_passed (horizon_check h) x₂ a.1 in
    let c = refuse_passed (ltb n (behind_map h)) (Truncated n) x₃ b.1 in
    let d = refuse_passed (some_bit (padding_in h bytes)) (PaddingBit (1 + map_length h)) x₄ c.1 in
    let f = refuse_passed (ltb n end) (Truncated n) x₅ d.1 in
    let g = then_passed (bytes_by slot_byte_check (slot_byte_count h bytes) (behind_map h) bytes) x₆ f.1 in
    let k = refuse_passed (ltb end n) (LeftOver end) (Ok tt) g.1 in
    let at_least : end ≤ n = ltb-false n end f.0 in
    let at_most : n ≤ end = ltb-false end n k.0 in
    record {
      low = (horizon_good h b.0).0;
      high = (horizon_good h b.0).1;
      clear = d.0;
      whole = omega arith;
      known = g.0;
    }

pub record_passes : (bytes : List ℕ) → GoodRecord bytes → record_check bytes ≡ Ok tt
record_passes bytes g =
    let h = word bytes in
    let n = length bytes in
    simp (
      le-ltb n 2 (omega (arith, g.whole)),
      ne_eqb h 0 (omega (arith, g.low)),
      le-ltb 4096 h g.high,
      le-ltb n (behind_map h) (omega (arith, g.whole)),
      g.clear,
      le-ltb n (behind_map h + slot_byte_count h bytes) (omega (arith, g.whole)),
      g.known,
      le-ltb (behind_map h + slot_byte_count h bytes) n (omega (arith, g.whole)),
    )

-- lengths

pub length_map_in : (h : ℕ) (bytes : List ℕ) → behind_map h ≤ length bytes → length (map_in h bytes) ≡ map_length h
length_map_in h bytes l = length-take-le (map_length h) (drop 2 bytes) (omega (arith, length-drop 2 bytes))

pub map_in_bytes : (h : ℕ) (bytes : List ℕ) → AreBytes bytes → AreBytes (map_in h bytes)
map_in_bytes h bytes small = are_bytes_take (map_length h) (drop 2 bytes) (are_bytes_drop 2 bytes small)

module _ (bytes : List ℕ) (g : GoodRecord bytes) where
  pub length_map_read : length (map_in (word bytes) bytes) ≡ map_length (word bytes)
  length_map_read = length_map_in (word bytes) bytes (omega (arith, g.whole))

  pub length_slots_in : length (slots_in bytes) ≡ word bytes
  length_slots_in =
      length-take-le (word bytes) (bits_of (map_in (word bytes) bytes))
      (omega (arith, length_bits (map_in (word bytes) bytes), length_map_read))

  -- "as many bytes as the map has ones": these are the awake slots
  pub count_is_awake : AreBytes bytes → awake_slots (slots_in bytes) ≡ slot_byte_count (word bytes) bytes
  count_is_awake small =
      let M = map_in (word bytes) bytes in
      omega (
        arith,
        ap awake_slots (take-append-drop (word bytes) (bits_of M)),
        awake_append (slots_in bytes) (padding_in (word bytes) bytes),
        none_awake (padding_in (word bytes) bytes) g.clear,
        ones_bits M (map_in_bytes (word bytes) bytes small),
      )

  pub slot_bytes_are_awake : AreBytes bytes → length (drop (behind_map (word bytes)) bytes) ≡ awake_slots (slots_in bytes)
  slot_bytes_are_awake small = omega (arith, length-drop (behind_map (word bytes)) bytes, g.whole, count_is_awake small)

-- awake slots before a slot

module _ (S : List Bool) where
  pub awake_up_to : (t : ℕ) → t < length S → awake_slots (take (suc t) S) ≡ awake_slots (take t S) + bit (awake S t)
  unfolding awake_slots
  awake_up_to t l =
      omega (
        arith,
        ap awake_slots (take-suc S t false l),
        awake_append (take t S) (awake S t ∷ []),
        awake_first (awake S t) [],
      )

  pub awake_part : (t : ℕ) → awake_slots (take t S) ≤ awake_slots S
  awake_part t = omega (arith, ap awake_slots (take-append-drop t S), awake_append (take t S) (drop t S))

-- a table from awake slots and their bytes

pub length_spread : (S : List Bool) (bytes : List ℕ) → length (spread S bytes) ≡ length S
unfolding spread
length_spread [] bytes = refl
length_spread (false ∷ S) bytes = ap suc (length_spread S bytes)
length_spread (true ∷ S) bytes = ap suc (length_spread S (drop 1 bytes))

pub spread_asleep : (S : List Bool) (bytes : List ℕ) (t : ℕ) → t < length S → awake S t ≡ false → get_or (spread S bytes) t 0 ≡ 255
unfolding spread
spread_asleep [] bytes t l e = absurd (omega arith)
spread_asleep (false ∷ S) bytes zero l e = refl
spread_asleep (false ∷ S) bytes (suc t) l e = spread_asleep S bytes t (omega arith) e
spread_asleep (true ∷ S) bytes zero l e = true_not_false true refl e
spread_asleep (true ∷ S) bytes (suc t) l e = spread_asleep S (drop 1 bytes) t (omega arith) e

-- behind a slot, the other slots with the other bytes
pub spread_drop : (S : List Bool) (bytes : List ℕ) (t : ℕ) → drop t (spread S bytes) ≡ spread (drop t S) (drop (awake_slots (take t S)) bytes)
unfolding spread awake_slots
spread_drop S bytes zero = refl
spread_drop [] bytes (suc t) = refl
spread_drop (false ∷ S) bytes (suc t) = spread_drop S bytes t
spread_drop (true ∷ S) bytes (suc t) =
    let e : 1 + awake_slots (take t S) ≡ suc (awake_slots (take t S)) = omega arith in
    spread_drop S (drop 1 bytes) t
    ∙ ap (spread (drop t S)) (drop-drop (awake_slots (take t S)) 1 bytes ∙ ap (λ (n : ℕ). drop n bytes) e)

pub spread_awake : (S : List Bool) (bytes : List ℕ) (t : ℕ) → t < length S → awake S t ≡ true → get_or (spread S bytes) t 0 ≡ get_or bytes (awake_slots (take t S)) 0
unfolding spread awake_slots
spread_awake [] bytes t l e = absurd (omega arith)
spread_awake (false ∷ S) bytes zero l e = true_not_false false e refl
spread_awake (false ∷ S) bytes (suc t) l e = spread_awake S bytes t (omega arith) e
spread_awake (true ∷ S) bytes zero l e = refl
spread_awake (true ∷ S) bytes (suc t) l e =
    let q : 1 + awake_slots (take t S) ≡ suc (awake_slots (take t S)) = omega arith in
    spread_awake S (drop 1 bytes) t (omega arith) e ∙ get_or-drop 1 bytes (awake_slots (take t S)) 0 ∙ ap (λ (n : ℕ). get_or bytes n 0) q

-- awake throughout: the bytes themselves
pub spread_run : (k : ℕ) (S : List Bool) (bytes : List ℕ) → ((i : ℕ) → i < k → awake S i ≡ true) → k ≤ length bytes → take k (spread S bytes) ≡ take k bytes
unfolding spread
spread_run zero S bytes g l = refl
spread_run (suc k) [] bytes g l = true_not_false false (g 0 (omega arith)) refl
spread_run (suc k) (false ∷ S) bytes g l = true_not_false false (g 0 (omega arith)) refl
spread_run (suc k) (true ∷ S) [] g l = absurd (omega arith)
spread_run (suc k) (true ∷ S) (b ∷ bytes) g l = ap (λ (x : List ℕ). b ∷ x) (spread_run k S bytes (λ i m. g (suc i) (omega arith)) (omega arith))
