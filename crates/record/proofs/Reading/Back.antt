-- Tables written and read, and records read and written again, over the definitions. The theorems about the functions are in `Theorems`.
use Rattle.std.specs.Prelude.{ℕ, zero, suc, ◌+◌, ◌-◌, ◌≤◌, ◌<◌, ◌≡◌, Bool, true, false, not, ◌⊎◌, length, get_or, leb, eqb, Ok}
use Rattle.std.proofs.Math.Path.{refl, ap, ap₂}
use Rattle.std.proofs.Common.{sym, ◌∙◌, inl, inr, arith, le-leb, le-ltb, eq-eqb, ne_eqb, eqb-true, leb-false, length-append, length-drop, drop_at, get_or-drop, drop-drop}
use mathlib.Core.List.{List, [], ◌∷◌, ◌++◌, map}
use Rattle.std.proofs.Math.Decide.{ℕ_discrete}
use Rattle.std.proofs.lemmas.Bool.{lt-leb}
use Rattle.std.proofs.Math.ListN.{take, drop, take-append-drop, get_or-append}
use Rattle.std.proofs.Math.Seq.{take_at}
use Rattle.std.specs.Int.Count.{ones}
use Rattle.sched.specs.Bits.{bit}
use Rattle.sched.specs.Bounded.{total, keep}
use Rattle.sched.proofs.Bounded.Laws.{by_bool}
use Rattle.sched.specs.TwoBytes.{AreBytes, two_bytes, word}
use Rattle.sched.proofs.TwoBytes.Laws.{are_bytes_drop, word_back, word_again}
use Rattle.sched.specs.Slots.{awake, awake_of}
use Rattle.sched.proofs.Slots.Laws.{awake_of_length}
use Rattle.sched.specs.Energy.{awake_slots}
use Rattle.sched.specs.Checks.{horizon_check, length_check, table_check, byte_check, bytes_by, bytes_from, slots_check}
use Rattle.sched.proofs.Checks.Laws.{then_passed, then_passes, refused_not_passed, horizon_good, length_passes}
use Rattle.sched.proofs.Checks.Bytes.{bytes_good, bytes_pass}
use Rattle.sched.specs.declared.Refusal.TheVariants.{BadByte, BadSlotByte}
use Rattle.record_map.specs.MapBytes.{map_length, map_bytes_of}
use Rattle.record_map.proofs.MapBytes.Laws.{length_map_of, ones_of_slots}
use Rattle.record_map.specs.MapBits.{bits_of, some_bit}
use Rattle.record_map.proofs.MapBits.Laws.{set_back, padding_back, map_again}
use Rattle.record_parts.specs.Layout.{behind_map, slot_bytes, front_of, record_of}
use Rattle.record_parts.proofs.LayoutLaws.{length_record, length_slot_bytes, slot_awake, slot_asleep}
use Rattle.record_parts.specs.Bytes.{map_in, slots_in, slot_byte_count, slot_byte_check, record_check, spread}
use Rattle.record.specs.Reading.{table_in}
use Rattle.record_parts.proofs.Bytes.Laws.{GoodRecord, record_passes, map_in_bytes, length_map_read, length_slots_in, slot_bytes_are_awake, awake_up_to, awake_part, length_spread, spread_awake, spread_asleep}

-- the byte of an awake slot: a job number or 254

abbrev pub AwakeByte : ℕ → Type 0
AwakeByte byte = (byte < 64) ⊎ (byte ≡ 254)

awake_known : (at byte : ℕ) → AwakeByte byte → slot_byte_check at byte ≡ Ok tt
awake_known at byte (inl l) = simp (lt-leb 64 byte l)
awake_known at byte (inr e) = simp (le-leb 64 byte (omega arith), eq-eqb byte 254 e)

pub known_awake : (at byte : ℕ) → slot_byte_check at byte ≡ Ok tt → AwakeByte byte
known_awake at byte e = by_bool (leb 64 byte) (λ l. by_bool (eqb byte 254) (λ y. inr (eqb-true byte 254 y)) (bad l)) (λ l. inl (leb-false 64 byte l))
  where
    bad : leb 64 byte ≡ true → eqb byte 254 ≡ false → (byte < 64) ⊎ (byte ≡ 254)
    bad l n = refused_not_passed (BadSlotByte at) (sym (simp (l, n)) ∙ e)

awake_not_asleep : (byte : ℕ) → AwakeByte byte → byte ≡ 255 → ⊥
awake_not_asleep byte (inl l) e = omega arith
awake_not_asleep byte (inr f) e = omega arith

-- what the writer takes: a byte of a slot that is not asleep
taken_awake : (t byte : ℕ) → byte < 256 → byte_check t byte ≡ Ok tt → (byte ≡ 255 → ⊥) → AwakeByte byte
taken_awake t byte small e n = by_bool (leb 64 byte) (λ l. by_bool (leb byte 253) (bad l) (λ h. inr (last (leb-false byte 253 h)))) (λ l. inl (leb-false 64 byte l))
  where
    bad : leb 64 byte ≡ true → leb byte 253 ≡ true → (byte < 64) ⊎ (byte ≡ 254)
    bad l h = refused_not_passed (BadByte t) (sym (simp (l, h)) ∙ e)

    last : 253 < byte → byte ≡ 254
    last l = omega arith

awake_taken : (t byte : ℕ) → AwakeByte byte → byte_check t byte ≡ Ok tt
awake_taken t byte (inl l) = simp (lt-leb 64 byte l)
awake_taken t byte (inr e) = simp (le-leb 64 byte (omega arith), lt-leb byte 253 (omega arith))

-- A table that is written and read.

spread_back : (slots : List ℕ) → spread (awake_of slots) (slot_bytes slots) ≡ slots
unfolding spread
spread_back [] = refl
spread_back (x ∷ slots) = go (ℕ_discrete x 255) (spread_back slots)
  where
    go : Dec (x ≡ 255) → spread (awake_of slots) (slot_bytes slots) ≡ slots → spread (awake_of (x ∷ slots)) (slot_bytes (x ∷ slots)) ≡ x ∷ slots
    go (yes e) ih =
        ap₂ spread (ap (λ (b : Bool). not b ∷ awake_of slots) (eq-eqb x 255 e)) (slot_asleep x slots e)
        ∙ ap₂ (λ (y : ℕ) (rest : List ℕ). y ∷ rest) (sym e) ih
    go (no n) ih =
        ap₂ spread (ap (λ (b : Bool). not b ∷ awake_of slots) (ne_eqb x 255 n)) (slot_awake x slots n)
        ∙ ap (λ (rest : List ℕ). x ∷ rest) ih

-- a slot byte of the record is a byte of the table
kept_awake : (slots : List ℕ) → ((i : ℕ) → i < length slots → (get_or slots i 0 ≡ 255 → ⊥) → AwakeByte (get_or slots i 0)) →
    (j : ℕ) → j < length (slot_bytes slots) → AwakeByte (get_or (slot_bytes slots) j 0)
unfolding keep
kept_awake [] g j l = absurd (omega arith)
kept_awake (x ∷ slots) g j l = go (ℕ_discrete x 255) (kept_awake slots (λ i m. g (suc i) (omega arith)))
  where
    first : (k : ℕ) → k < length (x ∷ slot_bytes slots) → (x ≡ 255 → ⊥) → ((i : ℕ) → i < length (slot_bytes slots) → AwakeByte (get_or (slot_bytes slots) i 0)) →
        AwakeByte (get_or (x ∷ slot_bytes slots) k 0)
    first zero m n ih = g 0 (omega arith) n
    first (suc k) m n ih = ih k (omega arith)

    go : Dec (x ≡ 255) → ((i : ℕ) → i < length (slot_bytes slots) → AwakeByte (get_or (slot_bytes slots) i 0)) → AwakeByte (get_or (slot_bytes (x ∷ slots)) j 0)
    go (yes e) ih = rw (slot_asleep x slots e) (ih j (omega (arith, ap length (slot_asleep x slots e))))
    go (no n) ih = rw (slot_awake x slots n) (first j (omega (arith, ap length (slot_awake x slots n))) n ih)

module _ (h : ℕ) (slots : List ℕ) (long : length slots ≡ h) where
  abbrev R : List ℕ
  R = record_of h slots

  bytes_are : R ≡ front_of h slots ++ slot_bytes slots
  unfolding record_of
  bytes_are = refl

  pub record_horizon : word (record_of h slots) ≡ h
  unfolding record_of
  record_horizon = word_back h

  length_front : length (front_of h slots) ≡ behind_map h
  length_front = omega (arith, length_map_of slots, ap map_length long)

  map_back : map_in (word R) R ≡ map_bytes_of (awake_of slots)
  unfolding record_of
  map_back =
      ap (λ (n : ℕ). take (map_length n) (map_bytes_of (awake_of slots) ++ slot_bytes slots)) (word_back h)
      ∙ take_at (map_bytes_of (awake_of slots)) (slot_bytes slots) (map_length h) (length_map_of slots ∙ ap map_length long)

  slots_back : slots_in R ≡ awake_of slots
  slots_back =
      let e : word R ≡ length (awake_of slots) = record_horizon ∙ sym long ∙ sym (awake_of_length slots) in
      ap₂ (λ (n : ℕ) (M : List ℕ). take n (bits_of M)) e map_back ∙ set_back (awake_of slots)

  rest_back : drop (behind_map (word R)) R ≡ slot_bytes slots
  rest_back =
      ap₂ drop (ap behind_map record_horizon) bytes_are ∙ drop_at (front_of h slots) (slot_bytes slots) (behind_map h) length_front

  count_back : slot_byte_count (word R) R ≡ awake_slots (awake_of slots)
  count_back = ap (λ (M : List ℕ). total (map ones M)) map_back ∙ ones_of_slots slots

  -- whatever the bytes of a table are, its record has it
  pub record_table : table_in (record_of h slots) ≡ slots
  record_table = ap₂ spread slots_back rest_back ∙ spread_back slots

  module _ (small : AreBytes slots) (taken : slots_check h slots ≡ Ok tt) where
    bytes_taken : bytes_from h 0 slots ≡ Ok tt
    bytes_taken = (then_passed (table_check h (length slots)) (bytes_from h 0 slots) taken).1

    horizon_taken : (1 ≤ h) × (h ≤ 4096)
    horizon_taken =
        let table = (then_passed (table_check h (length slots)) (bytes_from h 0 slots) taken).0 in
        horizon_good h (then_passed (horizon_check h) (length_check (length slots) h) table).0

    slot_byte_awake : (j : ℕ) → j < length (slot_bytes slots) → AwakeByte (get_or (slot_bytes slots) j 0)
    slot_byte_awake =
        kept_awake slots
        (λ i l n. taken_awake i (get_or slots i 0) (small i) (bytes_good byte_check h 0 slots bytes_taken i (omega arith) (omega arith)) n)

    known_back : bytes_by slot_byte_check (slot_byte_count (word R) R) (behind_map (word R)) R ≡ Ok tt
    known_back =
        bytes_pass slot_byte_check (slot_byte_count (word R) R) (behind_map (word R)) R
        (λ i l m.
        let b = behind_map (word R) in
        let e : b + (i - b) ≡ i = omega arith in
        let at : get_or (slot_bytes slots) (i - b) 0 ≡ get_or R i 0 =
        ap (λ (x : List ℕ). get_or x (i - b) 0) (sym rest_back) ∙ get_or-drop b R (i - b) 0 ∙ ap (λ (n : ℕ). get_or R n 0) e in
        awake_known i (get_or R i 0) (rw at at (slot_byte_awake (i - b) (omega (arith, count_back, length_slot_bytes slots)))))

    good_back : GoodRecord R
    good_back =
        record {
          low = omega (arith, record_horizon, horizon_taken.0);
          high = omega (arith, record_horizon, horizon_taken.1);
          clear =
              let e : word R ≡ length (awake_of slots) = record_horizon ∙ sym long ∙ sym (awake_of_length slots) in
              ap₂ (λ (n : ℕ) (M : List ℕ). some_bit (drop n (bits_of M))) e map_back ∙ padding_back (awake_of slots);
          whole = omega (arith, length_record h slots, count_back, ap behind_map record_horizon, ap map_length long);
          known = known_back;
        }

    -- the record of a table that the writer takes passes the reader's checks
    pub record_taken : record_check (record_of h slots) ≡ Ok tt
    record_taken = record_passes R good_back

-- A record that is read and written again.

module _ (bytes : List ℕ) (g : GoodRecord bytes) (small : AreBytes bytes) where
  abbrev T : List ℕ
  T = table_in bytes

  abbrev B : List ℕ
  B = drop (behind_map (word bytes)) bytes

  rest_long : length B ≡ awake_slots (slots_in bytes)
  rest_long = slot_bytes_are_awake bytes g small

  rest_awake : (j : ℕ) → j < length B → AwakeByte (get_or B j 0)
  rest_awake j l =
      let b = behind_map (word bytes) in
      let at = get_or-drop b bytes j 0 in
      rw at
      (known_awake (b + j) (get_or bytes (b + j) 0)
      (bytes_good slot_byte_check (slot_byte_count (word bytes) bytes) b bytes g.known (b + j) (omega arith) (omega (arith, g.whole, length-drop b bytes))))

  pub length_table : length T ≡ word bytes
  length_table = length_spread (slots_in bytes) B ∙ length_slots_in bytes g

spread_awakes : (S : List Bool) (B : List ℕ) → length B ≡ awake_slots S → ((j : ℕ) → j < length B → AwakeByte (get_or B j 0)) → awake_of (spread S B) ≡ S
unfolding spread awake_slots
spread_awakes [] B long g = refl
spread_awakes (false ∷ S) B long g = ap (λ (rest : List Bool). false ∷ rest) (spread_awakes S B long g)
spread_awakes (true ∷ S) [] long g = absurd (omega arith)
spread_awakes (true ∷ S) (x ∷ B) long g =
    ap₂ (λ (b : Bool) (rest : List Bool). not b ∷ rest) (ne_eqb x 255 (awake_not_asleep x (g 0 (omega arith))))
    (spread_awakes S B (omega arith) (λ j l. g (suc j) (omega arith)))

spread_keeps : (S : List Bool) (B : List ℕ) → length B ≡ awake_slots S → ((j : ℕ) → j < length B → AwakeByte (get_or B j 0)) → slot_bytes (spread S B) ≡ B
unfolding spread awake_slots keep
spread_keeps [] [] long g = refl
spread_keeps [] (x ∷ B) long g = absurd (omega arith)
spread_keeps (false ∷ S) B long g = slot_asleep 255 (spread S B) refl ∙ spread_keeps S B long g
spread_keeps (true ∷ S) [] long g = absurd (omega arith)
spread_keeps (true ∷ S) (x ∷ B) long g =
    slot_awake x (spread S B) (awake_not_asleep x (g 0 (omega arith)))
    ∙ ap (λ (rest : List ℕ). x ∷ rest) (spread_keeps S B (omega arith) (λ j l. g (suc j) (omega arith)))

spread_bytes : (S : List Bool) (B : List ℕ) → AreBytes B → AreBytes (spread S B)
unfolding spread
spread_bytes [] B small i = omega arith
spread_bytes (false ∷ S) B small zero = omega arith
spread_bytes (false ∷ S) B small (suc i) = spread_bytes S B small i
spread_bytes (true ∷ S) B small zero = small 0
spread_bytes (true ∷ S) B small (suc i) = spread_bytes S (drop 1 B) (are_bytes_drop 1 B small) i

-- the first two bytes are the horizon's
front_again : (bytes : List ℕ) → 2 ≤ length bytes → AreBytes bytes → two_bytes (word bytes) ++ drop 2 bytes ≡ bytes
front_again [] l small = absurd (omega arith)
front_again (x ∷ []) l small = absurd (omega arith)
front_again (x ∷ y ∷ rest) l small = ap (λ (front : List ℕ). front ++ rest) (word_again x y (small 0))

module _ (bytes : List ℕ) (g : GoodRecord bytes) (small : AreBytes bytes) where
  -- the table of a record has the record's bytes
  pub record_again : record_of (word bytes) (table_in bytes) ≡ bytes
  unfolding record_of
  record_again =
      let h = word bytes in
      let M = map_in h bytes in
      let rest = drop (behind_map h) bytes in
      let awakes = spread_awakes (slots_in bytes) rest (rest_long bytes g small) (rest_awake bytes g small) in
      let keeps = spread_keeps (slots_in bytes) rest (rest_long bytes g small) (rest_awake bytes g small) in
      let maps : map_bytes_of (awake_of (table_in bytes)) ≡ M =
      ap map_bytes_of awakes ∙ map_again h M (length_map_read bytes g) (map_in_bytes h bytes small) g.clear in
      let behind : M ++ rest ≡ drop 2 bytes =
      ap (λ (x : List ℕ). M ++ x) (sym (drop-drop (map_length h) 2 bytes)) ∙ take-append-drop (map_length h) (drop 2 bytes) in
      ap₂ (λ (x y : List ℕ). two_bytes h ++ (x ++ y)) maps keeps
      ∙ ap (λ (x : List ℕ). two_bytes h ++ x) behind
      ∙ front_again bytes (omega (arith, g.whole)) small

  -- every byte of it is one that the writer takes
  table_byte : (t : ℕ) → t < word bytes → byte_check t (get_or (table_in bytes) t 0) ≡ Ok tt
  table_byte t l =
      let S = slots_in bytes in
      let rest = drop (behind_map (word bytes)) bytes in
      let inside : t < length S = omega (arith, length_slots_in bytes g) in
      by_bool (awake S t)
      (λ e.
      let at = awake_slots (take t S) in
      let few : at < length rest = omega (arith, rest_long bytes g small, awake_up_to S t inside, ap bit e, awake_part S (suc t)) in
      rw (spread_awake S rest t inside e) (awake_taken t (get_or rest at 0) (rest_awake bytes g small at few)))
      (λ e. rw (spread_asleep S rest t inside e))

  -- and so the writer takes it, whatever stands behind it
  pub table_taken : (more : List ℕ) → slots_check (word bytes) (table_in bytes ++ more) ≡ Ok tt
  table_taken more =
      let h = word bytes in
      let table = table_in bytes ++ more in
      let long : h ≤ length table = omega (arith, length-append (table_in bytes) more, length_table bytes g small) in
      let low : horizon_check h ≡ (Ok tt) = simp (ne_eqb h 0 (omega (arith, g.low)), le-ltb 4096 h g.high) in
      then_passes (table_check h (length table)) (bytes_from h 0 table)
      (then_passes (horizon_check h) (length_check (length table) h) low ∙ length_passes (length table) h long)
      ∙ bytes_pass byte_check h 0 table
      (λ i l m.
      ap (byte_check i) (get_or-append (table_in bytes) more 0 i (omega (arith, length_table bytes g small))) ∙ table_byte i (omega arith))

  -- its awake slots are those of the map
  pub table_awake : awake_of (table_in bytes) ≡ slots_in bytes
  table_awake = spread_awakes (slots_in bytes) (drop (behind_map (word bytes)) bytes) (rest_long bytes g small) (rest_awake bytes g small)

  -- its entries are bytes
  pub table_bytes : AreBytes (table_in bytes)
  table_bytes = spread_bytes (slots_in bytes) (drop (behind_map (word bytes)) bytes) (are_bytes_drop (behind_map (word bytes)) bytes small)
