-- 02, card 2: "32, at its offset, one of the slot bytes is neither 0 to 63 nor 254; where several slots or bytes have one fault the first is named".
use Rattle.std.specs.Prelude.{ℕ, ◌+◌, ◌≤◌, ◌<◌, ◌≡◌, refl, Bool, true, false, not, ◌&&◌, List, [], ◌∷◌, ◌⊎◌, length, get_or, leb, ltb, eqb, Err, Ok, Result}
use Rattle.std.proofs.Common.{sym, ap, ◌∙◌, arith, leb-true, ltb-false}
use Rattle.std.proofs.lemmas.Bool.{eqb-false}
use Rattle.sched.specs.TwoBytes.{word}
use Rattle.sched.specs.Runs.{run_list}
use Rattle.sched.specs.Refusals.{number, place, Checked}
use Rattle.sched.specs.Checks.{refuse_if, and_then, horizon_check, length_check, bytes_by, checked_number, checked_values}
use Rattle.sched.proofs.Checks.Laws.{refused_not_passed, then_passes, then_fails, past_refusal, past_check, horizon_at_most, refusal_at_most}
use Rattle.sched.proofs.Checks.Bytes.{first_byte}
use Rattle.sched.specs.declared.Refusal.{Refusal}
use Rattle.sched.specs.declared.Refusal.TheVariants.{Truncated, LeftOver, TooShort, PaddingBit, BadSlotByte, NoSuchRun}
use Rattle.record_map.specs.MapBytes.{map_length}
use Rattle.record_map.specs.MapBits.{some_bit}
use Rattle.record_parts.specs.Layout.{behind_map}
use Rattle.record_parts.specs.Bytes.{slots_in, padding_in, slot_byte_count, slot_byte_check, slot_bytes_check, body_check, record_check}
use Rattle.record.specs.Reading.{read_check, read_answer, read_number, read_values, Reads}
use Rattle.record.specs.OneRun.{exists_check, run_check, run_answer, found_number, found_values, Finds}
use Rattle.record.proofs.Reading.Back.{known_awake}
use Rattle.record.specs.declared.RunPlace.{RunPlace}

-- at an offset stands the first slot byte that is neither 0 to 63 nor 254
pub record FirstBad (bytes : List ℕ) (at : ℕ) : Type 0 where
  pub behind : behind_map (word bytes) ≤ at
  pub within : at < behind_map (word bytes) + slot_byte_count (word bytes) bytes
  pub high : 64 ≤ get_or bytes at 0
  pub other : get_or bytes at 0 ≡ 254 → ⊥
  pub before : (i : ℕ) → behind_map (word bytes) ≤ i → i < at → (get_or bytes i 0 < 64) ⊎ (get_or bytes i 0 ≡ 254)

-- an answer has the number of the checks
number_is : (bytes : List ℕ) (c : Checked) → read_number (read_answer bytes c) ≡ checked_number c
number_is bytes (Ok tt) = refl
number_is bytes (Err r) = refl

-- a slot byte that is refused
bad_byte : (at byte : ℕ) (r : Refusal) → slot_byte_check at byte ≡ Err r → (64 ≤ byte) × (byte ≡ 254 → ⊥) × (place r ≡ at)
bad_byte at byte r e = by (leb 64 byte) (eqb byte 254) refl refl e
  where
    by : (a b : Bool) → leb 64 byte ≡ a → eqb byte 254 ≡ b → refuse_if (a && not b) (BadSlotByte at) (Ok tt) ≡ Err r → (64 ≤ byte) × (byte ≡ 254 → ⊥) × (place r ≡ at)
    by true false f g q = (leb-true 64 byte f, eqb-false byte 254 g, sym (ap (λ (c : Checked). get_or (checked_values c) 0 0) q))
    by true true f g q = refused_not_passed r (sym q)
    by false true f g q = refused_not_passed r (sym q)
    by false false f g q = refused_not_passed r (sym q)

abbrev Is32 : ℕ → Type 0
Is32 n = n ≡ 32

module _ (bytes : List ℕ) (r : Refusal) (told : number r ≡ 32) where
  abbrev h : ℕ
  h = word bytes

  abbrev n : ℕ
  n = length bytes

  abbrev end : ℕ
  end = behind_map h + slot_byte_count h bytes

  abbrev left : Checked
  left = refuse_if (ltb end n) (LeftOver end) (Ok tt)

  abbrev known : Checked
  known = bytes_by slot_byte_check (slot_byte_count h bytes) (behind_map h) bytes

  -- none of the other checks tells 32
  slots_told : slot_bytes_check (behind_map h) (slot_byte_count h bytes) bytes ≡ Err r → FirstBad bytes (place r)
  slots_told e =
      let a = past_refusal Is32 (ltb n end) (Truncated n) (and_then known left) (λ z. omega arith) (ap checked_number e ∙ told) in
      by known refl (ltb-false n end a.0) (sym a.1 ∙ e)
    where
      by : (c : Checked) → known ≡ c → end ≤ n → and_then c left ≡ Err r → FirstBad bytes (place r)
      by (Ok tt) f l q =
          absurd (omega (arith, refusal_at_most 16 (ltb end n) (LeftOver end) (Ok tt) (omega arith) (omega arith), ap checked_number q, told))
      by (Err s) f l q =
          let w = first_byte slot_byte_check (slot_byte_count h bytes) (behind_map h) bytes r (f ∙ q) in
          let bad = bad_byte w.at (get_or bytes w.at 0) r w.told in
          rw bad.2
          (record {
            behind = w.from;
            within = w.below;
            high = bad.0;
            other = bad.1;
            before = λ i x y. known_awake i (get_or bytes i 0) (w.before i x y);
          })

  record_told : record_check bytes ≡ Err r → FirstBad bytes (place r)
  record_told e =
      let padded : Checked =
      refuse_if (some_bit (padding_in h bytes)) (PaddingBit (1 + map_length h)) (slot_bytes_check (behind_map h) (slot_byte_count h bytes) bytes) in
      let a = past_refusal Is32 (ltb n 2) (Truncated n) (and_then (horizon_check h) (body_check h bytes)) (λ z. omega arith) (ap checked_number e ∙ told) in
      let e₁ : and_then (horizon_check h) (body_check h bytes) ≡ Err r = sym a.1 ∙ e in
      let b = past_check Is32 (horizon_check h) (body_check h bytes) (λ z. omega (arith, horizon_at_most h)) (ap checked_number e₁ ∙ told) in
      let e₂ : body_check h bytes ≡ Err r = sym b.1 ∙ e₁ in
      let c = past_refusal Is32 (ltb n (behind_map h)) (Truncated n) padded (λ z. omega arith) (ap checked_number e₂ ∙ told) in
      let e₃ : padded ≡ Err r = sym c.1 ∙ e₂ in
      let d =
      past_refusal Is32 (some_bit (padding_in h bytes)) (PaddingBit (1 + map_length h)) (slot_bytes_check (behind_map h) (slot_byte_count h bytes) bytes)
      (λ z. omega arith) (ap checked_number e₃ ∙ told) in
      slots_told (sym d.1 ∙ e₃)

-- 32 names the first bad byte, in the answer of `read` and in that of `find_run`.
pub first_bad_named : (bytes lent filled : List ℕ) (at : ℕ) (answer : Result ℕ Refusal) → Reads bytes lent answer filled → read_number answer ≡ 32 → read_values answer ≡ at ∷ [] →
    FirstBad bytes at
first_bad_named bytes lent filled at answer w told place_is = by (record_check bytes) refl
  where
    number_told : checked_number (read_check bytes (length lent)) ≡ 32
    number_told = sym (w.number ∙ number_is bytes (read_check bytes (length lent))) ∙ told

    by : (c : Checked) → record_check bytes ≡ c → FirstBad bytes at
    by (Ok tt) e =
        absurd (omega (
          arith,
          refusal_at_most 17 (ltb (length lent) (word bytes)) (TooShort (word bytes)) (Ok tt) (omega arith) (omega arith),
          ap (λ (c : Checked). checked_number (and_then c (length_check (length lent) (word bytes)))) e,
          number_told,
        ))
    by (Err r) e =
        let q : read_check bytes (length lent) ≡ Err r = ap (λ (c : Checked). and_then c (length_check (length lent) (word bytes))) e in
        let is : place r ∷ [] ≡ at ∷ [] = sym (w.values ∙ ap (λ (c : Checked). read_values (read_answer bytes c)) q) ∙ place_is in
        let same : place r ≡ at = cc is in
        rw (← same) (record_told bytes r (sym (ap checked_number q) ∙ number_told) e)

pub first_bad_found : (bytes : List ℕ) (k at : ℕ) (answer : Result RunPlace Refusal) → Finds bytes k answer → found_number answer ≡ 32 → found_values answer ≡ at ∷ [] → FirstBad bytes at
first_bad_found bytes k at answer w told place_is = by (record_check bytes) refl
  where
    S : List Bool
    S = slots_in bytes

    number_is_32 : (c : Checked) → run_check bytes k ≡ c → found_number (run_answer S (behind_map (word bytes)) k c) ≡ 32
    number_is_32 c e = sym (w.number ∙ ap (λ (x : Checked). found_number (run_answer S (behind_map (word bytes)) k x)) e) ∙ told

    exists : (b : Bool) → found_number (run_answer S (behind_map (word bytes)) k (refuse_if b (NoSuchRun (length (run_list S))) (Ok tt))) ≡ 32 → FirstBad bytes at
    exists true e = absurd (omega arith)
    exists false e = absurd (omega arith)

    by : (c : Checked) → record_check bytes ≡ c → FirstBad bytes at
    by (Ok tt) e =
        let q : run_check bytes k ≡ exists_check S k = then_passes (record_check bytes) (exists_check S k) e in
        exists (leb (length (run_list S)) k) (number_is_32 (exists_check S k) q)
    by (Err r) e =
        let q : run_check bytes k ≡ Err r = then_fails (record_check bytes) (exists_check S k) r e in
        let is : place r ∷ [] ≡ at ∷ [] = sym (w.values ∙ ap (λ (x : Checked). found_values (run_answer S (behind_map (word bytes)) k x)) q) ∙ place_is in
        let same : place r ≡ at = cc is in
        rw (← same) (record_told bytes r (number_is_32 (Err r) q) e)
