-- 02, card 2: "the slot bytes of one awake run, chosen by its number from 0". `Finds` is what `find_run` promises, and `run_bytes` gives `run_part`.
use Prim.Native.Nat.{ℕ, zero, suc, ◌+◌, ◌-◌, ◌≤◌, ◌<◌}
use Rattle.std.specs.Prelude.{◌≡◌, Bool, not, ◌&&◌, ◌↔◌, get_or, leb, ltb, eqb, Err, Ok, Result}
use Rattle.std.proofs.Math.Path.{refl, sym, ap, ap₂}
use Rattle.std.proofs.Common.{◌∙◌, leb-true, length-append, take-add, drop-drop}
use Rattle.std.proofs.Math.Bool.{true, false}
use mathlib.Core.List.{List, [], ◌∷◌, ◌++◌, append_assoc}
use Rattle.std.proofs.Math.Decide.{dec_lt}
use native.Mathlib.Omega.{arith}
use Rattle.std.proofs.lemmas.Bool.{lt-leb}
use Rattle.std.proofs.Math.ListN.{length, take, drop, length-drop, get_or-eq_default}
use Rattle.std.proofs.Math.Seq.{take_at, take_all, get_or-drop, length-take-le}
use Rattle.std.proofs.lemmas.List.{take-append-le, drop-append-le}
use Rattle.sched.specs.Bits.{bit}
use Rattle.sched.proofs.Bounded.Laws.{true_not_false}
use Rattle.sched.specs.TwoBytes.{AreBytes, word}
use Rattle.sched.specs.Energy.{awake_slots, runs}
use Rattle.sched.proofs.Energy.Laws.{awake_append}
use Rattle.sched.specs.Runs.{Run, Longest, ListsRuns, leading, run_list_from, run_list}
use Rattle.sched.proofs.Runs.Laws.{runs_are_longest_stretches}
use Rattle.sched.proofs.Refusals.Laws.{refusal_number}
use Rattle.sched.specs.Checks.{refuse_if, and_then, horizon_check, bytes_by, checked_number}
use Rattle.sched.proofs.Checks.Laws.{then_passes, refused_not_passed, past_check, refusal_at_most, check_at_most, horizon_at_most}
use Rattle.sched.proofs.Checks.Bytes.{bytes_at_most}
use Rattle.sched.specs.declared.Refusal.{Refusal}
use Rattle.sched.specs.declared.Refusal.TheVariants.{Truncated, LeftOver, PaddingBit, BadSlotByte, NoSuchRun}
use Rattle.record.specs.declared.RunPlace.{RunPlace}
use Rattle.record_map.specs.MapBytes.{map_length}
use Rattle.record_map.specs.MapBits.{some_bit}
use Rattle.record_map.proofs.MapBits.Laws.{awake_first}
use Rattle.record_parts.specs.Layout.{behind_map}
use Rattle.record_parts.specs.Bytes.{slots_in, padding_in, slot_byte_count, slot_byte_check, slot_bytes_check, body_check, record_check}
use Rattle.record_parts.proofs.Bytes.Laws.{GoodRecord, record_passed, record_passes, length_slots_in, slot_bytes_are_awake, spread_drop, spread_run}
use Rattle.record.specs.Reading.{table_in, Reads}
use Rattle.record.proofs.Reading.Back.{length_table}
use Rattle.record.specs.OneRun.{run_at, exists_check, run_check, found_at, run_answer, run_in, part_of, run_part, found_number, found_values, Finds}
use Rattle.record.proofs.OneRun.Laws.{run_longest, run_fits, found_run}
use Rattle.record.proofs.Theorems.RoundTrip.{has_read}
use Rattle.sched.specs.Refusals.{Checked}

-- The part of a run among the slot bytes B of a set.

module _ (S₀ : List Bool) (B : List ℕ) where
  piece : Run → List ℕ
  piece r = take r.slots (drop (awake_slots (take r.first S₀)) B)

-- the parts of n runs from run k on, one behind the other
unfoldable pub parts_from : ℕ → ℕ → List ℕ → List ℕ
parts_from zero k bytes = []
parts_from (suc n) k bytes = run_part bytes k ++ parts_from n (suc k) bytes

flat : (Run → List ℕ) → List Run → List ℕ
flat g [] = []
flat g (r ∷ rs) = g r ++ flat g rs

-- the slots of a run that has begun
begun : Bool → List Bool → ℕ
begun false S = 0
begun true S = leading S

begun_none : (b : Bool) (S : List Bool) → begun b (false ∷ S) ≡ 0
unfolding begun leading
begun_none true S = refl
begun_none false S = refl

leading_few : (S : List Bool) → leading S ≤ awake_slots S
unfolding leading awake_slots
leading_few [] = omega arith
leading_few (false ∷ S) = omega arith
leading_few (true ∷ S) = omega (arith, leading_few S)

-- a slot more in front
one_more : (P : List Bool) (b : Bool) → (length (P ++ (b ∷ [])) ≡ suc (length P)) × (awake_slots (P ++ (b ∷ [])) ≡ awake_slots P + bit b)
unfolding awake_slots
one_more P b = (omega (arith, length-append P (b ∷ [])), omega (arith, awake_append P (b ∷ []), awake_first b []))

module _ (S₀ : List Bool) (B : List ℕ) where
  -- the parts of the runs that begin in S, behind P, where a run has begun or none
  joined : (b : Bool) (P S : List Bool) → P ++ S ≡ S₀ →
      flat (piece S₀ B) (run_list_from b (length P) S) ≡ take (awake_slots S - begun b S) (drop (awake_slots P + begun b S) B)
  unfolding flat piece begun run_list_from leading awake_slots
  joined false P [] e = refl
  joined true P [] e = refl
  joined b P (false ∷ S) e =
      let (n, a) = one_more P false in
      let from : awake_slots (P ++ (false ∷ [])) + 0 ≡ awake_slots P + 0 = omega (arith, a) in
      rw (begun_none b S)
      (ap (λ (t : ℕ). flat (piece S₀ B) (run_list_from false t S)) (sym n)
      ∙ joined false (P ++ (false ∷ [])) S (append_assoc P (false ∷ []) S ∙ e)
      ∙ ap (λ (k : ℕ). take (awake_slots S - 0) (drop k B)) from)
  joined true P (true ∷ S) e =
      let (n, a) = one_more P true in
      let less : awake_slots S - leading S ≡ suc (awake_slots S) - suc (leading S) = omega arith in
      let from : awake_slots (P ++ (true ∷ [])) + leading S ≡ awake_slots P + suc (leading S) = omega (arith, a) in
      ap (λ (t : ℕ). flat (piece S₀ B) (run_list_from true t S)) (sym n)
      ∙ joined true (P ++ (true ∷ [])) S (append_assoc P (true ∷ []) S ∙ e)
      ∙ ap₂ (λ (x y : ℕ). take x (drop y B)) less from
  joined false P (true ∷ S) e =
      let (n, a) = one_more P true in
      let l = leading S in
      let D = drop (awake_slots P) B in
      let front : take (length P) S₀ ≡ P = ap (take (length P)) (sym e) ∙ take_at P (true ∷ S) (length P) refl in
      let here : piece S₀ B (record { first = length P; slots = suc l }) ≡ take (suc l) D =
      ap (λ (Q : List Bool). take (suc l) (drop (awake_slots Q) B)) front in
      let from : awake_slots (P ++ (true ∷ [])) + l ≡ awake_slots P + suc l = omega (arith, a) in
      let rest : flat (piece S₀ B) (run_list_from true (suc (length P)) S) ≡ take (awake_slots S - l) (drop (suc l) D) =
      ap (λ (t : ℕ). flat (piece S₀ B) (run_list_from true t S)) (sym n)
      ∙ joined true (P ++ (true ∷ [])) S (append_assoc P (true ∷ []) S ∙ e)
      ∙ ap (λ (k : ℕ). take (awake_slots S - l) (drop k B)) from
      ∙ ap (take (awake_slots S - l)) (sym (drop-drop (suc l) (awake_slots P) B)) in
      let all : suc l + (awake_slots S - l) ≡ suc (awake_slots S) - 0 = omega (arith, leading_few S) in
      let none : awake_slots P ≡ awake_slots P + 0 = omega arith in
      ap₂ (λ (x y : List ℕ). x ++ y) here rest
      ∙ sym (take-add (suc l) (awake_slots S - l) D)
      ∙ ap₂ (λ (x y : ℕ). take x (drop y B)) all none

  all_joined : length B ≡ awake_slots S₀ → flat (piece S₀ B) (run_list S₀) ≡ B
  unfolding begun awake_slots
  all_joined long = joined false [] S₀ refl ∙ take_all (awake_slots S₀ - 0) B (omega arith)

-- a run ends within the set
longest_within : (S : List Bool) (r : Run) → Longest S r → r.first + r.slots ≤ length S
longest_within S r g = go (dec_lt (length S) (r.first + r.slots))
  where
    go : Dec (length S < r.first + r.slots) → r.first + r.slots ≤ length S
    go (no n) = omega arith
    go (yes l) =
        let i = r.slots - 1 in
        true_not_false _ (g.inside i (omega (arith, g.some))) (get_or-eq_default S false {n = r.first + i} (omega (arith, g.some)))

-- Run k of a record that passes the checks.

module _ (bytes : List ℕ) (small : AreBytes bytes) (p : record_check bytes ≡ Ok tt) where
  abbrev S : List Bool
  S = slots_in bytes

  abbrev rest : List ℕ
  rest = drop (behind_map (word bytes)) bytes

  good : GoodRecord bytes
  good = record_passed bytes p

  module _ (k : ℕ) (l : k < length (run_list S)) where
    run_answer_lem : run_in bytes k ≡ found_at S (behind_map (word bytes)) (run_at S k)
    run_answer_lem =
        let exists : exists_check S k ≡ (Ok tt) = simp (lt-leb (length (run_list S)) k l) in
        ap (run_answer S (behind_map (word bytes)) k) (then_passes (record_check bytes) (exists_check S k) p ∙ exists)

    part_piece : run_part bytes k ≡ piece S rest (run_at S k)
    unfolding piece
    part_piece =
        ap (part_of bytes) run_answer_lem
        ∙ ap (take (run_at S k).slots) (sym (drop-drop (awake_slots (take (run_at S k).first S)) (behind_map (word bytes)) bytes))

    part_long : length (run_part bytes k) ≡ (run_at S k).slots
    unfolding piece
    part_long =
        ap length part_piece
        ∙ length-take-le (run_at S k).slots (drop (awake_slots (take (run_at S k).first S)) rest)
        (omega (arith, length-drop (awake_slots (take (run_at S k).first S)) rest, slot_bytes_are_awake bytes good small, run_fits S (run_at S k) (run_longest S k l)))

    part_of_table : run_part bytes k ≡ take (run_at S k).slots (drop (run_at S k).first (table_in bytes))
    unfolding piece
    part_of_table =
        let r = run_at S k in
        let g = run_longest S k l in
        part_piece
        ∙ sym (ap (take r.slots) (spread_drop S rest r.first)
        ∙ spread_run r.slots (drop r.first S) (drop (awake_slots (take r.first S)) rest)
        (λ i m. get_or-drop r.first S i false ∙ g.inside i m)
        (omega (arith, length-drop (awake_slots (take r.first S)) rest, slot_bytes_are_awake bytes good small, run_fits S r g)))

  -- the parts from run k on
  flat_parts : (l : List Run) (k : ℕ) → ((j : ℕ) → j < length l → run_part bytes (k + j) ≡ piece S rest (get_or l j (record { first = 0; slots = 0 }))) →
      parts_from (length l) k bytes ≡ flat (piece S rest) l
  unfolding flat parts_from
  flat_parts [] k g = refl
  flat_parts (r ∷ l) k g =
      let z : k ≡ k + 0 = omega arith in
      ap₂ (λ (x y : List ℕ). x ++ y) (ap (run_part bytes) z ∙ g 0 (omega arith))
      (flat_parts l (suc k) (λ j m. let e : suc k + j ≡ k + suc j = omega arith in ap (run_part bytes) e ∙ g (suc j) (omega arith)))

-- 1. A run that is found is the k-th of the longest stretches of the map, which are all listed, once, in rising order; its part is as long as the
-- run, and holds what stands in its slots in the record's table.
pub record RunIs (bytes : List ℕ) (k : ℕ) (at : RunPlace) : Type 0 where
  pub listed : ListsRuns (slots_in bytes) (run_list (slots_in bytes))
  pub exists : k < length (run_list (slots_in bytes))
  pub kth : run_at (slots_in bytes) k ≡ record { first = at.first; slots = at.len }
  pub long : length (run_part bytes k) ≡ at.len
  pub slots : run_part bytes k ≡ take at.len (drop at.first (table_in bytes))

pub run_is : (bytes : List ℕ) (k : ℕ) (at : RunPlace) → AreBytes bytes → Finds bytes k (Ok at) → RunIs bytes k at
run_is bytes k at small f =
    let w = found_run bytes k at (sym f.same) in
    let p = record_passes bytes w.good in
    let r = run_at (slots_in bytes) k in
    record {
      listed = runs_are_longest_stretches (slots_in bytes);
      exists = w.exists;
      kth = ap₂ (λ (x y : ℕ). record { first = x; slots = y }) (sym w.first) (sym w.len);
      long = part_long bytes small p k w.exists ∙ sym w.len;
      slots =
          part_of_table bytes small p k w.exists
          ∙ ap₂ (λ (x y : ℕ). take x (drop y (table_in bytes))) (sym w.len) (sym w.first);
    }

-- 2. The parts of runs 0, 1, .. put one behind the other are the record's slot bytes.
pub parts_are_slot_bytes : (bytes : List ℕ) → AreBytes bytes → record_check bytes ≡ Ok tt →
    parts_from (length (run_list (slots_in bytes))) 0 bytes ≡ drop (behind_map (word bytes)) bytes
parts_are_slot_bytes bytes small p =
    flat_parts bytes small p (run_list (slots_in bytes)) 0
    (λ j l. ap (run_part bytes) (let e : 0 + j ≡ j = omega arith in e) ∙ part_piece bytes small p j l)
    ∙ all_joined (slots_in bytes) (drop (behind_map (word bytes)) bytes) (slot_bytes_are_awake bytes (record_passed bytes p) small)

-- The record's own checks tell no number above 32.
record_at_most : (bytes : List ℕ) → checked_number (record_check bytes) ≤ 32
record_at_most bytes =
    let h = word bytes in
    let n = length bytes in
    let count = slot_byte_count h bytes in
    let end = behind_map h + count in
    let left : Checked = refuse_if (ltb end n) (LeftOver end) (Ok tt) in
    let known : Checked = bytes_by slot_byte_check count (behind_map h) bytes in
    let slots : Checked = slot_bytes_check (behind_map h) count bytes in
    let padded : Checked = refuse_if (some_bit (padding_in h bytes)) (PaddingBit (1 + map_length h)) slots in
    refusal_at_most 32 (ltb n 2) (Truncated n) (and_then (horizon_check h) (body_check h bytes)) (omega arith)
    (check_at_most 32 (horizon_check h) (body_check h bytes) (omega (arith, horizon_at_most h))
    (refusal_at_most 32 (ltb n (behind_map h)) (Truncated n) padded (omega arith)
    (refusal_at_most 32 (some_bit (padding_in h bytes)) (PaddingBit (1 + map_length h)) slots (omega arith)
    (refusal_at_most 32 (ltb n end) (Truncated n) (and_then known left) (omega arith)
    (check_at_most 32 known left
    (bytes_at_most 32 slot_byte_check count (behind_map h) bytes
    (λ i. refusal_at_most 32 (leb 64 (get_or bytes i 0) && not (eqb (get_or bytes i 0) 254)) (BadSlotByte i) (Ok tt) (omega arith) (omega arith)))
    (refusal_at_most 32 (ltb end n) (LeftOver end) (Ok tt) (omega arith) (omega arith)))))))

-- So a caller that asks for runs 0, 1, .. until it is told 33 at n has had all n runs, and with them all slot bytes.
pub record AllRuns (bytes : List ℕ) (k n : ℕ) : Type 0 where
  pub passed : record_check bytes ≡ Ok tt
  pub count : n ≡ runs (slots_in bytes)
  pub beyond : n ≤ k
  pub joined : parts_from n 0 bytes ≡ drop (behind_map (word bytes)) bytes

pub all_runs : (bytes : List ℕ) (k n : ℕ) (answer : Result RunPlace Refusal) → AreBytes bytes → Finds bytes k answer → found_number answer ≡ 33 → found_values answer ≡ n ∷ [] →
    AllRuns bytes k n
all_runs bytes k n answer small f told place = by (run_check bytes k) refl
  where
    S : List Bool
    S = slots_in bytes

    number_is : (c : Checked) → run_check bytes k ≡ c → found_number (run_answer S (behind_map (word bytes)) k c) ≡ 33
    number_is c e = sym (f.number ∙ ap (λ (x : Checked). found_number (run_answer S (behind_map (word bytes)) k x)) e) ∙ told

    values_are : (c : Checked) → run_check bytes k ≡ c → found_values (run_answer S (behind_map (word bytes)) k c) ≡ n ∷ []
    values_are c e = sym (f.values ∙ ap (λ (x : Checked). found_values (run_answer S (behind_map (word bytes)) k x)) e) ∙ place

    exists : (p : record_check bytes ≡ Ok tt) (b : Bool) (r : Refusal) → leb (length (run_list S)) k ≡ b → refuse_if b (NoSuchRun (length (run_list S))) (Ok tt) ≡ Err r →
        found_values (Err r) ≡ n ∷ [] → AllRuns bytes k n
    exists p false r e q v = refused_not_passed r (sym q)
    exists p true r e q v =
        let is : length (run_list S) ≡ n = heads (ap (λ (c : Checked). found_values (run_answer S (behind_map (word bytes)) k c)) q ∙ v) in
        record {
          passed = p;
          count = sym is ∙ (runs_are_longest_stretches S).count;
          beyond = omega (arith, is, leb-true (length (run_list S)) k e);
          joined = ap (λ (m : ℕ). parts_from m 0 bytes) (sym is) ∙ parts_are_slot_bytes bytes small p;
        }
      where
        heads : ◌≡◌ {A = List ℕ} (length (run_list S) ∷ []) (n ∷ []) → length (run_list S) ≡ n
        heads z = cc z

    by : (c : Checked) → run_check bytes k ≡ c → AllRuns bytes k n
    by (Ok tt) e = absurd (omega (arith, number_is (Ok tt) e))
    by (Err r) e =
        let number : checked_number (run_check bytes k) ≡ 33 = ap checked_number e ∙ number_is (Err r) e in
        let past = past_check (λ (m : ℕ). m ≡ 33) (record_check bytes) (exists_check S k) (λ z. omega (arith, record_at_most bytes)) number in
        exists past.0 (leb (length (run_list S)) k) r refl (sym (then_passes (record_check bytes) (exists_check S k) past.0) ∙ e) (values_are (Err r) e)

-- 3. The part is empty exactly where `find_run` refuses.
pub part_empty_iff_refused : (bytes part : List ℕ) (k : ℕ) (answer : Result RunPlace Refusal) → AreBytes bytes → Finds bytes k answer → part ≡ run_part bytes k →
    (part ≡ []) ↔ (found_number answer ≡ 0 → ⊥)
part_empty_iff_refused bytes part k answer small f e = by answer f.same
  where
    by : (a : Result RunPlace Refusal) → a ≡ run_in bytes k → (part ≡ []) ↔ (found_number a ≡ 0 → ⊥)
    by (Err r) q = (λ z. refusal_number r, λ n. e ∙ ap (part_of bytes) (sym q))
    by (Ok at) q = (λ z. absurd (some z), λ n. absurd (n refl))
      where
        some : part ≡ [] → ⊥
        some z =
            let w = found_run bytes k at (sym q) in
            let p = record_passes bytes w.good in
            omega (arith, ap length (sym e ∙ z), part_long bytes small p k w.exists, (run_longest (slots_in bytes) k w.exists).some)

-- 4. Where the record is read, the part holds the bytes of the run's slots in the lent table.
pub part_is_in_table : (bytes lent filled : List ℕ) (h k : ℕ) (at : RunPlace) → AreBytes bytes → Reads bytes lent (Ok h) filled → Finds bytes k (Ok at) →
    run_part bytes k ≡ take at.len (drop at.first filled)
part_is_in_table bytes lent filled h k at small r f =
    let w = found_run bytes k at (sym f.same) in
    let T = table_in bytes in
    let run = run_at (slots_in bytes) k in
    let p = record_passes bytes w.good in
    let ends : run.first + run.slots ≤ length T = omega (arith, length_table bytes w.good small, length_slots_in bytes w.good, longest_within (slots_in bytes) run (run_longest (slots_in bytes) k w.exists)) in
    let filled_is : filled ≡ T ++ drop (length T) lent = (has_read bytes lent filled h r).put in
    part_of_table bytes small p k w.exists
    ∙ sym (ap₂ (λ (n t : ℕ). take n (drop t filled)) w.len w.first
    ∙ ap (λ (x : List ℕ). take run.slots (drop run.first x)) filled_is
    ∙ ap (take run.slots) (drop-append-le run.first T (drop (length T) lent) (omega arith))
    ∙ take-append-le run.slots (drop run.first T) (drop (length T) lent) (omega (arith, length-drop run.first T)))
