-- Run k of a set, found run by run; and where the part of a run lies in a record that passes the checks.
use Rattle.std.specs.Prelude.{ℕ, zero, suc, ◌+◌, ◌-◌, ◌≤◌, ◌<◌, ◌≡◌, refl, Bool, true, false, length, get_or, take, drop, leb, Err, Ok, Result}
use Rattle.std.proofs.Common.{sym, ap, ◌∙◌, arith, le-leb, leb-false, length-drop, take-add, drop-drop, get_or-drop}
use mathlib.Core.List.{List, [], ◌∷◌, Memᴰ}
use Rattle.std.proofs.lemmas.Bool.{lt-leb}
use Rattle.sched.proofs.Bounded.Laws.{true_not_false}
use Rattle.sched.specs.TwoBytes.{AreBytes, word}
use Rattle.sched.specs.Slots.{awake}
use Rattle.sched.specs.Energy.{awake_slots}
use Rattle.sched.proofs.Energy.Laws.{awake_append, awake_at_most}
use Rattle.sched.specs.Runs.{Run, Longest, run_list, StretchEnd}
use Rattle.sched.proofs.Runs.Laws.{runs_are_longest_stretches, runs_left, none_left, stretch_asleep, stretch_awake}
use Rattle.sched.proofs.Runs.Search.{RunFrom, run_from, run_moves}
use Rattle.sched.proofs.Checks.Laws.{refuse_passed, then_passed}
use Rattle.sched.specs.declared.Refusal.{Refusal}
use Rattle.sched.specs.declared.Refusal.TheVariants.{NoSuchRun}
use Rattle.record.specs.declared.RunPlace.{RunPlace}
use Rattle.record_parts.specs.Layout.{behind_map}
use Rattle.record_parts.specs.Bytes.{slots_in, record_check}
use Rattle.record_parts.proofs.Bytes.Laws.{GoodRecord, record_passed, length_slots_in, count_is_awake, awake_part, slot_bytes_are_awake}
use Rattle.record.specs.OneRun.{run_at, exists_check, run_check, found_at, run_answer, run_in}
use Rattle.sched.specs.Refusals.{Checked}

-- the awake slots of a stretch

all_awake : (k : ℕ) (S : List Bool) → ((i : ℕ) → i < k → get_or S i false ≡ true) → awake_slots (take k S) ≡ k
unfolding awake_slots
all_awake zero S g = refl
all_awake (suc k) [] g = true_not_false false (g 0 (omega arith)) refl
all_awake (suc k) (false ∷ S) g = true_not_false false (g 0 (omega arith)) refl
all_awake (suc k) (true ∷ S) g = ap suc (all_awake k S (λ i l. g (suc i) (omega arith)))

all_asleep : (k : ℕ) (S : List Bool) → ((i : ℕ) → i < k → get_or S i false ≡ false) → awake_slots (take k S) ≡ 0
unfolding awake_slots
all_asleep zero S g = refl
all_asleep (suc k) [] g = refl
all_asleep (suc k) (true ∷ S) g = true_not_false true refl (g 0 (omega arith))
all_asleep (suc k) (false ∷ S) g = all_asleep k S (λ i l. g (suc i) (omega arith))

module _ (S : List Bool) (from k : ℕ) where
  up_to : awake_slots (take (from + k) S) ≡ awake_slots (take from S) + awake_slots (take k (drop from S))
  up_to = ap awake_slots (take-add from k S) ∙ awake_append (take from S) (take k (drop from S))

  pub awake_over_run : ((i : ℕ) → i < k → awake S (from + i) ≡ true) → awake_slots (take (from + k) S) ≡ awake_slots (take from S) + k
  awake_over_run g = omega (arith, up_to, all_awake k (drop from S) (λ i l. get_or-drop from S i false ∙ g i l))

  awake_over_sleep : ((i : ℕ) → i < k → awake S (from + i) ≡ false) → awake_slots (take (from + k) S) ≡ awake_slots (take from S)
  awake_over_sleep g = omega (arith, up_to, all_asleep k (drop from S) (λ i l. get_or-drop from S i false ∙ g i l))

module _ (S : List Bool) (n from end : ℕ) where
  stretch_counts : StretchEnd S n from true end → awake_slots (take end S) ≡ awake_slots (take from S) + (end - from)
  stretch_counts s =
      let e : from + (end - from) ≡ end = omega (arith, s.starts) in
      ap (λ (t : ℕ). awake_slots (take t S)) (sym e)
      ∙ awake_over_run S from (end - from) (λ i l. s.inside (from + i) (omega arith) (omega (arith, s.starts)))

  sleep_counts : StretchEnd S n from false end → awake_slots (take end S) ≡ awake_slots (take from S)
  sleep_counts s =
      let e : from + (end - from) ≡ end = omega (arith, s.starts) in
      ap (λ (t : ℕ). awake_slots (take t S)) (sym e)
      ∙ awake_over_sleep S from (end - from) (λ i l. s.inside (from + i) (omega arith) (omega (arith, s.starts)))

-- The search: `seen` runs lie before slot `first`, and their slot bytes before the offset `at`.
pub record Searched (S : List Bool) (h behind k seen at first : ℕ) : Type 0 where
  pub from : RunFrom S h first
  pub left : drop seen (run_list S) ≡ runs_left S first
  pub many : seen + length (runs_left S first) ≡ length (run_list S)
  pub offset : at ≡ behind + awake_slots (take first S)
  pub few : seen ≤ k

pub searched_start : (S : List Bool) (h behind k first : ℕ) → StretchEnd S h 0 false first → Searched S h behind k 0 behind first
unfolding awake_slots
searched_start S h behind k first s =
    let e : run_list S ≡ runs_left S first = stretch_asleep S h 0 first s in
    record {
      from = run_from S h 0 first s;
      left = e;
      many = omega (arith, ap length e);
      offset = omega (arith, sleep_counts S h 0 first s);
      few = omega arith;
    }

-- the first of the runs that are left, by a list of them
run_here : (l rest : List Run) (r : Run) (d : Run) (seen : ℕ) → drop seen l ≡ r ∷ rest → get_or l seen d ≡ r
run_here l rest r d seen e =
    let z : seen + 0 ≡ seen = omega arith in
    ap (λ (n : ℕ). get_or l n d) (sym z) ∙ sym (get_or-drop seen l 0 d) ∙ ap (λ (x : List Run). get_or x 0 d) e

module _ (S : List Bool) (h behind k seen at first : ℕ) (long : length S ≡ h) (w : Searched S h behind k seen at first) where
  module _ (stop : ℕ) (l : first < h) (s : StretchEnd S h first true stop) where
    moves : first < stop
    moves = run_moves S h first stop w.from l s

    next : runs_left S first ≡ record { first = first; slots = stop - first } ∷ runs_left S stop
    next = stretch_awake S h first stop long s moves

    -- the run that is looked for
    pub searched_found : seen ≡ k → Ok (record { first = first; offset = at; len = stop - first }) ≡ run_answer S behind k (exists_check S k)
    searched_found e =
        let run : run_at S k ≡ record { first = first; slots = stop - first } =
        ap (run_at S) (sym e) ∙ run_here (run_list S) (runs_left S stop) (record { first = first; slots = stop - first }) (record { first = 0; slots = 0 }) seen (w.left ∙ next) in
        let some : k < length (run_list S) = omega (arith, w.many, ap length next, e) in
        sym (simp (lt-leb (length (run_list S)) k some) (ap (found_at S behind) run ∙ sym (ap (λ (o : ℕ). Ok (record { first = first; offset = o; len = stop - first })) w.offset)))

    -- or another one
    pub searched_next : (first' : ℕ) → (seen ≡ k → ⊥) → StretchEnd S h stop false first' → Searched S h behind k (seen + 1) (at + (stop - first)) first'
    searched_next first' f s' =
        let sleep = stretch_asleep S h stop first' s' in
        let less : seen < k = omega (arith, w.few) in
        record {
          from = run_from S h stop first' s';
          left = sym (drop-drop 1 seen (run_list S)) ∙ ap (drop 1) (w.left ∙ next) ∙ sleep;
          many = omega (arith, w.many, ap length next, ap length sleep);
          offset = omega (arith, w.offset, stretch_counts S h first stop s, sleep_counts S h stop first' s');
          few = omega arith;
        }

    -- how far the offset gets
    pub searched_small : at + (stop - first) ≤ behind + h
    searched_small =
        omega (
          arith,
          w.offset,
          stretch_counts S h first stop s,
          awake_part S stop,
          awake_at_most S,
        )

  pub searched_none : h ≤ first → Err (NoSuchRun seen) ≡ run_answer S behind k (exists_check S k)
  searched_none l =
      let n : length (run_list S) ≡ seen = omega (arith, w.many, ap length (none_left S first (omega arith))) in
      sym (simp (le-leb (length (run_list S)) k (omega (arith, w.few))) (ap (λ (m : ℕ). Err (NoSuchRun m)) n))

-- Where the part lies.

member : (l : List Run) (k : ℕ) (d : Run) → k < length l → Memᴰ (get_or l k d) l
member [] k d l = absurd (omega arith)
member (r ∷ rest) zero d l = Memᴰ.head refl
member (r ∷ rest) (suc k) d l = Memᴰ.tail (member rest k d (omega arith))

pub run_longest : (S : List Bool) (k : ℕ) → k < length (run_list S) → Longest S (run_at S k)
run_longest S k l = (runs_are_longest_stretches S).longest (run_at S k) (member (run_list S) k (record { first = 0; slots = 0 }) l)

-- the bytes before a run's and its own are among those of all awake slots
pub run_fits : (S : List Bool) (r : Run) → Longest S r → awake_slots (take r.first S) + r.slots ≤ awake_slots S
run_fits S r g = omega (arith, awake_over_run S r.first r.slots g.inside, awake_part S (r.first + r.slots))

-- what an answer that finds a run knows
pub record FoundRun (bytes : List ℕ) (k : ℕ) (part : RunPlace) : Type 0 where
  pub good : GoodRecord bytes
  pub exists : k < length (run_list (slots_in bytes))
  pub first : part.first ≡ (run_at (slots_in bytes) k).first
  pub offset : part.offset ≡ behind_map (word bytes) + awake_slots (take (run_at (slots_in bytes) k).first (slots_in bytes))
  pub len : part.len ≡ (run_at (slots_in bytes) k).slots

first_of : Result RunPlace Refusal → ℕ
first_of (Ok part) = part.first
first_of (Err r) = 0

offset_of : Result RunPlace Refusal → ℕ
offset_of (Ok part) = part.offset
offset_of (Err r) = 0

len_of : Result RunPlace Refusal → ℕ
len_of (Ok part) = part.len
len_of (Err r) = 0

refused_not_found : {A : Type 0} (r : Refusal) (part : RunPlace) → Err r ≡ Ok part → A
refused_not_found r part e = let z : ◌≡◌ {A = ℕ} 0 1 = cc in absurd (omega arith)

pub found_run : (bytes : List ℕ) (k : ℕ) (part : RunPlace) → run_in bytes k ≡ Ok part → FoundRun bytes k part
unfolding first_of offset_of len_of
found_run bytes k part e = by (run_check bytes k) refl
  where
    S : List Bool
    S = slots_in bytes

    by : (c : Checked) → run_check bytes k ≡ c → FoundRun bytes k part
    by (Err r) f = refused_not_found r part (sym (ap (run_answer S (behind_map (word bytes)) k) f) ∙ e)
    by (Ok tt) f =
        let (a, b) = then_passed (record_check bytes) (exists_check S k) f in
        let n = refuse_passed (leb (length (run_list S)) k) (NoSuchRun (length (run_list S))) (Ok tt) b in
        let q : found_at S (behind_map (word bytes)) (run_at S k) ≡ Ok part = sym (ap (run_answer S (behind_map (word bytes)) k) f) ∙ e in
        record {
          good = record_passed bytes a;
          exists = leb-false (length (run_list S)) k n.0;
          first = sym (ap first_of q);
          offset = sym (ap offset_of q);
          len = sym (ap len_of q);
        }

-- it lies within the record
pub part_within : (bytes : List ℕ) (k : ℕ) (part : RunPlace) → AreBytes bytes → run_in bytes k ≡ Ok part → part.offset + part.len ≤ length bytes
part_within bytes k part small e =
    let f = found_run bytes k part e in
    let S = slots_in bytes in
    omega (
      arith,
      f.offset,
      f.len,
      run_fits S (run_at S k) (run_longest S k f.exists),
      slot_bytes_are_awake bytes f.good small,
      length-drop (behind_map (word bytes)) bytes,
      f.good.whole,
    )

pub part_small : (bytes : List ℕ) (k : ℕ) (part : RunPlace) → AreBytes bytes → run_in bytes k ≡ Ok part → part.offset + part.len ≤ 4610
part_small bytes k part small e =
    let g = (found_run bytes k part e).good in
    omega (
      arith,
      part_within bytes k part small e,
      g.whole,
      g.high,
      count_is_awake bytes g small,
      awake_at_most (slots_in bytes),
      length_slots_in bytes g,
    )
