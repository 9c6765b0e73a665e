-- An input that is read has at most 453 bytes, and of any input no more than its first 454 count: bytes behind them change no answer.
use Prim.Native.Nat.{ℕ, zero, suc, ◌+◌, ◌*◌, ◌≤◌, ◌<◌}
use Rattle.std.specs.Prelude.{◌≡◌, refl, Bool, true, false, List, ◌++◌, take, drop, Ok}
use Rattle.std.proofs.Common.{ap, sym, ◌∙◌, arith, length-take, take-append-drop, take_all}
use Rattle.std.proofs.Math.Nat.{mul-suc}
use Rattle.std.proofs.Math.Decide.{dec_le}
use borrow.Author.Tests.{le-ltb, ne_eqb}
use Rattle.std.proofs.Math.ListN.{length, length-append, length-drop, get_or-append}
use Rattle.std.proofs.Math.Seq.{drop-append-le}
use Rattle.sched.specs.TwoBytes.{word}
use Rattle.sched.specs.Checks.{JobCheck, and_then, job_check}
use Rattle.sched.proofs.Checks.Laws.{then_same}
use Rattle.list_parts.specs.Header.{header_length, header_horizon, count_in, header_count, header_check}
use Rattle.list_parts.specs.Layout.{absent_release, absent_deadline, absent_volume, has_release, has_deadline, has_volume, release_at, deadline_at, volume_at}
use Rattle.list_parts.specs.Entries.{EntryCheck, entry_map, entry_size, value_if, known_maps, map_check, whole_check, field_check, redundancy_check}
use Rattle.list_parts.specs.Entries.{fault_check, entry_check, entries_check}
use Rattle.list_parts.proofs.Laws.Walk.{entries_first, entries_none}
use Rattle.list_parts.proofs.Laws.Entry.{whole_passes}
use Rattle.list_parts.proofs.Laws.Header.{header_passed}
use Rattle.list_parts.proofs.Laws.Maps.{width_small, entry_short}
use Rattle.joblist.specs.Reading.{lent_check, behind_header, read_check}
use Rattle.joblist.proofs.Laws.Input.{read_passed}

-- The walk, for entries of at most `most` bytes

module _ (size : List ℕ → ℕ) (most : ℕ) (short : (bs : List ℕ) → size bs ≤ most) where
  -- k entries, and nothing behind them
  entries_short : (check : EntryCheck) (k j at : ℕ) (bs : List ℕ) → entries_check check size k j at bs ≡ Ok tt → length bs ≤ most * k
  entries_short check zero j at bs e = omega (arith, ap length (entries_none check size j at bs e))
  entries_short check (suc k) j at bs e =
      let rest = entries_short check k (suc j) (at + size bs) (drop (size bs) bs) (entries_first check size k j at bs e).1 in
      omega (arith, rest, short bs, length-drop (size bs) bs, mul-suc most k)

  -- two checks that agree on an entry with a byte behind it, whatever follows, agree on k entries with a byte behind them
  module _ (check check' : EntryCheck) (same_size : (front more : List ℕ) → most < length front → size (front ++ more) ≡ size front)
      (same_check : (j at : ℕ) (front more : List ℕ) → most < length front → check j at (front ++ more) ≡ check' j at front) where
    entries_front : (k j at : ℕ) (front more : List ℕ) → most * k < length front →
        entries_check check size k j at (front ++ more) ≡ entries_check check' size k j at front
    unfolding entries_check
    entries_front zero j at front more l =
        rw (ne_eqb (length (front ++ more)) 0 (omega (arith, length-append front more)), ne_eqb (length front) 0 (omega arith))
    entries_front (suc k) j at front more l =
        let m : most < length front = omega (arith, mul-suc most k) in
        let n : most * k < length (drop (size front) front) = omega (arith, short front, length-drop (size front) front, mul-suc most k) in
        rw (same_check j at front more m, same_size front more m, drop-append-le (size front) front more (omega (arith, short front)))
        (ap (and_then (check' j at front)) (entries_front k (suc j) (at + size front) (drop (size front) front) more n))

-- What a front tells, whatever follows it

module _ (front more : List ℕ) where
  word_front : (i : ℕ) → i + 2 ≤ length front → word (drop i (front ++ more)) ≡ word (drop i front)
  word_front i l =
      let n = length-drop i front in
      rw (
        drop-append-le i front more (omega arith),
        get_or-append (drop i front) more 0 0 (omega (arith, n)),
        get_or-append (drop i front) more 0 1 (omega (arith, n)),
      )

  value_front : (stands : Bool) (absent i : ℕ) → i + 2 ≤ length front →
      value_if stands absent (drop i (front ++ more)) ≡ value_if stands absent (drop i front)
  value_front true absent i l = word_front i l
  value_front false absent i l = refl

  field_front : (stands : Bool) (absent place at : ℕ) → place + 2 ≤ length front →
      field_check stands absent place at (front ++ more) ≡ field_check stands absent place at front
  field_front stands absent place at l = rw (word_front place l)

  -- an entry, with a byte behind it

  module _ (l : 7 < length front) where
    map_front : entry_map (front ++ more) ≡ entry_map front
    map_front = get_or-append front more 0 0 (omega arith)

    size_front : entry_size (front ++ more) ≡ entry_size front
    size_front = rw map_front

    deadline_in : deadline_at (entry_map front) + 2 ≤ length front
    deadline_in = omega (arith, width_small (has_release (entry_map front)))

    volume_in : volume_at (entry_map front) + 2 ≤ length front
    volume_in = omega (arith, width_small (has_release (entry_map front)), width_small (has_deadline (entry_map front)))

    map_check_front : (n n' at : ℕ) → map_check known_maps n at (front ++ more) ≡ map_check known_maps n' at front
    unfolding map_check
    map_check_front n n' at =
        rw (ne_eqb (length (front ++ more)) 0 (omega (arith, length-append front more)), ne_eqb (length front) 0 (omega arith), map_front)

    whole_front : (n n' : ℕ) → whole_check (entry_size (front ++ more)) n (front ++ more) ≡ whole_check (entry_size front) n' front
    whole_front n n' =
        whole_passes (entry_size (front ++ more)) n (front ++ more) (omega (arith, entry_short (front ++ more), length-append front more))
        ∙ sym (whole_passes (entry_size front) n' front (omega (arith, entry_short front)))

    redundancy_front : (h at : ℕ) → redundancy_check h at (front ++ more) ≡ redundancy_check h at front
    unfolding redundancy_check
    redundancy_front h at =
        let map = entry_map front in
        rw (
          map_front,
          field_front (has_release map) absent_release release_at at (omega arith),
          field_front (has_deadline map) (absent_deadline h) (deadline_at map) at deadline_in,
          field_front (has_volume map) absent_volume (volume_at map) at volume_in,
        )

    fault_front : (check : JobCheck) (h j : ℕ) → fault_check check h j (front ++ more) ≡ fault_check check h j front
    fault_front check h j =
        let map = entry_map front in
        rw (
          map_front,
          value_front (has_release map) absent_release release_at (omega arith),
          value_front (has_deadline map) (absent_deadline h) (deadline_at map) deadline_in,
          value_front (has_volume map) absent_volume (volume_at map) volume_in,
        )

    entry_front : (check : JobCheck) (h n n' j at : ℕ) → entry_check check h n j at (front ++ more) ≡ entry_check check h n' j at front
    unfolding entry_check
    entry_front check h n n' j at =
        rw (map_check_front n n' at, whole_front n n', redundancy_front h at, fault_front check h j)

-- The whole input

module _ (front more : List ℕ) (l : 453 < length front) where
  horizon_front : header_horizon (front ++ more) ≡ header_horizon front
  horizon_front = word_front front more 0 (omega arith)

  count_front : header_count (front ++ more) ≡ header_count front
  count_front = ap count_in (get_or-append front more 0 4 (omega arith))

  header_front : header_check (front ++ more) ≡ header_check front
  header_front =
      rw (
        le-ltb (length (front ++ more)) header_length (omega (arith, length-append front more)),
        le-ltb (length front) header_length (omega arith),
        horizon_front,
        count_front,
      )

  -- 448 is 7 × 64
  behind_front : (h count : ℕ) → count ≤ 64 → behind_header job_check h count (front ++ more) ≡ behind_header job_check h count front
  behind_front h count few =
      rw (drop-append-le header_length front more (omega arith))
      (entries_front entry_size 7 entry_short (entry_check job_check h (length (front ++ more))) (entry_check job_check h (length front)) size_front
      (λ j at bs x m. entry_front bs x m job_check h (length (front ++ more)) (length front) j at)
      count 0 header_length (drop header_length front) more (omega (arith, length-drop header_length front)))

  read_front : (r d p : ℕ) → read_check (front ++ more) r d p ≡ read_check front r d p
  read_front r d p =
      let h = header_horizon front in
      let n = header_count front in
      rw (header_front, horizon_front, count_front)
      (then_same (header_check front) _ _ (λ e.
      ap (and_then (lent_check n r d p)) (behind_front h n (header_passed front e).few)))

-- an input may be cut anywhere behind its first 454 bytes
pub read_cut : (n : ℕ) (bytes : List ℕ) (r d p : ℕ) → 453 < n → read_check (take n bytes) r d p ≡ read_check bytes r d p
read_cut n bytes r d p l = go (dec_le (length bytes) n)
  where
    go : Dec (length bytes ≤ n) → read_check (take n bytes) r d p ≡ read_check bytes r d p
    go (yes m) = rw (take_all n bytes m)
    go (no m) =
        sym (read_front (take n bytes) (drop n bytes) (omega (arith, length-take n bytes)) r d p)
        ∙ ap (λ (bs : List ℕ). read_check bs r d p) (take-append-drop n bytes)

-- what is read has at most 5 + 7 × 64 bytes
pub read_short : (bytes : List ℕ) (r d p : ℕ) → read_check bytes r d p ≡ Ok tt → length bytes ≤ 453
read_short bytes r d p e =
    let g = read_passed bytes r d p e in
    let check = entry_check job_check (header_horizon bytes) (length bytes) in
    let rest = entries_short entry_size 7 entry_short check (header_count bytes) 0 header_length (drop header_length bytes) g.entries in
    omega (arith, rest, g.header.few, length-drop header_length bytes)
