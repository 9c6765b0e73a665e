-- 02, card 4: no answer of reader and writer changed, by the words of `specs/Theorems/LengthsAsBefore`.
use Prim.Native.Nat.{ℕ, zero, suc, ◌+◌}
use Rattle.std.specs.Prelude.{◌≡◌, length, drop, Err, Ok}
use Rattle.std.proofs.Math.Path.{refl, ap}
use Rattle.std.proofs.Common.{◌∙◌}
use mathlib.Core.List.{List, ◌∷◌, ◌++◌}
use Rattle.sched.specs.Jobs.{Jobs}
use Rattle.sched.specs.Checks.{and_then, job_check}
use Rattle.sched.proofs.Checks.Laws.{then_same}
use Rattle.list_parts.specs.Header.{header_length, header_horizon, header_wake, header_count, header_check}
use Rattle.list_parts.specs.Entries.{entry_map, entry_size, known_maps, release_of, deadline_of, volume_of, map_check}
use Rattle.list_parts.specs.Entries.{entry_check, entries_check, column}
use Rattle.list_parts.proofs.Laws.Maps.{length_is}
use Rattle.list_parts.proofs.Laws.Entry.{map_passed, entry_passed}
use Rattle.list_parts.proofs.Laws.Walk.{entries_first}
use Rattle.joblist.specs.Reading.{lent_check, read_check, list_of, Reading, read_if, reading}
use Rattle.joblist.proofs.Laws.Input.{read_passed}
use Rattle.joblist.proofs.Laws.Lists.{same_list}
use Rattle.joblist.specs.Theorems.LengthsAsBefore.{size_before, entry_check_before, read_check_before, list_before, read_if_before, reading_before}
use Rattle.sched.specs.Refusals.{Checked}

-- The theorem

size_same : (h n j at : ℕ) (bs : List ℕ) → entry_check job_check h n j at bs ≡ Ok tt → entry_size bs ≡ size_before bs
size_same h n j at bs e = length_is (entry_map bs) (entry_passed job_check h n j at bs e).map.known

entry_same : (h n j at : ℕ) (bs : List ℕ) → entry_check job_check h n j at bs ≡ entry_check_before h n j at bs
unfolding entry_check
entry_same h n j at bs =
    then_same (map_check known_maps n at bs) _ _ (λ e. rw (length_is (entry_map bs) (map_passed known_maps n at bs e).known))

module _ (h n : ℕ) where
  entries_same : (k j at : ℕ) (bs : List ℕ) →
      entries_check (entry_check job_check h n) entry_size k j at bs ≡ entries_check (entry_check_before h n) size_before k j at bs
  unfolding entries_check
  entries_same zero j at bs = refl
  entries_same (suc k) j at bs =
      let z = size_before bs in
      let rest = entries_check (entry_check_before h n) size_before k (suc j) (at + z) (drop z bs) in
      then_same (entry_check job_check h n j at bs) _ rest (λ e. rw (size_same h n j at bs e) (entries_same k (suc j) (at + z) (drop z bs)))
      ∙ ap (λ (c : Checked). and_then c rest) (entry_same h n j at bs)

  column_same : (field : List ℕ → ℕ) (k j at : ℕ) (bs : List ℕ) → entries_check (entry_check job_check h n) entry_size k j at bs ≡ Ok tt →
      column entry_size field k bs ≡ column size_before field k bs
  unfolding column
  column_same field zero j at bs e = refl
  column_same field (suc k) j at bs e =
      let first = entries_first (entry_check job_check h n) entry_size k j at bs e in
      ap (λ (l : List ℕ). field bs ∷ l) (column_same field k (suc j) _ (drop (entry_size bs) bs) first.1)
      ∙ rw (size_same h n j at bs first.0)

-- every input meets the same refusal, or none
pub check_as_before : (bytes : List ℕ) (r d p : ℕ) → read_check bytes r d p ≡ read_check_before bytes r d p
check_as_before bytes r d p =
    ap (λ (c : Checked). and_then (header_check bytes) (and_then (lent_check (header_count bytes) r d p) c))
    (entries_same (header_horizon bytes) (length bytes) (header_count bytes) 0 header_length (drop header_length bytes))

-- bytes that are read stand for the same list
pub list_as_before : (bytes : List ℕ) (r d p : ℕ) → read_check bytes r d p ≡ Ok tt → list_of bytes ≡ list_before bytes
list_as_before bytes r d p e =
    let g = (read_passed bytes r d p e).entries in
    let h = header_horizon bytes in
    let n = header_count bytes in
    let rest : List ℕ = drop header_length bytes in
    same_list (list_of bytes) (list_before bytes) refl refl refl (column_same h (length bytes) release_of n 0 header_length rest g)
    (column_same h (length bytes) (deadline_of h) n 0 header_length rest g) (column_same h (length bytes) volume_of n 0 header_length rest g)

-- the answer and the three lists are the same
pub reading_as_before : (bytes rs ds ps : List ℕ) → reading bytes rs ds ps ≡ reading_before bytes rs ds ps
unfolding reading
reading_as_before bytes rs ds ps =
    by_check (read_check bytes (length rs) (length ds) (length ps)) refl
    ∙ ap (λ (c : Checked). read_if_before c bytes rs ds ps) (check_as_before bytes (length rs) (length ds) (length ps))
  where
    handed : Jobs → Reading
    handed J =
        record {
          answer = Ok (record { h = header_horizon bytes; q = header_wake bytes; count = header_count bytes });
          releases = J.releases ++ drop (header_count bytes) rs;
          deadlines = J.deadlines ++ drop (header_count bytes) ds;
          volumes = J.volumes ++ drop (header_count bytes) ps;
        }

    by_check : (c : Checked) → read_check bytes (length rs) (length ds) (length ps) ≡ c → read_if c bytes rs ds ps ≡ read_if_before c bytes rs ds ps
    by_check (Err r) e = refl
    by_check (Ok tt) e = ap handed (list_as_before bytes (length rs) (length ds) (length ps) e)
