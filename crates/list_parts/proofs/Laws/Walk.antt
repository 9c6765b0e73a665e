-- The walk over entries, for every check and length of an entry: step by step, and as a loop that stands at a job sees it.
use Prim.Native.Nat.{ℕ, zero, suc, ◌+◌, ◌-◌, ◌≤◌, ◌<◌}
use Rattle.std.specs.Prelude.{◌≡◌, take, drop, set, Err, Ok}
use Rattle.std.proofs.Math.Path.{refl, ap, sym}
use Rattle.std.proofs.Common.{◌∙◌, length-set}
use mathlib.Core.List.{List, [], ◌∷◌}
use Rattle.std.proofs.Math.Numerals.{add-one}
use native.Mathlib.Omega.{arith}
use borrow.Author.Tests.{eq-eqb, ne_eqb, eqb-true, not-false}
use Rattle.std.proofs.Math.ListN.{length, length-drop}
use Rattle.std.proofs.Math.Seq.{take_at, drop-drop, sets-eq}
use Rattle.std.proofs.lemmas.List.Edits.{sets}
use Rattle.sched.specs.Checks.{and_then}
use Rattle.sched.proofs.Checks.Laws.{refuse_passed, then_passed, then_fails, then_passes}
use Rattle.sched.specs.declared.Refusal.{Refusal}
use Rattle.sched.specs.declared.Refusal.TheVariants.{LeftOver}
use Rattle.list_parts.specs.Header.{header_length}
use Rattle.list_parts.specs.Entries.{EntryCheck, entries_check, column}
use Rattle.sched.specs.Refusals.{Checked}

-- The checks

module _ (check : EntryCheck) (size : List ℕ → ℕ) where
  pub entries_first : (k j at : ℕ) (bs : List ℕ) → entries_check check size (suc k) j at bs ≡ Ok tt →
      (check j at bs ≡ Ok tt) × (entries_check check size k (suc j) (at + size bs) (drop (size bs) bs) ≡ Ok tt)
  unfolding entries_check
  entries_first k j at bs e = then_passed (check j at bs) (entries_check check size k (suc j) (at + size bs) (drop (size bs) bs)) e

  pub entries_none : (j at : ℕ) (bs : List ℕ) → entries_check check size 0 j at bs ≡ Ok tt → [] ≡ bs
  unfolding entries_check
  entries_none j at [] e = refl
  entries_none j at (b ∷ bs) e = absurd (omega (arith, eqb-true (suc (length bs)) 0 (not-false _ (refuse_passed _ (LeftOver at) (Ok tt) e).0)))

  -- a loop at job `job`, whose entry starts at offset `at`
  module _ (bytes : List ℕ) where
    abbrev left : ℕ → ℕ → ℕ → Checked
    left count job at = entries_check check size (count - job) job at (drop at bytes)

    entries_turn : (count job at n : ℕ) (rest : List ℕ) → job < count → rest ≡ drop at bytes → n ≡ size rest →
        left count job at ≡ and_then (check job at rest) (left count (job + 1) (at + n))
    unfolding entries_check
    entries_turn count job at n rest l e s =
        let k : count - job ≡ suc (count - (job + 1)) = omega arith in
        rw (k, ← e, s, ← drop-drop (size rest) at bytes, ← e, add-one job)

    pub entries_next : (all : Checked) (count job at n : ℕ) (rest : List ℕ) → job < count → rest ≡ drop at bytes → n ≡ size rest →
        check job at rest ≡ Ok tt → all ≡ left count job at → all ≡ left count (job + 1) (at + n)
    entries_next all count job at n rest l e s p q =
        q ∙ entries_turn count job at n rest l e s ∙ then_passes (check job at rest) (left count (job + 1) (at + n)) p

    pub entries_stop : (all : Checked) (count job at : ℕ) (rest : List ℕ) (r : Refusal) → job < count → rest ≡ drop at bytes →
        check job at rest ≡ Err r → all ≡ left count job at → Err r ≡ all
    entries_stop all count job at rest r l e p q =
        let n = size rest in
        sym (q ∙ entries_turn count job at n rest l e refl ∙ then_fails (check job at rest) (left count (job + 1) (at + n)) r p)

    pub entries_left_over : (all : Checked) (count job at : ℕ) → count ≤ job → at < length bytes → all ≡ left count job at →
        Err (LeftOver at) ≡ all
    unfolding entries_check
    entries_left_over all count job at l a q =
        let k : count - job ≡ 0 = omega arith in
        sym (q ∙ rw (k, ne_eqb (length (drop at bytes)) 0 (omega (arith, length-drop at bytes))))

    pub entries_end : (all : Checked) (count job at : ℕ) → count ≤ job → length bytes ≤ at → all ≡ left count job at → (Ok tt) ≡ all
    unfolding entries_check
    entries_end all count job at l a q =
        let k : count - job ≡ 0 = omega arith in
        sym (q ∙ rw (k, eq-eqb (length (drop at bytes)) 0 (omega (arith, length-drop at bytes))))

-- One field of each job

module _ (size : List ℕ → ℕ) (field : List ℕ → ℕ) where
  pub column_length : (k : ℕ) (bs : List ℕ) → length (column size field k bs) ≡ k
  unfolding column
  column_length zero bs = refl
  column_length (suc k) bs = ap suc (column_length k (drop (size bs) bs))

  -- a lent list with the field of the first jobs in it: what is left to store gives what all of it gives
  pub record ColumnTo (bytes lent : List ℕ) (count job at : ℕ) (xs : List ℕ) : Type 0 where
    pub same : length xs ≡ length lent
    pub stored : sets lent 0 (column size field count (drop header_length bytes)) ≡ sets xs job (column size field (count - job) (drop at bytes))

  module _ (bytes : List ℕ) where
    column_turn : (count job at n : ℕ) (rest : List ℕ) → job < count → rest ≡ drop at bytes → n ≡ size rest →
        column size field (count - job) (drop at bytes) ≡ field rest ∷ column size field (count - (job + 1)) (drop (at + n) bytes)
    unfolding column
    column_turn count job at n rest l e s =
        let k : count - job ≡ suc (count - (job + 1)) = omega arith in
        rw (k, ← e, s, ← drop-drop (size rest) at bytes, ← e)

    pub column_next : (lent xs : List ℕ) (count job at n value : ℕ) (rest : List ℕ) → job < count → rest ≡ drop at bytes → n ≡ size rest →
        value ≡ field rest → ColumnTo bytes lent count job at xs → ColumnTo bytes lent count (job + 1) (at + n) (set xs job value)
    column_next lent xs count job at n value rest l e s v q =
        record {
          same = length-set xs job value ∙ q.same;
          stored = q.stored ∙ rw (column_turn count job at n rest l e s, v, add-one job);
        }

    pub column_end : (lent xs : List ℕ) (count job at : ℕ) → count ≤ job → count ≤ length lent → ColumnTo bytes lent count job at xs →
        take count xs ≡ column size field count (drop header_length bytes)
    unfolding column
    column_end lent xs count job at l m q =
        let k : count - job ≡ 0 = omega arith in
        let all : List ℕ = column size field count (drop header_length bytes) in
        let n : length all ≡ count = column_length count (drop header_length bytes) in
        ap (take count) (sym (rw k at q.stored) ∙ sets-eq all lent 0 (omega arith)) ∙ take_at all (drop (0 + length all) lent) count n
