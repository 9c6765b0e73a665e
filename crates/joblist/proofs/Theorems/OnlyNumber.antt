-- 02, card 1, "Say which job field is bad": all that the card changed in what the reader answers. What it leaves in the lent lists is the same
-- as before the card, for every input.
use Rattle.std.specs.Prelude.{ℕ, zero, suc, ◌+◌, ◌≡◌, refl, not, List, length, drop, eqb, Err, Ok}
use Rattle.std.proofs.Common.{sym, subst}
use Rattle.sched.specs.Checks.{refuse_if, and_then, job_check}
use Rattle.sched.proofs.Theorems.OnlyNumber.{job_check_before, OnlyNumber, coarse, coarse_number, accepted_same, other_same, then_coarse, job_coarse}
use Rattle.sched.specs.declared.Refusal.TheVariants.{LeftOver}
use Rattle.list_parts.specs.Header.{header_length, header_horizon, header_count, header_check}
use Rattle.list_parts.specs.Entries.{entry_size, release_of, deadline_of, volume_of, known_maps, map_check, whole_check, redundancy_check, fault_check}
use Rattle.list_parts.specs.Entries.{entry_check, entries_check}
use Rattle.joblist.specs.Reading.{lent_check, behind_header, input_check, read_check, Reading, read_if, reading, read_number, read_values}
use Rattle.joblist.proofs.Theorems.FaultyField.{other_map, other_whole, other_redundancy, other_left, other_header, other_lent}
use Rattle.sched.specs.Refusals.{Checked}

-- the reader before the card, here to be compared with
abbrev pub reading_before : List ℕ → List ℕ → List ℕ → List ℕ → Reading
reading_before bytes rs ds ps = read_if (input_check job_check_before bytes (length rs) (length ds) (length ps)) bytes rs ds ps

-- two readings of the same bytes: of the answer only the number of a faulty job changes, and no list does
pub record SameButNumber (before now : Reading) : Type 0 where
  pub answer : OnlyNumber (read_number before.answer) (read_number now.answer) (read_values before.answer) (read_values now.answer)
  pub releases : before.releases ≡ now.releases
  pub deadlines : before.deadlines ≡ now.deadlines
  pub volumes : before.volumes ≡ now.volumes

-- The checks before the job's own are as they were, since they refuse no job (`FaultyField`)

entry_coarse : (h n j at : ℕ) (bs : List ℕ) → entry_check job_check_before h n j at bs ≡ coarse (entry_check job_check h n j at bs)
unfolding entry_check
entry_coarse h n j at bs =
    let map = map_check known_maps n at bs in
    let whole = whole_check (entry_size bs) n bs in
    let fresh = redundancy_check h at bs in
    let before = fault_check job_check_before h j bs in
    let now = fault_check job_check h j bs in
    then_coarse map (and_then whole (and_then fresh before)) map (and_then whole (and_then fresh now)) (other_same map (other_map n at bs))
    (then_coarse whole (and_then fresh before) whole (and_then fresh now)
    (other_same whole (other_whole n bs))
    (then_coarse fresh before fresh now (other_same fresh (other_redundancy h at bs)) (job_coarse h j (release_of bs) (deadline_of h bs) (volume_of bs))))

entries_coarse : (h n k j at : ℕ) (bs : List ℕ) →
    entries_check (entry_check job_check_before h n) entry_size k j at bs ≡ coarse (entries_check (entry_check job_check h n) entry_size k j at bs)
unfolding entries_check
entries_coarse h n zero j at bs = other_same (refuse_if (not (eqb (length bs) 0)) (LeftOver at) (Ok tt)) (other_left at bs)
entries_coarse h n (suc k) j at bs =
    let next = at + entry_size bs in
    let rest = drop (entry_size bs) bs in
    then_coarse (entry_check job_check_before h n j at bs) (entries_check (entry_check job_check_before h n) entry_size k (suc j) next rest)
    (entry_check job_check h n j at bs) (entries_check (entry_check job_check h n) entry_size k (suc j) next rest)
    (entry_coarse h n j at bs) (entries_coarse h n k (suc j) next rest)

-- The whole input

input_coarse : (bytes : List ℕ) (r d p : ℕ) → input_check job_check_before bytes r d p ≡ coarse (read_check bytes r d p)
input_coarse bytes r d p =
    let h = header_horizon bytes in
    let count = header_count bytes in
    let header = header_check bytes in
    let lent = lent_check count r d p in
    let before = behind_header job_check_before h count bytes in
    let now = behind_header job_check h count bytes in
    then_coarse header (and_then lent before) header (and_then lent now) (other_same header (other_header bytes))
    (then_coarse lent before lent now (other_same lent (other_lent count r d p))
    (entries_coarse h (length bytes) count 0 header_length (drop header_length bytes)))

-- The theorem, for every input and all lent lists
pub reading_only_number : (bytes rs ds ps : List ℕ) → SameButNumber (reading_before bytes rs ds ps) (reading bytes rs ds ps)
unfolding reading
reading_only_number bytes rs ds ps =
    subst (λ (c : Checked). SameButNumber (read_if c bytes rs ds ps) (read_if now bytes rs ds ps))
    (sym (input_coarse bytes (length rs) (length ds) (length ps))) (by now)
  where
    now : Checked
    now = read_check bytes (length rs) (length ds) (length ps)

    by : (c : Checked) → SameButNumber (read_if (coarse c) bytes rs ds ps) (read_if c bytes rs ds ps)
    by (Ok tt) = record { answer = accepted_same _; releases = refl; deadlines = refl; volumes = refl }
    by (Err r) = record { answer = coarse_number (Err r); releases = refl; deadlines = refl; volumes = refl }
