-- 02, card 4: a list that passes is laid out as its rows say, by the words of `specs/Theorems/LaidOut`.
use Prim.Native.Nat.{ℕ, zero, suc, ◌+◌, ◌≤◌, ◌<◌}
use Rattle.std.specs.Prelude.{◌≡◌, refl, get_or, take, Err, Ok, Result}
use Rattle.std.proofs.Math.Path.{ap, sym}
use Rattle.std.proofs.Common.{subst, ◌∙◌, arith, take_at}
use mathlib.Core.List.{List, [], ◌∷◌}
use Rattle.std.proofs.Math.ListN.{length, drop, length-drop}
use Rattle.std.proofs.Math.Seq.{drop-drop}
use Rattle.sched.specs.Jobs.{Jobs, jobs_of, count}
use Rattle.sched.specs.Checks.{Passes, length_check, check_of, job_check}
use Rattle.sched.proofs.Checks.Laws.{passed_passes, then_passed}
use Rattle.list_parts.specs.Header.{header_length, header_horizon, header_count}
use Rattle.list_parts.specs.Entries.{entry_map, release_of, deadline_of, volume_of, entry_size, known_maps, entry_check, entries_check, column}
use Rattle.list_parts.proofs.Laws.Entry.{GoodMap, GoodEntry, entry_passed}
use Rattle.list_parts.proofs.Laws.Walk.{entries_first, entries_none}
use Rattle.joblist.specs.Bytes.{spelling}
use Rattle.joblist.specs.Reading.{LentRoom, read_check, list_of, ReadPromise}
use Rattle.joblist.specs.Writing.{spell_check, Writing, written_if, writing, WritePromise}
use Rattle.joblist.proofs.Laws.RoundTrip.{map_again}
use Rattle.joblist.proofs.Laws.Input.{read_passed, read_passes}
use Rattle.joblist.proofs.Laws.Lists.{field_count, list_back, spelling_good}
use Rattle.joblist.specs.Theorems.EightMaps.{row_of, ReadBy}
use Rattle.joblist.proofs.Theorems.EightMaps.{eight_maps}
use Rattle.joblist.proofs.Theorems.Handed.{read_list}
use Rattle.joblist.specs.declared.ListHeader.{ListHeader}
use Rattle.joblist.specs.Theorems.LaidOut.{row_at, entry_start, JobAt, LaidOut}
use Rattle.sched.specs.declared.Refusal.{Refusal}
use Rattle.sched.specs.Refusals.{Checked}

read_known : (bs : List ℕ) → GoodMap known_maps bs → ReadBy (row_of (entry_map bs)) bs
read_known [] g = absurd (omega (arith, g.some))
read_known (m ∷ rest) g = (eight_maps m g.known).read rest

module _ (h : ℕ) (bytes : List ℕ) where
  abbrev Job : ℕ → ℕ → ℕ → Type 0
  Job k at i =
      JobAt h (get_or (column entry_size release_of k (drop at bytes)) i 0) (get_or (column entry_size (deadline_of h) k (drop at bytes)) i 0)
      (get_or (column entry_size volume_of k (drop at bytes)) i 0) bytes (entry_start bytes at i)

  -- k entries that pass
  laid_out : (k j at : ℕ) → at ≤ length bytes → entries_check (entry_check job_check h (length bytes)) entry_size k j at (drop at bytes) ≡ Ok tt →
      ((i : ℕ) → i < k → Job k at i) × (entry_start bytes at k ≡ length bytes)
  unfolding entry_start
  laid_out zero j at l e =
      let done = entries_none (entry_check job_check h (length bytes)) entry_size j at (drop at bytes) e in
      (λ i m. absurd (omega arith), omega (arith, ap length done, length-drop at bytes))
  laid_out (suc k) j at l e =
      let bs : List ℕ = drop at bytes in
      let first = entries_first (entry_check job_check h (length bytes)) entry_size k j at bs e in
      let g = entry_passed job_check h (length bytes) j at bs first.0 in
      let row = read_known bs g.map in
      let size = (eight_maps (entry_map bs) g.map.known).size in
      let more =
      laid_out k (suc j) (at + (row_at bytes at).size) (omega (arith, size, g.whole, length-drop at bytes))
      (rw (size, drop-drop (row_at bytes at).size at bytes) at first.1) in
      (jobs g row more, more.1)
    where
      jobs : GoodEntry job_check h j (drop at bytes) → ReadBy (row_at bytes at) (drop at bytes) →
          ((i : ℕ) → i < k → Job k (at + (row_at bytes at).size) i) × (entry_start bytes (at + (row_at bytes at).size) k ≡ length bytes) →
          (i : ℕ) → i < suc k → Job (suc k) at i
      jobs g row more zero m =
          let size = (eight_maps (entry_map (drop at bytes)) g.map.known).size in
          rw (row.reads release_of k, row.reads (deadline_of h) k, row.reads volume_of k)
          (record {
            map = sym (map_again h j (drop at bytes) g);
            inside = omega (arith, size, g.whole, length-drop at bytes);
            release = row.release;
            deadline = row.deadline h;
            volume = row.volume;
          })
      jobs g row more (suc i) m =
          rw (row.reads release_of k, row.reads (deadline_of h) k, row.reads volume_of k, drop-drop (row_at bytes at).size at bytes)
          (more.0 i (omega arith))

-- where the reader's checks pass, and so for the spelling of a list
check_laid_out : (bytes : List ℕ) (r d p : ℕ) → read_check bytes r d p ≡ Ok tt → LaidOut (list_of bytes) bytes
check_laid_out bytes r d p e =
    let g = read_passed bytes r d p e in
    let all = laid_out (header_horizon bytes) bytes (header_count bytes) 0 header_length g.header.long g.entries in
    let n = field_count bytes release_of in
    record { jobs = λ j l. all.0 j (rw n at l); end = rw n all.1 }

spelling_laid_out : (h q : ℕ) (rs ds ps : List ℕ) → Passes (jobs_of h q rs ds ps) → LaidOut (jobs_of h q rs ds ps) (spelling (jobs_of h q rs ds ps))
spelling_laid_out h q rs ds ps g =
    let J = jobs_of h q rs ds ps in
    let n = count J in
    let room : LentRoom n n n n = record { releases = omega arith; deadlines = omega arith; volumes = omega arith } in
    subst (λ (K : Jobs). LaidOut K (spelling J)) (list_back J refl g)
    (check_laid_out (spelling J) n n n (read_passes (spelling J) n n n (spelling_good J n n n g room)))

-- The theorem for `read`: where it takes the bytes, the jobs at the front of the three lists stand in them
pub read_laid_out : (bytes rs ds ps rs' ds' ps' : List ℕ) (list : ListHeader) → ReadPromise bytes rs ds ps (Ok list) rs' ds' ps' →
    LaidOut (jobs_of list.h list.q (take list.count rs') (take list.count ds') (take list.count ps')) bytes
read_laid_out bytes rs ds ps rs' ds' ps' list m =
    let l = read_list bytes rs ds ps rs' ds' ps' (Ok list) m list refl in
    subst (λ (J : Jobs). LaidOut J bytes) (sym l.jobs) (check_laid_out bytes (length rs) (length ds) (length ps) l.passed)

-- The theorem for `write`: the jobs of the list stand in the bytes that it writes
pub write_laid_out : (h q : ℕ) (rs ds ps out out' : List ℕ) (n : ℕ) → WritePromise (jobs_of h q rs ds ps) out (Ok n) out' →
    LaidOut (jobs_of h q rs ds ps) (take n out')
unfolding writing
write_laid_out h q rs ds ps out out' n m = by_check (spell_check J (length out)) refl
  where
    J : Jobs
    J = jobs_of h q rs ds ps

    writing_by : (c : Checked) → spell_check J (length out) ≡ c → writing J out ≡ written_if c J out
    writing_by c e = ap (λ (x : Checked). written_if x J out) e

    answered : (w : Writing) → writing J out ≡ w → Ok n ≡ w.answer
    answered w e = m.same ∙ ap (λ (x : Writing). x.answer) e

    by_check : (c : Checked) → spell_check J (length out) ≡ c → LaidOut J (take n out')
    by_check (Err r) e =
        let x : ◌≡◌ {A = (Result ℕ Refusal)} (Ok n) (Err r) = answered _ (writing_by (Err r) e) in
        let z : ◌≡◌ {A = ℕ} 0 1 = cc in
        absurd (omega arith)
    by_check (Ok tt) e =
        let w = writing_by (Ok tt) e in
        let a : Ok n ≡ Ok (length (spelling J)) = answered _ w in
        let size : length (spelling J) ≡ n = cc in
        let kept = m.kept ∙ ap (λ (x : Writing). x.out) w in
        let passes = passed_passes J (then_passed (check_of J) (length_check (length out) (length (spelling J))) e).0 in
        rw (kept, take_at (spelling J) (drop (length (spelling J)) out) n size) (spelling_laid_out h q rs ds ps passes)
