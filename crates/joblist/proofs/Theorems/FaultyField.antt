-- 02, card 1, "Say which job field is bad": when an entry is refused for its job, and which job and field the reader names.
use Rattle.std.specs.Prelude.{ℕ, zero, suc, ◌+◌, ◌≤◌, ◌<◌, ◌≡◌, refl, Bool, not, List, [], ◌∷◌, ◌↔◌, length, get_or, drop, leb, ltb, eqb, Err, Ok}
use Rattle.std.proofs.Common.{ap, sym, subst, ◌∙◌, inl, inr, arith}
use Rattle.sched.specs.Checks.{GoodJob, refuse_if, and_then, horizon_check, count_check, length_check, job_check, checked_number, checked_values}
use Rattle.sched.proofs.Checks.Laws.{job_good, then_fails, then_passes}
use Rattle.sched.proofs.Theorems.RefusesJob.{JobFaultNumber, RefusesJob, not_job, past_then, other_if}
use Rattle.sched.proofs.Theorems.FaultyField.{NamesField, FaultyJob, job_names_field}
use Rattle.sched.proofs.Theorems.RefusesJob.{other_then, other_passed, other_horizon, other_count, other_length, before_then}
use Rattle.sched.proofs.Theorems.FaultyField.{own_values, job_refused}
use Rattle.sched.specs.declared.Refusal.TheVariants.{Truncated, UnknownBit, Redundant, LeftOver}
use Rattle.list_parts.specs.Header.{header_length, header_horizon, header_count, header_check}
use Rattle.list_parts.specs.Layout.{absent_release, absent_deadline, absent_volume, has_release, has_deadline, has_volume, release_at, deadline_at, volume_at}
use Rattle.list_parts.specs.Entries.{entry_map, entry_size, release_of, deadline_of, volume_of, known_maps, map_check, whole_check, redundant, field_check}
use Rattle.list_parts.specs.Entries.{redundancy_check, fault_check, entry_check, entries_check, column}
use Rattle.list_parts.proofs.Laws.Entry.{GoodMap, FreshFields, map_passed, map_passes, whole_passed, whole_passes, redundancy_passed}
use Rattle.list_parts.proofs.Laws.Entry.{redundancy_passes, entry_passed}
use Rattle.joblist.specs.Reading.{lent_check, behind_header, read_check, list_of}
use Rattle.joblist.proofs.Laws.Lists.{field_count}
use Rattle.sched.specs.Refusals.{Checked}

-- The checks of an entry before the job's own give another number

eleven : JobFaultNumber 11 → ⊥
eleven = not_job 11 (inl (omega arith))

pub other_map : (n at : ℕ) (bs : List ℕ) → RefusesJob (map_check known_maps n at bs) → ⊥
unfolding map_check
other_map n at bs =
    other_if (eqb (length bs) 0) (Truncated n) (refuse_if (leb known_maps (entry_map bs)) (UnknownBit at) (Ok tt)) eleven
    (other_if (leb known_maps (entry_map bs)) (UnknownBit at) (Ok tt) (not_job 13 (inl (omega arith))) other_passed)

other_field : (stands : Bool) (absent place at : ℕ) (bs : List ℕ) → RefusesJob (field_check stands absent place at bs) → ⊥
other_field stands absent place at bs =
    other_if (redundant stands absent (drop place bs)) (Redundant (at + place)) (Ok tt) (not_job 14 (inl (omega arith))) other_passed

pub other_whole : (n : ℕ) (bs : List ℕ) → RefusesJob (whole_check (entry_size bs) n bs) → ⊥
other_whole n bs = other_if (ltb (length bs) (entry_size bs)) (Truncated n) (Ok tt) eleven other_passed

pub other_redundancy : (h at : ℕ) (bs : List ℕ) → RefusesJob (redundancy_check h at bs) → ⊥
unfolding redundancy_check
other_redundancy h at bs =
    let map = entry_map bs in
    let first = field_check (has_release map) absent_release release_at at bs in
    let second = field_check (has_deadline map) (absent_deadline h) (deadline_at map) at bs in
    let third = field_check (has_volume map) absent_volume (volume_at map) at bs in
    other_then first (and_then second third) (other_field (has_release map) absent_release release_at at bs)
    (other_then second third (other_field (has_deadline map) (absent_deadline h) (deadline_at map) at bs)
    (other_field (has_volume map) absent_volume (volume_at map) at bs))

along : {c d : Checked} → c ≡ d → RefusesJob c → RefusesJob d
along e = subst RefusesJob e

-- so an entry with a faulty job answers with the job's own check
entry_own : (h n j at : ℕ) (bs : List ℕ) → RefusesJob (entry_check job_check h n j at bs) → entry_check job_check h n j at bs ≡ fault_check job_check h j bs
unfolding entry_check
entry_own h n j at bs f =
    let whole = whole_check (entry_size bs) n bs in
    let fresh = redundancy_check h at bs in
    let own = fault_check job_check h j bs in
    let a = past_then (map_check known_maps n at bs) (and_then whole (and_then fresh own)) (other_map n at bs) f in
    let b = past_then whole (and_then fresh own) (other_whole n bs) (along a f) in
    a ∙ b ∙ past_then fresh own (other_redundancy h at bs) (along (a ∙ b) f)

-- what is looked at before the job is in order
pub record ReadyEntry (h : ℕ) (bs : List ℕ) : Type 0 where
  pub map : GoodMap known_maps bs
  pub whole : entry_size bs ≤ length bs
  pub fields : FreshFields h bs

-- "where 15 stood", after 14: an entry is refused for its job exactly when all that is looked at before is in order and the job is faulty
pub entry_refuses_job : (h n j at : ℕ) (bs : List ℕ) →
    RefusesJob (entry_check job_check h n j at bs) ↔ (ReadyEntry h bs × (GoodJob h (release_of bs) (deadline_of h bs) (volume_of bs) → ⊥))
unfolding entry_check
entry_refuses_job h n j at bs = (λ f. (ready f, (job_refused h j r d p).0 (along (entry_own h n j at bs f) f)), refuses)
  where
    r : ℕ
    r = release_of bs

    d : ℕ
    d = deadline_of h bs

    p : ℕ
    p = volume_of bs

    map : Checked
    map = map_check known_maps n at bs

    whole : Checked
    whole = whole_check (entry_size bs) n bs

    fresh : Checked
    fresh = redundancy_check h at bs

    own : Checked
    own = fault_check job_check h j bs

    ready : RefusesJob (entry_check job_check h n j at bs) → ReadyEntry h bs
    ready f =
        let f₁ = along (past_then map (and_then whole (and_then fresh own)) (other_map n at bs) f) f in
        let f₂ = along (past_then whole (and_then fresh own) (other_whole n bs) f₁) f₁ in
        record {
          map = map_passed known_maps n at bs (before_then map (and_then whole (and_then fresh own)) (other_map n at bs) f);
          whole = whole_passed (entry_size bs) n bs (before_then whole (and_then fresh own) (other_whole n bs) f₁);
          fields = redundancy_passed h at bs (before_then fresh own (other_redundancy h at bs) f₂);
        }

    refuses : ReadyEntry h bs × (GoodJob h r d p → ⊥) → RefusesJob (entry_check job_check h n j at bs)
    refuses (ok, bad) =
        along
        (sym
        (then_passes map (and_then whole (and_then fresh own)) (map_passes known_maps n at bs ok.map)
        ∙ then_passes whole (and_then fresh own) (whole_passes (entry_size bs) n bs ok.whole)
        ∙ then_passes fresh own (redundancy_passes h at bs ok.fields)))
        ((job_refused h j r d p).1 bad)

-- The walk: of the k entries from job j on one is refused, entry i of them

pub other_left : (at : ℕ) (bs : List ℕ) → RefusesJob (refuse_if (not (eqb (length bs) 0)) (LeftOver at) (Ok tt)) → ⊥
other_left at bs = other_if (not (eqb (length bs) 0)) (LeftOver at) (Ok tt) (not_job 16 (inr (omega arith, omega arith))) other_passed

record Met (k j h : ℕ) (bs : List ℕ) (c : Checked) : Type 0 where
  i : ℕ
  job : ℕ
  is : job ≡ j + i
  to : i < k
  lower : (m : ℕ) → m < i →
      GoodJob h (get_or (column entry_size release_of k bs) m 0) (get_or (column entry_size (deadline_of h) k bs) m 0) (get_or (column entry_size volume_of k bs) m 0)
  own : c ≡
      job_check h job (get_or (column entry_size release_of k bs) i 0) (get_or (column entry_size (deadline_of h) k bs) i 0)
      (get_or (column entry_size volume_of k bs) i 0)

entries_met : (h n k j at : ℕ) (bs : List ℕ) → RefusesJob (entries_check (entry_check job_check h n) entry_size k j at bs) →
    Met k j h bs (entries_check (entry_check job_check h n) entry_size k j at bs)
unfolding entries_check column
entries_met h n zero j at bs f = absurd (other_left at bs f)
entries_met h n (suc k) j at bs f = go here refl (λ g. entries_met h n k (suc j) (at + entry_size bs) (drop (entry_size bs) bs) g)
  where
    here : Checked
    here = entry_check job_check h n j at bs

    rest : Checked
    rest = entries_check (entry_check job_check h n) entry_size k (suc j) (at + entry_size bs) (drop (entry_size bs) bs)

    Good : ℕ → Type 0
    Good m =
        GoodJob h (get_or (column entry_size release_of (suc k) bs) m 0) (get_or (column entry_size (deadline_of h) (suc k) bs) m 0)
        (get_or (column entry_size volume_of (suc k) bs) m 0)

    below : (i : ℕ) → Good 0 → ((m : ℕ) → m < i → Good (suc m)) → (m : ℕ) → m < suc i → Good m
    below i first later zero l = first
    below i first later (suc m) l = later m (omega arith)

    go : (c : Checked) → here ≡ c → (RefusesJob rest → Met k (suc j) h (drop (entry_size bs) bs) rest) → Met (suc k) j h bs (and_then here rest)
    go (Err x) e later =
        let stops = then_fails here rest x e in
        record {
          i = 0;
          job = j;
          is = omega arith;
          to = omega arith;
          lower = λ m l. absurd (omega arith);
          own = stops ∙ sym e ∙ entry_own h n j at bs (along (stops ∙ sym e) f);
        }
    go (Ok tt) e later =
        let m = later (along (then_passes here rest e) f) in
        let first = job_good h j (release_of bs) (deadline_of h bs) (volume_of bs) (entry_passed job_check h n j at bs e).job in
        record {
          i = suc m.i;
          job = m.job;
          is = omega (arith, m.is);
          to = omega (arith, m.to);
          lower = below m.i first m.lower;
          own = then_passes here rest e ∙ m.own;
        }

-- The whole input

pub other_header : (bytes : List ℕ) → RefusesJob (header_check bytes) → ⊥
other_header bytes =
    let horizon = horizon_check (header_horizon bytes) in
    let count = count_check (header_count bytes) in
    other_if (ltb (length bytes) header_length) (Truncated (length bytes)) (and_then horizon count) eleven
    (other_then horizon count (other_horizon (header_horizon bytes)) (other_count (header_count bytes)))

pub other_lent : (n r d p : ℕ) → RefusesJob (lent_check n r d p) → ⊥
other_lent n r d p =
    other_then (length_check r n) (and_then (length_check d n) (length_check p n)) (other_length r n)
    (other_then (length_check d n) (length_check p n) (other_length d n) (other_length p n))

-- The theorem: where the reader refuses a job, it is the lowest faulty one of the list that the bytes stand for, and the number names its field.
-- Here r, d and p are the lengths of the lent lists.
pub read_faulty_job : (bytes : List ℕ) (r d p : ℕ) → RefusesJob (read_check bytes r d p) →
    FaultyJob (header_horizon bytes) (list_of bytes).releases (list_of bytes).deadlines (list_of bytes).volumes (read_check bytes r d p)
read_faulty_job bytes r d p f =
    let h = header_horizon bytes in
    let count = header_count bytes in
    let rest : List ℕ = drop header_length bytes in
    let entries : Checked = behind_header job_check h count bytes in
    let lent = lent_check count r d p in
    let a = past_then (header_check bytes) (and_then lent entries) (other_header bytes) f in
    let e = a ∙ past_then lent entries (other_lent count r d p) (along a f) in
    let m = entries_met h (length bytes) count 0 header_length rest (along e f) in
    let job : m.job ≡ m.i = omega (arith, m.is) in
    let r' = get_or (list_of bytes).releases m.i 0 in
    let d' = get_or (list_of bytes).deadlines m.i 0 in
    let p' = get_or (list_of bytes).volumes m.i 0 in
    record {
      job = m.i;
      values = ap checked_values e ∙ own_values h m.job r' d' p' entries m.own (along e f) ∙ ap (λ (x : ℕ). x ∷ []) job;
      there = omega (arith, m.to, field_count bytes release_of);
      lower = m.lower;
      names = subst (λ (c : Checked). NamesField h r' d' p' (checked_number c)) (sym (e ∙ m.own)) (job_names_field h m.job r' d' p');
    }
