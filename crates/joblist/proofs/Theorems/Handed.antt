-- What a caller of `read` knows once it has the answer: what was refused, or that the first entries of the three lists are the jobs.
use Rattle.std.specs.Prelude.{ℕ, ◌≤◌, ◌≡◌, refl, List, ◌++◌, length, take, drop, Err, Ok, Result}
use Rattle.std.proofs.Common.{sym, ◌∙◌, arith, length-take, take_at}
use Rattle.std.proofs.Math.Path.{ap}
use Rattle.sched.specs.declared.Refusal.{Refusal}
use Rattle.sched.specs.Jobs.{jobs_of}
use Rattle.list_parts.specs.Header.{header_length, header_horizon, header_wake, header_count}
use Rattle.list_parts.specs.Entries.{entry_size, release_of, deadline_of, volume_of, column}
use Rattle.list_parts.proofs.Laws.Walk.{column_length}
use Rattle.joblist.specs.Reading.{read_check, list_of, Reading, read_if, reading, ReadPromise}
use Rattle.joblist.proofs.Laws.Input.{read_passed}
use Rattle.joblist.proofs.Laws.Lists.{same_list}
use Rattle.joblist.specs.declared.ListHeader.{ListHeader}
use Rattle.sched.specs.Refusals.{Checked}

-- a list was read: its check, and the parts of the three lists that hold the jobs
pub record ReadList (bytes : List ℕ) (check : Checked) (header : ListHeader) (rs ds ps : List ℕ) : Type 0 where
  pub passed : check ≡ Ok tt
  pub jobs : jobs_of header.h header.q (take header.count rs) (take header.count ds) (take header.count ps) ≡ list_of bytes
  pub high : header.h ≤ 4096
  pub releases : header.count ≤ length rs
  pub deadlines : header.count ≤ length ds
  pub volumes : header.count ≤ length ps

read_not_refused : {A : Type 0} (header : ListHeader) (r : Refusal) → ◌≡◌ {A = (Result ListHeader Refusal)} (Ok header) (Err r) → A
read_not_refused header r e = let z : ◌≡◌ {A = ℕ} 0 1 = cc in absurd (omega arith)

-- one field of the jobs stands at the front of its list
module _ (bytes : List ℕ) (field : List ℕ → ℕ) (old new : List ℕ)
    (e : new ≡ column entry_size field (header_count bytes) (drop header_length bytes) ++ drop (header_count bytes) old) where
  front : take (header_count bytes) new ≡ column entry_size field (header_count bytes) (drop header_length bytes)
  front =
      ap (take (header_count bytes)) e
      ∙ take_at (column entry_size field (header_count bytes) (drop header_length bytes)) (drop (header_count bytes) old) (header_count bytes)
      (column_length entry_size field (header_count bytes) (drop header_length bytes))

  long : header_count bytes ≤ length new
  long =
      omega (arith, length-take (header_count bytes) new, ap length front, column_length entry_size field (header_count bytes) (drop header_length bytes))

module _ (bytes rs ds ps rs' ds' ps' : List ℕ) (answer : Result ListHeader Refusal) (m : ReadPromise bytes rs ds ps answer rs' ds' ps') where
  abbrev check : Checked
  check = read_check bytes (length rs) (length ds) (length ps)

  reading_by : (c : Checked) → check ≡ c → reading bytes rs ds ps ≡ read_if c bytes rs ds ps
  unfolding reading
  reading_by c p = ap (λ (x : Checked). read_if x bytes rs ds ps) p

  told_by : (c : Checked) → check ≡ c → answer ≡ (read_if c bytes rs ds ps).answer
  told_by c p = m.same ∙ ap (λ (x : Reading). x.answer) (reading_by c p)

  accepted_list : (header : ListHeader) → answer ≡ Ok header → check ≡ Ok tt → ReadList bytes check header rs' ds' ps'
  accepted_list header e p =
      let t = sym e ∙ told_by (Ok tt) p in
      let same : header ≡ record { h = header_horizon bytes; q = header_wake bytes; count = header_count bytes } = cc in
      let a = reading_by (Ok tt) p in
      let g = read_passed bytes (length rs) (length ds) (length ps) p in
      let r = m.releases ∙ ap (λ (x : Reading). x.releases) a in
      let d = m.deadlines ∙ ap (λ (x : Reading). x.deadlines) a in
      let v = m.volumes ∙ ap (λ (x : Reading). x.volumes) a in
      record {
        passed = p;
        jobs =
            ap (λ (l : ListHeader). jobs_of l.h l.q (take l.count rs') (take l.count ds') (take l.count ps')) same
            ∙ same_list _ (list_of bytes) refl refl refl (front bytes release_of rs rs' r) (front bytes (deadline_of (header_horizon bytes)) ds ds' d)
            (front bytes volume_of ps ps' v);
        high = rw same g.header.high;
        releases = rw same (long bytes release_of rs rs' r);
        deadlines = rw same (long bytes (deadline_of (header_horizon bytes)) ds ds' d);
        volumes = rw same (long bytes volume_of ps ps' v);
      }

  pub read_list : (header : ListHeader) → answer ≡ Ok header → ReadList bytes check header rs' ds' ps'
  read_list header e = by_check check refl
    where
      by_check : (c : Checked) → check ≡ c → ReadList bytes check header rs' ds' ps'
      by_check (Ok tt) p = accepted_list header e p
      by_check (Err r) p = read_not_refused header r (sym e ∙ told_by (Err r) p)

  pub refused_list : (r : Refusal) → answer ≡ Err r → check ≡ Err r
  refused_list r e = by_check check refl
    where
      by_check : (c : Checked) → check ≡ c → check ≡ Err r
      by_check (Ok tt) p = read_not_refused _ r (sym (sym e ∙ told_by (Ok tt) p))
      by_check (Err x) p =
          let t = sym e ∙ told_by (Err x) p in
          let same : x ≡ r = cc in
          p ∙ ap Err same
