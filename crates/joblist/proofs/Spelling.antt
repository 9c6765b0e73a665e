-- The bytes of a list, stored one part after the other.
use Prim.Native.Nat.{ℕ, ◌+◌, ◌≤◌, ◌<◌}
use mathlib.Core.Path.{◌≡◌, ap, ◌∙◌, sym}
use mathlib.Core.List.{List, [], ◌++◌}
use native.Mathlib.Numerals.{add-one}
use native.Mathlib.Omega.{arith}
use lib.ListN.{length, get_or, drop, length-append, drop_of_length-le}
use lib.Seq.{drop-cons, sets}
use Rattle.sched.specs.Jobs.{Jobs}
use Rattle.sched.specs.Buffers.{PutAt}
use Rattle.sched.proofs.Buffers.Laws.{sets_append, put_length}
use Rattle.list_parts.specs.Header.{header_length, header}
use Rattle.list_parts.specs.Layout.{entry_bytes}
use Rattle.joblist.specs.Bytes.{entries_bytes, spelling}
use Rattle.joblist.specs.Parts.{EqualLists}

-- Entries, job by job

module _ (h : ℕ) (rs ds ps : List ℕ) (same : EqualLists rs ds ps) where
  pub entries_turn : (j : ℕ) → j < length rs →
      entries_bytes h (drop j rs) (drop j ds) (drop j ps) ≡
      entry_bytes h (get_or rs j 0) (get_or ds j 0) (get_or ps j 0) ++ entries_bytes h (drop (j + 1) rs) (drop (j + 1) ds) (drop (j + 1) ps)
  unfolding entries_bytes
  entries_turn j l =
      rw (drop-cons rs j 0 l, drop-cons ds j 0 (omega (arith, same.deadlines)), drop-cons ps j 0 (omega (arith, same.volumes)), add-one j)

  pub entries_none : (j : ℕ) → length rs ≤ j → entries_bytes h (drop j rs) (drop j ds) (drop j ps) ≡ []
  unfolding entries_bytes
  entries_none j l = rw (drop_of_length-le rs l)

  pub length_turn : (all n size j : ℕ) → j < length rs → size ≡ length (entry_bytes h (get_or rs j 0) (get_or ds j 0) (get_or ps j 0)) →
      n + length (entries_bytes h (drop j rs) (drop j ds) (drop j ps)) ≡ all →
      n + size + length (entries_bytes h (drop (j + 1) rs) (drop (j + 1) ds) (drop (j + 1) ps)) ≡ all
  length_turn all n size j l e q =
      let t = ap length (entries_turn j l) ∙ length-append (entry_bytes h (get_or rs j 0) (get_or ds j 0) (get_or ps j 0))
      (entries_bytes h (drop (j + 1) rs) (drop (j + 1) ds) (drop (j + 1) ps)) in
      omega (arith, t)

  pub length_end : (all n j : ℕ) → length rs ≤ j → n + length (entries_bytes h (drop j rs) (drop j ds) (drop j ps)) ≡ all → n ≡ all
  length_end all n j l q = omega (arith, ap length (entries_none j l))

-- the buffer with the entries of the first jobs in it: what is left to store gives what all of it gives
pub record Stored (h : ℕ) (rs ds ps out₀ : List ℕ) (job at : ℕ) (out : List ℕ) : Type 0 where
  pub same : length out ≡ length out₀
  pub room : at + length (entries_bytes h (drop job rs) (drop job ds) (drop job ps)) ≤ length out₀
  pub stored : sets out₀ header_length (entries_bytes h rs ds ps) ≡ sets out at (entries_bytes h (drop job rs) (drop job ds) (drop job ps))

module _ (h : ℕ) (rs ds ps out₀ : List ℕ) (same : EqualLists rs ds ps) where
  pub stored_room : (job at : ℕ) (out : List ℕ) → job < length rs → Stored h rs ds ps out₀ job at out →
      at + length (entry_bytes h (get_or rs job 0) (get_or ds job 0) (get_or ps job 0)) ≤ length out
  stored_room job at out l q =
      let here = entry_bytes h (get_or rs job 0) (get_or ds job 0) (get_or ps job 0) in
      let rest = entries_bytes h (drop (job + 1) rs) (drop (job + 1) ds) (drop (job + 1) ps) in
      omega (arith, q.room, q.same, ap length (entries_turn h rs ds ps same job l), length-append here rest)

  pub stored_next : (job at end : ℕ) (out out' : List ℕ) → job < length rs →
      PutAt out at (entry_bytes h (get_or rs job 0) (get_or ds job 0) (get_or ps job 0)) end out' → Stored h rs ds ps out₀ job at out →
      Stored h rs ds ps out₀ (job + 1) end out'
  stored_next job at end out out' l f q =
      let t = entries_turn h rs ds ps same job l in
      let here = entry_bytes h (get_or rs job 0) (get_or ds job 0) (get_or ps job 0) in
      let rest = entries_bytes h (drop (job + 1) rs) (drop (job + 1) ds) (drop (job + 1) ps) in
      record {
        same = put_length out out' here at end f ∙ q.same;
        room = omega (arith, q.room, f.next, ap length t, length-append here rest);
        stored = q.stored ∙ rw (t, sets_append here rest out at, ← f.stored, ← f.next);
      }

  pub stored_end : (job at : ℕ) (out : List ℕ) → length rs ≤ job → Stored h rs ds ps out₀ job at out →
      out ≡ sets out₀ header_length (entries_bytes h rs ds ps)
  stored_end job at out l q = sym (q.stored ∙ ap (λ (xs : List ℕ). sets out at xs) (entries_none h rs ds ps same job l))

-- The whole list

pub spelling_length : (J : Jobs) → length (spelling J) ≡ header_length + length (entries_bytes J.horizon J.releases J.deadlines J.volumes)
unfolding spelling
spelling_length J = omega arith

pub put_spelling : (J : Jobs) (out out₁ out₂ : List ℕ) → out₁ ≡ sets out 0 (header J) →
    out₂ ≡ sets out₁ header_length (entries_bytes J.horizon J.releases J.deadlines J.volumes) → out₂ ≡ sets out 0 (spelling J)
unfolding spelling
put_spelling J out out₁ out₂ e f = f ∙ rw e
