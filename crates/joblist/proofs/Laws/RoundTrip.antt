-- Entries and whole lists, written and read back, and read and written again.
use Rattle.std.specs.Prelude.{ℕ, zero, suc, ◌<◌, ◌≡◌, refl, Bool, List, [], ◌∷◌, ◌++◌, length, get_or, drop, Ok}
use Rattle.std.proofs.Common.{ap, ◌∙◌, append_assoc, arith, length-drop, drop-drop}
use Rattle.sched.specs.TwoBytes.{AreBytes}
use Rattle.sched.proofs.TwoBytes.Laws.{are_bytes_drop}
use Rattle.sched.specs.Checks.{GoodJob, job_check}
use Rattle.sched.proofs.Checks.Laws.{then_passes, job_good, job_passes}
use Rattle.list_parts.specs.Layout.{absent_release, absent_deadline, absent_volume, has_release, has_deadline, has_volume, map_byte, width, release_at}
use Rattle.list_parts.specs.Layout.{deadline_at, volume_at, stands, bytes_if, job_map, entry_bytes}
use Rattle.list_parts.specs.Entries.{entry_map, entry_size, release_of, deadline_of, volume_of, entry_check, entries_check, column}
use Rattle.list_parts.proofs.Laws.Maps.{bits_again, length_is}
use Rattle.list_parts.proofs.Laws.Walk.{entries_first, entries_none}
use Rattle.list_parts.proofs.Laws.Entry.{GoodEntry, entry_passed, entry_passes}
use Rattle.list_parts.proofs.Laws.Fields.{layout, layout_read, value_back, field_fresh, stands_again, bytes_again}
use Rattle.joblist.specs.Bytes.{entries_bytes}

-- what reading the entry of a job finds, whatever follows it
pub record EntryBack (h r d p : ℕ) (bs rest : List ℕ) : Type 0 where
  pub release : release_of bs ≡ r
  pub deadline : deadline_of h bs ≡ d
  pub volume : volume_of bs ≡ p
  pub rest_back : drop (entry_size bs) bs ≡ rest
  pub good : (j : ℕ) → GoodJob h r d p → GoodEntry job_check h j bs

same_check : (h j r' d' p' r d p : ℕ) → r' ≡ r → d' ≡ d → p' ≡ p → job_check h j r d p ≡ Ok tt → job_check h j r' d' p' ≡ Ok tt
same_check h j r' d' p' r d p e f g q = rw (e, f, g) q

layout_back : (h r d p : ℕ) (rest : List ℕ) →
    EntryBack h r d p (layout (stands absent_release r) (stands (absent_deadline h) d) (stands absent_volume p) r d p rest) rest
layout_back h r d p rest =
    let a = stands absent_release r in
    let b = stands (absent_deadline h) d in
    let c = stands absent_volume p in
    let third : List ℕ = bytes_if c p ++ rest in
    let second : List ℕ = bytes_if b d ++ third in
    let bs : List ℕ = layout a b c r d p rest in
    let t = layout_read a b c r d p rest in
    let release : release_of bs ≡ r = rw t.release (value_back absent_release r second) in
    let deadline : deadline_of h bs ≡ d = rw (t.deadline, t.second) (value_back (absent_deadline h) d third) in
    let volume : volume_of bs ≡ p = rw (t.volume, t.third) (value_back absent_volume p rest) in
    record {
      release = release;
      deadline = deadline;
      volume = volume;
      rest_back = t.last;
      good = λ j g.
          record {
            map = record { some = omega arith; known = t.known };
            whole = t.whole;
            fields =
                record {
                  release = rw t.release (field_fresh absent_release r second);
                  deadline = rw (t.deadline, t.second) (field_fresh (absent_deadline h) d third);
                  volume = rw (t.volume, t.third) (field_fresh absent_volume p rest);
                };
            job = same_check h j _ _ _ r d p release deadline volume (job_passes h j r d p g);
          };
    }

pub entry_back : (h r d p : ℕ) (rest : List ℕ) → EntryBack h r d p (entry_bytes h r d p ++ rest) rest
unfolding entry_bytes
entry_back h r d p rest =
    rw (append_assoc, append_assoc) (layout_back h r d p rest)

-- what reading the entries of a list finds
pub record EntriesBack (h : ℕ) (rs ds ps : List ℕ) : Type 0 where
  pub releases : column entry_size release_of (length rs) (entries_bytes h rs ds ps) ≡ rs
  pub deadlines : column entry_size (deadline_of h) (length rs) (entries_bytes h rs ds ps) ≡ ds
  pub volumes : column entry_size volume_of (length rs) (entries_bytes h rs ds ps) ≡ ps
  pub passed : (n j at : ℕ) → entries_check (entry_check job_check h n) entry_size (length rs) j at (entries_bytes h rs ds ps) ≡ Ok tt

-- a list's entries are read back, one job after the other
pub entries_back : (h : ℕ) (rs ds ps : List ℕ) → length ds ≡ length rs → length ps ≡ length rs →
    ((i : ℕ) → i < length rs → GoodJob h (get_or rs i 0) (get_or ds i 0) (get_or ps i 0)) → EntriesBack h rs ds ps
unfolding entries_bytes column entries_check
entries_back h [] [] [] e f g = record { releases = refl; deadlines = refl; volumes = refl; passed = λ n j at. refl }
entries_back h [] (d ∷ ds) ps e f g = absurd (omega arith)
entries_back h [] [] (p ∷ ps) e f g = absurd (omega arith)
entries_back h (r ∷ rs) [] ps e f g = absurd (omega arith)
entries_back h (r ∷ rs) (d ∷ ds) [] e f g = absurd (omega arith)
entries_back h (r ∷ rs) (d ∷ ds) (p ∷ ps) e f g =
    let more = entries_back h rs ds ps (omega arith) (omega arith) (λ i l. g (suc i) (omega arith)) in
    let b = entry_back h r d p (entries_bytes h rs ds ps) in
    record {
      releases = rw (b.release, b.rest_back, more.releases);
      deadlines = rw (b.deadline, b.rest_back, more.deadlines);
      volumes = rw (b.volume, b.rest_back, more.volumes);
      passed = λ n j at.
          then_passes (entry_check job_check h n j at (entry_bytes h r d p ++ entries_bytes h rs ds ps)) _
          (entry_passes job_check h n j at _ (b.good j (g 0 (omega arith))))
          ∙ rw b.rest_back (more.passed n (suc j) _);
    }

-- Read and written again

glue : (m r d p : ℕ) (a b c a' b' c' : Bool) (bs bs₁ bs₂ bs₃ : List ℕ) → a' ≡ a → b' ≡ b → c' ≡ c → map_byte a b c ≡ m → bytes_if a r ++ bs₁ ≡ bs →
    bytes_if b d ++ bs₂ ≡ bs₁ → bytes_if c p ++ bs₃ ≡ bs₂ → layout a' b' c' r d p bs₃ ≡ m ∷ bs
glue m r d p a b c a' b' c' bs bs₁ bs₂ bs₃ ea eb ec em e₁ e₂ e₃ = rw (ea, eb, ec, em, e₃, e₂, e₁)

-- what stood of an entry that passes stands again in the entry of the job read from it
record StandsAgain (h : ℕ) (bs : List ℕ) : Type 0 where
  pub release : stands absent_release (release_of bs) ≡ has_release (entry_map bs)
  pub deadline : stands (absent_deadline h) (deadline_of h bs) ≡ has_deadline (entry_map bs)
  pub volume : stands absent_volume (volume_of bs) ≡ has_volume (entry_map bs)

entry_stands : (h j : ℕ) (bs : List ℕ) → GoodEntry job_check h j bs → StandsAgain h bs
entry_stands h j bs g =
    let m = entry_map bs in
    record {
      release = stands_again (has_release m) absent_release (drop release_at bs) g.fields.release;
      deadline = stands_again (has_deadline m) (absent_deadline h) (drop (deadline_at m) bs) g.fields.deadline;
      volume = stands_again (has_volume m) absent_volume (drop (volume_at m) bs) g.fields.volume;
    }

pub map_again : (h j : ℕ) (bs : List ℕ) → GoodEntry job_check h j bs → job_map h (release_of bs) (deadline_of h bs) (volume_of bs) ≡ entry_map bs
map_again h j bs g =
    let s = entry_stands h j bs g in
    rw (s.release, s.deadline, s.volume) (bits_again (entry_map bs) g.map.known)

-- an entry that passes is the entry of the job read from it
pub entry_again : (h j : ℕ) (bs : List ℕ) → AreBytes bs → GoodEntry job_check h j bs →
    entry_bytes h (release_of bs) (deadline_of h bs) (volume_of bs) ++ drop (entry_size bs) bs ≡ bs
unfolding entry_bytes
entry_again h j [] small g = absurd (omega (arith, g.map.some))
entry_again h j (m ∷ bs) small g =
    let l : List ℕ = m ∷ bs in
    let a : Bool = has_release m in
    let b : Bool = has_deadline m in
    let c : Bool = has_volume m in
    let s = entry_stands h j l g in
    let long = length_is m g.map.known in
    let r = bytes_again a absent_release bs (omega (arith, long, g.whole)) (are_bytes_drop 1 l small) in
    let d =
    bytes_again b (absent_deadline h) (drop (deadline_at m) l) (omega (arith, long, g.whole, length-drop (deadline_at m) l))
    (are_bytes_drop (deadline_at m) l small) in
    let p =
    bytes_again c absent_volume (drop (volume_at m) l) (omega (arith, long, g.whole, length-drop (volume_at m) l))
    (are_bytes_drop (volume_at m) l small) in
    rw (append_assoc, append_assoc)
    (glue m (release_of l) (deadline_of h l) (volume_of l) a b c _ _ _ bs (drop (deadline_at m) l) (drop (volume_at m) l) (drop (entry_size l) l)
    s.release s.deadline s.volume (bits_again m g.map.known)
    (rw (drop-drop (width a) 1 l) at r)
    (rw (drop-drop (width b) (deadline_at m) l) at d)
    (rw (drop-drop (width c) (volume_at m) l, ← long) at p))

-- job i of the k jobs read
abbrev GoodAt : ℕ → ℕ → List ℕ → ℕ → Type 0
GoodAt h k bs i =
    GoodJob h (get_or (column entry_size release_of k bs) i 0) (get_or (column entry_size (deadline_of h) k bs) i 0)
    (get_or (column entry_size volume_of k bs) i 0)

-- what the entries that pass are the entries of
pub record EntriesAgain (h k : ℕ) (bs : List ℕ) : Type 0 where
  pub bytes : entries_bytes h (column entry_size release_of k bs) (column entry_size (deadline_of h) k bs) (column entry_size volume_of k bs) ≡ bs
  pub good : (i : ℕ) → i < k → GoodAt h k bs i

pub entries_again : (k h n j at : ℕ) (bs : List ℕ) → AreBytes bs →
    entries_check (entry_check job_check h n) entry_size k j at bs ≡ Ok tt → EntriesAgain h k bs
unfolding entries_bytes column
entries_again zero h n j at bs small e =
    record { bytes = entries_none (entry_check job_check h n) entry_size j at bs e; good = λ i l. absurd (omega arith) }
entries_again (suc k) h n j at bs small e =
    let p = entries_first (entry_check job_check h n) entry_size k j at bs e in
    let g = entry_passed job_check h n j at bs p.0 in
    let more = entries_again k h n (suc j) _ (drop (entry_size bs) bs) (are_bytes_drop (entry_size bs) bs small) p.1 in
    record {
      bytes =
          ap (λ (l : List ℕ). entry_bytes h (release_of bs) (deadline_of h bs) (volume_of bs) ++ l) more.bytes ∙ entry_again h j bs small g;
      good = first (job_good h j (release_of bs) (deadline_of h bs) (volume_of bs) g.job) more.good;
    }
  where
    first : GoodJob h (release_of bs) (deadline_of h bs) (volume_of bs) →
        ((i : ℕ) → i < k → GoodAt h k (drop (entry_size bs) bs) i) → (i : ℕ) → i < suc k → GoodAt h (suc k) bs i
    first here rest zero l = here
    first here rest (suc i) l = rest i (omega arith)
