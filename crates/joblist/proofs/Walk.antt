-- The loop over the entries of a list: an entry that passes, one that does not, and the end, each with the lists that are filled.
-- `rest` is what is left of the input at offset `at`.
use Rattle.std.specs.Prelude.{Err, Ok, Result}
use Prim.Native.Nat.{ℕ, ◌+◌, ◌-◌, ◌≤◌, ◌<◌}
use mathlib.Core.Path.{◌≡◌, ap}
use mathlib.Core.List.{List}
use native.Mathlib.Omega.{arith}
use lib.ListN.{length, drop, set, length-drop}
use Rattle.sched.specs.Checks.{job_check}
use Rattle.sched.proofs.Checks.Laws.{refused_not_passed}
use Rattle.sched.specs.declared.Refusal.{Refusal}
use Rattle.sched.specs.declared.Refusal.TheVariants.{LeftOver}
use Rattle.list_parts.specs.Entries.{EntryCheck, entry_size, release_of, deadline_of, volume_of, entry_check, entries_check}
use Rattle.list_parts.specs.Parts.{entry_of}
use Rattle.list_parts.specs.declared.entry.Fields.{Fields}
use Rattle.list_parts.proofs.Laws.Walk.{entries_next, entries_stop, entries_left_over, entries_end, ColumnTo, column_next, column_end}
use Rattle.list_parts.proofs.Laws.Entry.{entry_passed}
use Rattle.list_parts.proofs.Laws.Parts.{told_read, told_refused}
use Rattle.joblist.specs.Reading.{behind_header}
use Rattle.joblist.specs.Parts.{Loadable, Walked}
use Rattle.sched.specs.Refusals.{Checked}

-- the walk at a job: what is left of the checks, and of the stores to each list, gives what all of them give
pub record WalkedTo (h count : ℕ) (bytes rs₀ ds₀ ps₀ : List ℕ) (at job : ℕ) (rs ds ps : List ℕ) : Type 0 where
  pub inside : at ≤ length bytes
  pub reached : job ≤ count
  pub checks : behind_header job_check h count bytes ≡
      entries_check (entry_check job_check h (length bytes)) entry_size (count - job) job at (drop at bytes)
  pub releases : ColumnTo entry_size release_of bytes rs₀ count job at rs
  pub deadlines : ColumnTo entry_size (deadline_of h) bytes ds₀ count job at ds
  pub volumes : ColumnTo entry_size volume_of bytes ps₀ count job at ps

-- an answer that is no pass says nothing of the lists
refused : (h count : ℕ) (bytes rs ds ps : List ℕ) (r : Refusal) → Err r ≡ behind_header job_check h count bytes →
    Walked h count bytes (Err r) rs ds ps
refused h count bytes rs ds ps r e =
    record { same = e; releases = refused_not_passed r; deadlines = refused_not_passed r; volumes = refused_not_passed r }

module _ {h count : ℕ} {bytes rs₀ ds₀ ps₀ : List ℕ} {at job : ℕ} {rs ds ps : List ℕ} (w : WalkedTo h count bytes rs₀ ds₀ ps₀ at job rs ds ps) where
  abbrev entry : EntryCheck
  entry = entry_check job_check h (length bytes)

  abbrev all : Checked
  all = behind_header job_check h count bytes

  -- what was told of the entry here
  module _ {rest : List ℕ} {e : Result Fields Refusal} (l : job < count) (s : rest ≡ drop at bytes)
      (a : e ≡ entry_of (entry_check job_check h (length bytes) job at rest) h rest) where
    abbrev here : Checked
    here = entry_check job_check h (length bytes) job at rest

    pub walk_inside : (f : Fields) → e ≡ Ok f → at + f.size ≤ length bytes
    walk_inside f b =
        let t = told_read h rest here e f a b in
        let whole = (entry_passed job_check h (length bytes) job at rest t.0).whole in
        omega (arith, whole, ap (λ (x : Fields). x.size) t.1, w.inside, ap length s, length-drop at bytes)

    pub walk_next : (f : Fields) → e ≡ Ok f →
        WalkedTo h count bytes rs₀ ds₀ ps₀ (at + f.size) (job + 1) (set rs job f.release) (set ds job f.deadline) (set ps job f.volume)
    walk_next f b =
        let t = told_read h rest here e f a b in
        let n = f.size in
        let z : n ≡ entry_size rest = ap (λ (x : Fields). x.size) t.1 in
        let r = ap (λ (x : Fields). x.release) t.1 in
        let d = ap (λ (x : Fields). x.deadline) t.1 in
        let p = ap (λ (x : Fields). x.volume) t.1 in
        record {
          inside = walk_inside f b;
          reached = omega arith;
          checks = entries_next entry entry_size bytes all count job at n rest l s z t.0 w.checks;
          releases = column_next entry_size release_of bytes rs₀ rs count job at n f.release rest l s z r w.releases;
          deadlines = column_next entry_size (deadline_of h) bytes ds₀ ds count job at n f.deadline rest l s z d w.deadlines;
          volumes = column_next entry_size volume_of bytes ps₀ ps count job at n f.volume rest l s z p w.volumes;
        }

    pub walk_stop : (r : Refusal) → e ≡ Err r → Walked h count bytes (Err r) rs ds ps
    walk_stop r b =
        refused h count bytes rs ds ps r
        (entries_stop entry entry_size bytes all count job at rest r l s (told_refused h rest here e r a b) w.checks)

  pub walk_left_over : count ≤ job → at < length bytes → Walked h count bytes (Err (LeftOver at)) rs ds ps
  walk_left_over l m =
      refused h count bytes rs ds ps (LeftOver at) (entries_left_over entry entry_size bytes all count job at l m w.checks)

  pub walk_end : Loadable count bytes rs₀ ds₀ ps₀ → count ≤ job → length bytes ≤ at → Walked h count bytes (Ok tt) rs ds ps
  walk_end room l m =
      record {
        same = entries_end entry entry_size bytes all count job at l m w.checks;
        releases = λ _. column_end entry_size release_of bytes rs₀ rs count job at l room.releases w.releases;
        deadlines = λ _. column_end entry_size (deadline_of h) bytes ds₀ ds count job at l room.deadlines w.deadlines;
        volumes = λ _. column_end entry_size volume_of bytes ps₀ ps count job at l room.volumes w.volumes;
      }
