-- From what the parts of `read` and `write` promise to what the two promise.
use Rattle.std.specs.Prelude.{Err, Ok, Result}
use Prim.Native.Nat.{ℕ, ◌+◌}
use mathlib.Core.Path.{◌≡◌, refl, ap, ◌∙◌, sym}
use mathlib.Core.List.{List}
use native.Mathlib.Nat.{zero-add}
use native.Mathlib.Omega.{arith}
use lib.ListN.{length}
use lib.Seq.{sets, sets-eq}
use Rattle.sched.specs.Jobs.{Jobs}
use Rattle.sched.specs.Checks.{and_then, length_check, job_check, check_of}
use Rattle.sched.proofs.Checks.Laws.{then_passed, then_fails, then_passes, length_good}
use Rattle.sched.specs.declared.Refusal.{Refusal}
use Rattle.list_parts.specs.Header.{header_check, header_length, header_horizon, header_count}
use Rattle.joblist.specs.Reading.{behind_header, read_check, Reading, reading, accepted, read_if, read_number, read_values, ReadPromise, lent_check}
use Rattle.joblist.specs.Bytes.{spelling, entries_bytes}
use Rattle.joblist.specs.Writing.{spell_check, Writing, written_if, writing, written_number, written_values, WritePromise}
use Rattle.joblist.specs.Parts.{HeaderOf, front_check, Filled}
use Rattle.joblist.proofs.Laws.Input.{reading_accepted, reading_refused}
use Rattle.joblist.specs.declared.ListHeader.{ListHeader}
use Rattle.joblist.proofs.Spelling.{spelling_length}
use Rattle.sched.specs.Refusals.{Checked}

then_then : (a b c : Checked) → and_then a (and_then b c) ≡ and_then (and_then a b) c
then_then (Ok tt) b c = refl
then_then (Err r) b c = refl

-- from what the parts of `read` promise: the checks before the entries, the header, and what filled the lists
module _ (bytes rs ds ps : List ℕ) (front : Checked) (a : front ≡ front_check bytes (length rs) (length ds) (length ps)) where
  abbrev lent : Checked
  lent = lent_check (header_count bytes) (length rs) (length ds) (length ps)

  abbrev entries : Checked
  entries = behind_header job_check (header_horizon bytes) (header_count bytes) bytes

  promised : (x : Reading) (rs' ds' ps' : List ℕ) (answer : Result ListHeader Refusal) → reading bytes rs ds ps ≡ x → answer ≡ x.answer → rs' ≡ x.releases →
      ds' ≡ x.deadlines → ps' ≡ x.volumes → ReadPromise bytes rs ds ps answer rs' ds' ps'
  promised x rs' ds' ps' answer e t r d p =
      let q = sym e in
      let t' : answer ≡ (reading bytes rs ds ps).answer = t ∙ ap (λ (y : Reading). y.answer) q in
      record {
        same = t';
        number = ap read_number t';
        values = ap read_values t';
        releases = r ∙ ap (λ (y : Reading). y.releases) q;
        deadlines = d ∙ ap (λ (y : Reading). y.deadlines) q;
        volumes = p ∙ ap (λ (y : Reading). y.volumes) q;
      }

  pub front_refused : (r : Refusal) → front ≡ Err r → ReadPromise bytes rs ds ps (Err r) rs ds ps
  front_refused r e =
      let q = then_then (header_check bytes) lent entries ∙ then_fails (and_then (header_check bytes) lent) entries r (sym a ∙ e) in
      promised (read_if (Err r) bytes rs ds ps) rs ds ps (Err r) (reading_refused bytes rs ds ps r q) refl refl refl refl

  module _ (passed : front ≡ Ok tt) where
    front_passed : (header_check bytes ≡ Ok tt) × (lent ≡ Ok tt)
    front_passed = then_passed (header_check bytes) lent (sym a ∙ passed)

    module _ (list : ListHeader) (o : HeaderOf bytes list) where
      -- the checks of the entries decide
      entries_decide : (c : Checked) → c ≡ behind_header job_check list.h list.count bytes →
          read_check bytes (length rs) (length ds) (length ps) ≡ c
      entries_decide c e =
          then_passes (header_check bytes) (and_then lent entries) front_passed.0
          ∙ then_passes lent entries front_passed.1 ∙ sym (rw (o.count, o.h) at e)

      module _ (rs' ds' ps' : List ℕ) (c : Checked) (f : Filled list.h list.count bytes rs ds ps c rs' ds' ps') where
        pub read_accepted : c ≡ Ok tt → ReadPromise bytes rs ds ps (Ok list) rs' ds' ps'
        read_accepted e =
            promised (accepted bytes rs ds ps) rs' ds' ps' (Ok list) (reading_accepted bytes rs ds ps (entries_decide c f.same ∙ e))
            (ap Ok (λ i. record { h = o.h i; q = o.q i; count = o.count i }))
            (rw (e, o.count) at f.releases) (rw (e, o.count, o.h) at f.deadlines) (rw (e, o.count) at f.volumes)

        pub read_refused : (r : Refusal) → c ≡ Err r → ReadPromise bytes rs ds ps (Err r) rs' ds' ps'
        read_refused r e =
            promised (read_if (Err r) bytes rs ds ps) rs' ds' ps' (Err r)
            (reading_refused bytes rs ds ps r (entries_decide c f.same ∙ e)) refl
            (rw e at f.releases) (rw e at f.deadlines) (rw e at f.volumes)

module _ (J : Jobs) (out : List ℕ) where
  -- the promise, from what the writing is
  written : (w : Writing) → writing J out ≡ w → WritePromise J out w.answer w.out
  written w e =
      let q = sym e in
      let t : w.answer ≡ (writing J out).answer = ap (λ (x : Writing). x.answer) q in
      record { same = t; number = ap written_number t; values = ap written_values t; kept = ap (λ (x : Writing). x.out) q }

  decided : (c : Checked) → spell_check J (length out) ≡ c → writing J out ≡ written_if c J out
  unfolding writing
  decided c e = ap (λ (x : Checked). written_if x J out) e

  pub list_refused : (r : Refusal) (list : Checked) → list ≡ check_of J → list ≡ Err r → WritePromise J out (Err r) out
  list_refused r list a e =
      written (written_if (Err r) J out)
      (decided (Err r) (then_fails (check_of J) (length_check (length out) (length (spelling J))) r (sym a ∙ e)))

  -- the list passes, and `size` is the length as it is counted
  module _ (size : ℕ) (list room : Checked) (a : list ≡ check_of J) (passed : list ≡ Ok tt)
      (s : size ≡ header_length + length (entries_bytes J.horizon J.releases J.deadlines J.volumes))
      (e : room ≡ length_check (length out) size) where
    sized : size ≡ length (spelling J)
    sized = s ∙ sym (spelling_length J)

    room_decides : (c : Checked) → room ≡ c → writing J out ≡ written_if c J out
    room_decides c f =
        decided c
        (then_passes (check_of J) (length_check (length out) (length (spelling J))) (sym a ∙ passed)
        ∙ ap (λ (n : ℕ). length_check (length out) n) (sym sized) ∙ sym e ∙ f)

    pub room_refused : (r : Refusal) → room ≡ Err r → WritePromise J out (Err r) out
    room_refused r f = written (written_if (Err r) J out) (room_decides (Err r) f)

    pub write_accepted : (out' : List ℕ) → room ≡ Ok tt → out' ≡ sets out 0 (spelling J) → WritePromise J out (Ok size) out'
    write_accepted out' f g =
        let fits = length_good (length out) size (sym e ∙ f) in
        rw (sized, g, sets-eq (spelling J) out 0 (omega (arith, fits, sized)), zero-add)
        (written (written_if (Ok tt) J out) (room_decides (Ok tt) f))
