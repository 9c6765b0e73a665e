-- The fields of an entry where their bits stand, and the ways out of the checks of an entry.
use Rattle.std.specs.Prelude.{Err, Ok, Result}
use Prim.Native.Nat.{ℕ, ◌+◌, ◌<◌}
use mathlib.Core.Path.{◌≡◌, refl, sym, ap, ◌∙◌}
use mathlib.Core.Bool.{Bool, true, false}
use mathlib.Core.List.{List}
use lib.ListN.{length, drop}
use lib.Dec.{ltb}
use Rattle.sched.specs.Checks.{and_then, job_check}
use Rattle.sched.proofs.Checks.Laws.{then_fails, then_passes}
use Rattle.sched.specs.declared.Refusal.{Refusal}
use Rattle.sched.specs.declared.Refusal.TheVariants.{Truncated}
use Rattle.list_parts.specs.Layout.{width, absent_release, absent_deadline, absent_volume, has_release, has_deadline, has_volume, release_at}
use Rattle.list_parts.specs.Layout.{deadline_at, volume_at}
use Rattle.list_parts.specs.Entries.{entry_map, entry_size, value_if, known_maps, map_check, whole_check, field_check, redundancy_check}
use Rattle.list_parts.specs.Entries.{entry_check}
use Rattle.list_parts.specs.Parts.{found_of, FieldAt, entry_of, job_part}
use Rattle.list_parts.proofs.Laws.Maps.{length_is}
use Rattle.list_parts.specs.declared.entry.Found.{Found}
use Rattle.list_parts.specs.declared.entry.Fields.{Fields}
use Rattle.sched.specs.Refusals.{Checked}

-- a field that was read: its value, the offset behind it, and that it does not stand with its absent value
pub record FieldRead (stands : Bool) (place absent at : ℕ) (bs : List ℕ) (f : Found) : Type 0 where
  pub value : f.value ≡ value_if stands absent (drop place bs)
  pub next : f.next ≡ place + width stands
  pub passed : field_check stands absent place at bs ≡ Ok tt

told_found : (c : Checked) (stands : Bool) (absent place : ℕ) (bs : List ℕ) (r : Result Found Refusal) (f : Found) → r ≡ found_of c stands absent place bs →
    r ≡ Ok f → (c ≡ Ok tt) × (f ≡ record { value = value_if stands absent (drop place bs); next = place + width stands })
told_found (Ok tt) stands absent place bs r f a b = (refl, cc)
told_found (Err x) stands absent place bs r f a b = absurd cc

told_unfound : (c : Checked) (stands : Bool) (absent place : ℕ) (bs : List ℕ) (r : Result Found Refusal) (x : Refusal) → r ≡ found_of c stands absent place bs →
    r ≡ Err x → c ≡ Err x
told_unfound (Ok tt) stands absent place bs r x a b = absurd cc
told_unfound (Err y) stands absent place bs r x a b = let s : y ≡ x = cc in ap Err s

pub field_read : {stands has : Bool} {place absent at p : ℕ} {bs : List ℕ} {r : Result Found Refusal} {f : Found} → has ≡ stands → p ≡ place →
    FieldAt has absent p at bs r → r ≡ Ok f → FieldRead stands place absent at bs f
field_read {has = has} {absent = absent} {at = at} {p = p} {bs = bs} {r = r} {f = f} s e a b =
    let t = told_found (field_check has absent p at bs) has absent p bs r f a.same b in
    rw (← s, ← e)
    record { value = ap (λ (x : Found). x.value) t.1; next = ap (λ (x : Found). x.next) t.1; passed = t.0 }

pub field_refused : {stands has : Bool} {place absent at p : ℕ} {bs : List ℕ} {r : Result Found Refusal} {x : Refusal} → has ≡ stands → p ≡ place →
    FieldAt has absent p at bs r → r ≡ Err x → field_check stands absent place at bs ≡ Err x
field_refused {has = has} {absent = absent} {at = at} {p = p} {bs = bs} {r = r} {x = x} s e a b =
    rw (← s, ← e) (told_unfound (field_check has absent p at bs) has absent p bs r x a.same b)

-- the ways out of the checks of the fields
module _ (h at : ℕ) (bs : List ℕ) where
  abbrev fields : Result Fields Refusal
  fields = entry_of (redundancy_check h at bs) h bs

  abbrev First : Found → Type 0
  First = FieldRead (has_release (entry_map bs)) release_at absent_release at bs

  abbrev Second : Found → Type 0
  Second = FieldRead (has_deadline (entry_map bs)) (deadline_at (entry_map bs)) (absent_deadline h) at bs

  abbrev Third : Found → Type 0
  Third = FieldRead (has_volume (entry_map bs)) (volume_at (entry_map bs)) absent_volume at bs

  pub release_refused : {x : Refusal} → field_check (has_release (entry_map bs)) absent_release release_at at bs ≡ Err x → Err x ≡ fields
  unfolding redundancy_check
  release_refused e = rw e

  pub deadline_refused : {r : Found} {x : Refusal} → First r → field_check (has_deadline (entry_map bs)) (absent_deadline h) (deadline_at (entry_map bs)) at bs ≡ Err x →
      Err x ≡ fields
  unfolding redundancy_check
  deadline_refused a e = rw (a.passed, e)

  pub volume_refused : {r d : Found} {x : Refusal} → First r → Second d → field_check (has_volume (entry_map bs)) absent_volume (volume_at (entry_map bs)) at bs ≡ Err x →
      Err x ≡ fields
  unfolding redundancy_check
  volume_refused a b e = rw (a.passed, b.passed, e)

  pub fields_read : {r d p : Found} → entry_map bs < known_maps → First r → Second d → Third p →
      Ok (record { release = r.value; deadline = d.value; volume = p.value; size = p.next }) ≡ fields
  unfolding redundancy_check
  fields_read known a b c =
      let size = c.next ∙ sym (length_is (entry_map bs) known) in
      ap Ok (λ i. record { release = a.value i; deadline = b.value i; volume = c.value i; size = size i })
      ∙ rw (a.passed, b.passed, c.passed)

-- the ways out of the checks of an entry
module _ (h n j at : ℕ) (bs : List ℕ) (map : Checked) (m : map ≡ map_check known_maps n at bs) where
  abbrev whole : Checked
  whole = whole_check (entry_size bs) n bs

  abbrev answer : Result Fields Refusal
  answer = entry_of (entry_check job_check h n j at bs) h bs

  -- the map, then whether all bytes are there, then 14 and the job
  in_order : entry_check job_check h n j at bs ≡ and_then (map_check known_maps n at bs) (and_then whole (job_part h j at bs))
  unfolding entry_check
  in_order = refl

  pub map_refused : (r : Refusal) → map ≡ Err r → Err r ≡ answer
  map_refused r e =
      ap (λ (c : Checked). entry_of c h bs)
      (sym (in_order ∙ then_fails (map_check known_maps n at bs) (and_then whole (job_part h j at bs)) r (sym m ∙ e)))

  module _ (e : map ≡ Ok tt) (cut : Bool) (c : cut ≡ ltb (length bs) (entry_size bs)) where
    map_passes : entry_check job_check h n j at bs ≡ and_then whole (job_part h j at bs)
    map_passes = in_order ∙ then_passes (map_check known_maps n at bs) (and_then whole (job_part h j at bs)) (sym m ∙ e)

    pub field_missing : cut ≡ true → Err (Truncated n) ≡ answer
    field_missing t = sym (rw (map_passes, ← c, t))

    pub job_answers : (job : Result Fields Refusal) → cut ≡ false → job ≡ entry_of (job_part h j at bs) h bs → job ≡ answer
    job_answers job t f = f ∙ sym (rw (map_passes, ← c, t))
