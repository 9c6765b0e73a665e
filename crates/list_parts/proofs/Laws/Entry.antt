-- The checks of an entry, one by one.
use Rattle.std.specs.Prelude.{ℕ, ◌≤◌, ◌<◌, ◌≡◌, Bool, false, List, length, drop, leb, ltb, eqb, Ok}
use Rattle.std.proofs.Common.{◌∙◌, arith, leb-false, ltb-false, le-ltb, ne_eqb}
use Rattle.std.proofs.lemmas.Bool.{eqb-false, lt-leb}
use Rattle.sched.specs.Checks.{JobCheck, refuse_if, and_then}
use Rattle.sched.proofs.Checks.Laws.{refuse_passed, then_passed, then_passes}
use Rattle.sched.specs.declared.Refusal.TheVariants.{Truncated, UnknownBit}
use Rattle.list_parts.specs.Layout.{absent_release, absent_deadline, absent_volume, has_release, has_deadline, has_volume, release_at, deadline_at}
use Rattle.list_parts.specs.Layout.{volume_at}
use Rattle.list_parts.specs.Entries.{entry_map, entry_size, known_maps, map_check, whole_check, redundant, field_check, redundancy_check, fault_check}
use Rattle.list_parts.specs.Entries.{entry_check}
use Rattle.sched.specs.Refusals.{Checked}

-- 11 for the map, and 13

pub record GoodMap (maps : ℕ) (bs : List ℕ) : Type 0 where
  pub some : 1 ≤ length bs
  pub known : entry_map bs < maps

pub map_passed : (maps n at : ℕ) (bs : List ℕ) → map_check maps n at bs ≡ Ok tt → GoodMap maps bs
unfolding map_check
map_passed maps n at bs e =
    let known : Checked = refuse_if (leb maps (entry_map bs)) (UnknownBit at) (Ok tt) in
    let a = refuse_passed (eqb (length bs) 0) (Truncated n) known e in
    let b = refuse_passed (leb maps (entry_map bs)) (UnknownBit at) (Ok tt) a.1 in
    record { some = positive (eqb-false (length bs) 0 a.0); known = leb-false maps (entry_map bs) b.0 }
  where
    positive : (length bs ≡ 0 → ⊥) → 1 ≤ length bs
    positive f = omega arith

pub map_passes : (maps n at : ℕ) (bs : List ℕ) → GoodMap maps bs → map_check maps n at bs ≡ Ok tt
unfolding map_check
map_passes maps n at bs g = simp (ne_eqb (length bs) 0 (omega (arith, g.some)), lt-leb maps (entry_map bs) g.known)

-- 11 for the fields

pub whole_passed : (size n : ℕ) (bs : List ℕ) → whole_check size n bs ≡ Ok tt → size ≤ length bs
whole_passed size n bs e = ltb-false (length bs) size (refuse_passed (ltb (length bs) size) (Truncated n) (Ok tt) e).0

pub whole_passes : (size n : ℕ) (bs : List ℕ) → size ≤ length bs → whole_check size n bs ≡ Ok tt
whole_passes size n bs l = simp (le-ltb (length bs) size l)

-- 14

pub field_passed : (stands : Bool) (absent place at : ℕ) (bs : List ℕ) → field_check stands absent place at bs ≡ Ok tt →
    redundant stands absent (drop place bs) ≡ false
field_passed stands absent place at bs e = (refuse_passed (redundant stands absent (drop place bs)) _ (Ok tt) e).0

-- no field stands with its absent value
pub record FreshFields (h : ℕ) (bs : List ℕ) : Type 0 where
  pub release : redundant (has_release (entry_map bs)) absent_release (drop release_at bs) ≡ false
  pub deadline : redundant (has_deadline (entry_map bs)) (absent_deadline h) (drop (deadline_at (entry_map bs)) bs) ≡ false
  pub volume : redundant (has_volume (entry_map bs)) absent_volume (drop (volume_at (entry_map bs)) bs) ≡ false

pub redundancy_passed : (h at : ℕ) (bs : List ℕ) → redundancy_check h at bs ≡ Ok tt → FreshFields h bs
unfolding redundancy_check
redundancy_passed h at bs e =
    let map = entry_map bs in
    let first = field_check (has_release map) absent_release release_at at bs in
    let second = field_check (has_deadline map) (absent_deadline h) (deadline_at map) at bs in
    let third = field_check (has_volume map) absent_volume (volume_at map) at bs in
    let a = then_passed first (and_then second third) e in
    let b = then_passed second third a.1 in
    record {
      release = field_passed (has_release map) absent_release release_at at bs a.0;
      deadline = field_passed (has_deadline map) (absent_deadline h) (deadline_at map) at bs b.0;
      volume = field_passed (has_volume map) absent_volume (volume_at map) at bs b.1;
    }

pub redundancy_passes : (h at : ℕ) (bs : List ℕ) → FreshFields h bs → redundancy_check h at bs ≡ Ok tt
unfolding redundancy_check
redundancy_passes h at bs g = simp (g.release, g.deadline, g.volume)

-- all of it, by a check of jobs

-- the entry that bytes start with is whole, and all of it is as it should be
pub record GoodEntry (check : JobCheck) (h j : ℕ) (bs : List ℕ) : Type 0 where
  pub map : GoodMap known_maps bs
  pub whole : entry_size bs ≤ length bs
  pub fields : FreshFields h bs
  pub job : fault_check check h j bs ≡ Ok tt

module _ (check : JobCheck) (h n j at : ℕ) (bs : List ℕ) where
  abbrev map : Checked
  map = map_check known_maps n at bs

  abbrev whole : Checked
  whole = whole_check (entry_size bs) n bs

  abbrev fresh : Checked
  fresh = redundancy_check h at bs

  abbrev job : Checked
  job = fault_check check h j bs

  pub entry_passed : entry_check check h n j at bs ≡ Ok tt → GoodEntry check h j bs
  unfolding entry_check
  entry_passed e =
      let a = then_passed map (and_then whole (and_then fresh job)) e in
      let b = then_passed whole (and_then fresh job) a.1 in
      let c = then_passed fresh job b.1 in
      record {
        map = map_passed known_maps n at bs a.0;
        whole = whole_passed (entry_size bs) n bs b.0;
        fields = redundancy_passed h at bs c.0;
        job = c.1;
      }

  pub entry_passes : GoodEntry check h j bs → entry_check check h n j at bs ≡ Ok tt
  unfolding entry_check
  entry_passes g =
      then_passes map (and_then whole (and_then fresh job)) (map_passes known_maps n at bs g.map)
      ∙ then_passes whole (and_then fresh job) (whole_passes (entry_size bs) n bs g.whole)
      ∙ then_passes fresh job (redundancy_passes h at bs g.fields)
      ∙ g.job
