-- The place of every refusal of the reader is small: no list has more than 453 bytes, and what follows them is told by its offset.
use Prim.Native.Nat.{ℕ, zero, suc, ◌+◌, ◌*◌, ◌≤◌, ◌<◌}
use Rattle.std.specs.Prelude.{◌≡◌, refl, Bool, true, false, not, List, length, drop, leb, ltb, eqb, Err, Ok}
use Rattle.std.proofs.Math.Nat.{mul-suc}
use Rattle.std.proofs.Common.{arith}
use borrow.Author.Tests.{ltb-true, eqb-true}
use Rattle.std.proofs.Math.ListN.{length-drop}
use Rattle.sched.specs.Refusals.{place, Checked}
use Rattle.sched.specs.Checks.{JobCheck, refuse_if, and_then, horizon_check, count_check, length_check, job_check}
use Rattle.sched.proofs.Checks.Laws.{job_place}
use Rattle.sched.specs.declared.Refusal.{Refusal}
use Rattle.sched.specs.declared.Refusal.TheVariants.{Truncated, OutOfRange, UnknownBit, Redundant, LeftOver, TooShort}
use Rattle.list_parts.specs.Header.{header_length, header_horizon, header_count, header_check}
use Rattle.list_parts.specs.Layout.{absent_release, absent_deadline, absent_volume, has_release, has_deadline, has_volume, release_at, deadline_at}
use Rattle.list_parts.specs.Layout.{volume_at}
use Rattle.list_parts.specs.Entries.{EntryCheck, entry_map, entry_size, release_of, deadline_of, volume_of, known_maps, map_check, whole_check, redundant}
use Rattle.list_parts.specs.Entries.{field_check, redundancy_check, fault_check, entry_check, entries_check}
use Rattle.list_parts.proofs.Laws.Maps.{width_small, entry_short}
use Rattle.list_parts.proofs.Laws.Entry.{entry_passed}
use Rattle.list_parts.proofs.Laws.Header.{header_passed}
use Rattle.joblist.specs.Reading.{lent_check, behind_header, read_check}

-- the place of a refusal, if there is one, is at most m
abbrev pub PlaceWithin : ℕ → Checked → Type 0
PlaceWithin m (Ok tt) = Unit {0}
PlaceWithin m (Err r) = place r ≤ m

module _ (m : ℕ) where
  if_within : (b : Bool) (r : Refusal) (c : Checked) → (b ≡ true → place r ≤ m) → (b ≡ false → PlaceWithin m c) → PlaceWithin m (refuse_if b r c)
  if_within true r c f g = f refl
  if_within false r c f g = g refl

  -- a check with one test
  one_within : (b : Bool) (r : Refusal) → (b ≡ true → place r ≤ m) → PlaceWithin m (refuse_if b r (Ok tt))
  one_within b r f = if_within b r (Ok tt) f (λ _. tt)

  then_within : (a c : Checked) → PlaceWithin m a → (a ≡ Ok tt → PlaceWithin m c) → PlaceWithin m (and_then a c)
  then_within (Ok tt) c f g = g refl
  then_within (Err r) c f g = f

  horizon_within : (h : ℕ) → PlaceWithin m (horizon_check h)
  horizon_within h =
      if_within (eqb h 0) (OutOfRange 0) (refuse_if (ltb 4096 h) (OutOfRange 0) (Ok tt)) (λ _. omega arith)
      (λ _. one_within (ltb 4096 h) (OutOfRange 0) (λ _. omega arith))

  length_within : (have need : ℕ) → need ≤ m → PlaceWithin m (length_check have need)
  length_within have need l = one_within (ltb have need) (TooShort need) (λ _. l)

  job_within : (h j r d p : ℕ) → j ≤ m → PlaceWithin m (job_check h j r d p)
  job_within h j r d p l = within (job_check h j r d p) refl
    where
      within : (c : Checked) → job_check h j r d p ≡ c → PlaceWithin m c
      within (Ok tt) e = tt
      within (Err x) e = omega (arith, job_place h j r d p x e)

  -- An entry

  map_within : (maps n at : ℕ) (bs : List ℕ) → at + length bs ≡ n → at ≤ m → PlaceWithin m (map_check maps n at bs)
  unfolding map_check
  map_within maps n at bs e l =
      let known = refuse_if (leb maps (entry_map bs)) (UnknownBit at) (Ok tt) in
      if_within (eqb (length bs) 0) (Truncated n) known (λ t. omega (arith, eqb-true (length bs) 0 t))
      (λ _. one_within (leb maps (entry_map bs)) (UnknownBit at) (λ _. l))

  whole_within : (size n at : ℕ) (bs : List ℕ) → at + length bs ≡ n → at + size ≤ m → PlaceWithin m (whole_check size n bs)
  whole_within size n at bs e l =
      one_within (ltb (length bs) size) (Truncated n) (λ t. omega (arith, ltb-true (length bs) size t))

  field_within : (stands : Bool) (absent at_field at : ℕ) (bs : List ℕ) → at + at_field ≤ m → PlaceWithin m (field_check stands absent at_field at bs)
  field_within stands absent at_field at bs l = one_within (redundant stands absent (drop at_field bs)) (Redundant (at + at_field)) (λ _. l)

  redundancy_within : (h at : ℕ) (bs : List ℕ) → at + 7 ≤ m → PlaceWithin m (redundancy_check h at bs)
  unfolding redundancy_check
  redundancy_within h at bs l =
      let map = entry_map bs in
      let release = width_small (has_release map) in
      let deadline = width_small (has_deadline map) in
      let first = field_check (has_release map) absent_release release_at at bs in
      let second = field_check (has_deadline map) (absent_deadline h) (deadline_at map) at bs in
      let third = field_check (has_volume map) absent_volume (volume_at map) at bs in
      then_within first (and_then second third) (field_within (has_release map) absent_release release_at at bs (omega arith))
      (λ _. then_within second third (field_within (has_deadline map) (absent_deadline h) (deadline_at map) at bs (omega (arith, release)))
      (λ _. field_within (has_volume map) absent_volume (volume_at map) at bs (omega (arith, release, deadline))))

  entry_within : (check : JobCheck) (h n j at : ℕ) (bs : List ℕ) → PlaceWithin m (fault_check check h j bs) → at + length bs ≡ n → at + 7 ≤ m →
      PlaceWithin m (entry_check check h n j at bs)
  unfolding entry_check
  entry_within check h n j at bs job e l =
      let map = map_check known_maps n at bs in
      let whole = whole_check (entry_size bs) n bs in
      let fresh = redundancy_check h at bs in
      let own = fault_check check h j bs in
      then_within map (and_then whole (and_then fresh own)) (map_within known_maps n at bs e (omega arith))
      (λ _. then_within whole (and_then fresh own) (whole_within (entry_size bs) n at bs e (omega (arith, entry_short bs)))
      (λ _. then_within fresh own (redundancy_within h at bs l) (λ _. job)))

  -- The walk, for entries of at most `most` bytes

  module _ (check : EntryCheck) (size : List ℕ → ℕ) (n most : ℕ) (short : (bs : List ℕ) → size bs ≤ most)
      (whole : (j at : ℕ) (bs : List ℕ) → check j at bs ≡ Ok tt → size bs ≤ length bs)
      (each : (j at : ℕ) (bs : List ℕ) → j < m → at + length bs ≡ n → at + most ≤ m → PlaceWithin m (check j at bs)) where
    pub entries_within : (k j at : ℕ) (bs : List ℕ) → j + k ≤ m → at + length bs ≡ n → at + most * k ≤ m →
        PlaceWithin m (entries_check check size k j at bs)
    unfolding entries_check
    entries_within zero j at bs i e l = one_within (not (eqb (length bs) 0)) (LeftOver at) (λ _. omega arith)
    entries_within (suc k) j at bs i e l =
        let s = mul-suc most k in
        then_within (check j at bs) (entries_check check size k (suc j) (at + size bs) (drop (size bs) bs))
        (each j at bs (omega arith) e (omega (arith, s)))
        (λ p. entries_within k (suc j) (at + size bs) (drop (size bs) bs) (omega arith)
        (omega (arith, whole j at bs p, length-drop (size bs) bs, e)) (omega (arith, s, short bs)))

  -- The whole input

  header_within : (bytes : List ℕ) → 5 ≤ m → PlaceWithin m (header_check bytes)
  header_within bytes l =
      let horizon = horizon_check (header_horizon bytes) in
      let count = count_check (header_count bytes) in
      if_within (ltb (length bytes) header_length) (Truncated (length bytes)) (and_then horizon count)
      (λ t. omega (arith, ltb-true (length bytes) header_length t))
      (λ _. then_within horizon count (horizon_within (header_horizon bytes))
      (λ _. one_within (ltb 64 (header_count bytes)) (OutOfRange 4) (λ _. omega arith)))

  lent_within : (n r d p : ℕ) → n ≤ m → PlaceWithin m (lent_check n r d p)
  lent_within n r d p l =
      then_within (length_check r n) (and_then (length_check d n) (length_check p n)) (length_within r n l)
      (λ _. then_within (length_check d n) (length_check p n) (length_within d n l) (λ _. length_within p n l))

-- 453 is 5 + 7 × 64
pub read_within : (bytes : List ℕ) (r d p : ℕ) → PlaceWithin 453 (read_check bytes r d p)
read_within bytes r d p =
    let h = header_horizon bytes in
    let n = length bytes in
    let count = header_count bytes in
    let rest : List ℕ = drop header_length bytes in
    let entries = behind_header job_check h count bytes in
    let lent = lent_check count r d p in
    then_within 453 (header_check bytes) (and_then lent entries) (header_within 453 bytes (omega arith))
    (λ e.
    let g = header_passed bytes e in
    then_within 453 lent entries (lent_within 453 count r d p (omega (arith, g.few)))
    (λ _. entries_within 453 (entry_check job_check h n) entry_size n 7 entry_short (λ j at bs q. (entry_passed job_check h n j at bs q).whole)
    (λ j at bs i q l.
    entry_within 453 job_check h n j at bs (job_within 453 h j (release_of bs) (deadline_of h bs) (volume_of bs) (omega arith)) q l)
    count 0 header_length rest (omega (arith, g.few)) (omega (arith, g.long, length-drop header_length bytes)) (omega (arith, g.few))))
