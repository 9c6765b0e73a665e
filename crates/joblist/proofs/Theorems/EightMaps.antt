-- 02, card 4: each of the eight maps is read and written as its row says, by the words of `specs/Theorems/EightMaps`.
use Rattle.std.specs.Prelude.{ℕ, ◌≤◌, ◌<◌, ◌≡◌, Bool, true, false, List, [], ◌∷◌, ◌++◌, length, Err}
use Rattle.std.proofs.Math.Path.{refl}
use Rattle.std.proofs.Common.{subst, ◌∙◌, arith, le-leb, ne_eqb, eqb-true}
use Rattle.std.proofs.lemmas.Bool.{not-false}
use Rattle.sched.specs.Checks.{and_then, job_check}
use Rattle.sched.proofs.Checks.Laws.{then_passes}
use Rattle.sched.specs.declared.Refusal.TheVariants.{Truncated, UnknownBit}
use Rattle.list_parts.specs.Layout.{absent_release, absent_deadline, absent_volume, map_byte, entry_length, stands, bytes_if, job_map, entry_bytes}
use Rattle.list_parts.specs.Entries.{release_of, deadline_of, volume_of, known_maps, map_check, whole_check, redundancy_check, fault_check}
use Rattle.list_parts.specs.Entries.{entry_check, entries_check, column}
use Rattle.list_parts.proofs.Laws.Maps.{known_map}
use Rattle.list_parts.proofs.Laws.Entry.{map_passes}
use Rattle.list_parts.proofs.Laws.Fields.{layout_read}
use Rattle.joblist.specs.Theorems.EightMaps.{rows, row_of, field_at, check_by, ReadBy, WrittenBy, RowHolds}

-- The table itself

row_map : (m : ℕ) → m < known_maps → (row_of m).map ≡ m
row_map = known_map (λ (m : ℕ). (row_of m).map ≡ m) refl refl refl refl refl refl refl refl

row_size : (m : ℕ) → m < known_maps → entry_length m ≡ (row_of m).size
row_size = known_map (λ (m : ℕ). entry_length m ≡ (row_of m).size) refl refl refl refl refl refl refl refl

-- The reader

module _ (rest : List ℕ) where
  release_at : (m : ℕ) → m < known_maps → release_of (m ∷ rest) ≡ field_at (row_of m).release absent_release (m ∷ rest)
  release_at =
      known_map (λ (m : ℕ). release_of (m ∷ rest) ≡ field_at (row_of m).release absent_release (m ∷ rest)) refl refl refl refl refl refl refl refl

  deadline_at : (h m : ℕ) → m < known_maps → deadline_of h (m ∷ rest) ≡ field_at (row_of m).deadline (absent_deadline h) (m ∷ rest)
  deadline_at h =
      known_map (λ (m : ℕ). deadline_of h (m ∷ rest) ≡ field_at (row_of m).deadline (absent_deadline h) (m ∷ rest))
      refl refl refl refl refl refl refl refl

  volume_at : (m : ℕ) → m < known_maps → volume_of (m ∷ rest) ≡ field_at (row_of m).volume absent_volume (m ∷ rest)
  volume_at =
      known_map (λ (m : ℕ). volume_of (m ∷ rest) ≡ field_at (row_of m).volume absent_volume (m ∷ rest)) refl refl refl refl refl refl refl refl

  fields_checked : (h n j at m : ℕ) → m < known_maps →
      and_then (whole_check (entry_length m) n (m ∷ rest)) (and_then (redundancy_check h at (m ∷ rest)) (fault_check job_check h j (m ∷ rest))) ≡
      check_by (row_of m) h n j at (m ∷ rest)
  unfolding redundancy_check
  fields_checked h n j at =
      known_map
      (λ (m : ℕ).
      and_then (whole_check (entry_length m) n (m ∷ rest)) (and_then (redundancy_check h at (m ∷ rest)) (fault_check job_check h j (m ∷ rest))) ≡
      check_by (row_of m) h n j at (m ∷ rest))
      refl refl refl refl refl refl refl refl

  entry_checked : (h n j at m : ℕ) → m < known_maps → entry_check job_check h n j at (m ∷ rest) ≡ check_by (row_of m) h n j at (m ∷ rest)
  unfolding entry_check
  entry_checked h n j at m l =
      then_passes (map_check known_maps n at (m ∷ rest)) _
      (map_passes known_maps n at (m ∷ rest) (record { some = omega arith; known = l }))
      ∙ fields_checked h n j at m l

  read_by : (m : ℕ) → m < known_maps → ReadBy (row_of m) (m ∷ rest)
  unfolding entries_check column
  read_by m l =
      record {
        release = release_at m l;
        deadline = λ h. deadline_at h m l;
        volume = volume_at m l;
        checks = λ h n k j at. rw (entry_checked h n j at m l, row_size m l);
        reads = λ field k. rw (row_size m l);
      }

-- The writer

left_out : (absent x : ℕ) → stands absent x ≡ false → x ≡ absent
left_out absent x e = eqb-true x absent (not-false _ e)

written_by : (h r d p : ℕ) → WrittenBy (row_of (job_map h r d p)) h r d p (entry_bytes h r d p)
unfolding entry_bytes
written_by h r d p =
    by_bits (stands absent_release r) (stands (absent_deadline h) d) (stands absent_volume p) (left_out absent_release r) (left_out (absent_deadline h) d)
    (left_out absent_volume p)
  where
    by_bits : (a b c : Bool) → (a ≡ false → r ≡ absent_release) → (b ≡ false → d ≡ absent_deadline h) → (c ≡ false → p ≡ absent_volume) →
        WrittenBy (row_of (map_byte a b c)) h r d p (map_byte a b c ∷ bytes_if a r ++ (bytes_if b d ++ bytes_if c p))
    by_bits false false false e f g = record { map = refl; size = refl; release = e refl; deadline = f refl; volume = g refl }
    by_bits true false false e f g = record { map = refl; size = refl; release = refl; deadline = f refl; volume = g refl }
    by_bits false true false e f g = record { map = refl; size = refl; release = e refl; deadline = refl; volume = g refl }
    by_bits true true false e f g = record { map = refl; size = refl; release = refl; deadline = refl; volume = g refl }
    by_bits false false true e f g = record { map = refl; size = refl; release = e refl; deadline = f refl; volume = refl }
    by_bits true false true e f g = record { map = refl; size = refl; release = refl; deadline = f refl; volume = refl }
    by_bits false true true e f g = record { map = refl; size = refl; release = e refl; deadline = refl; volume = refl }
    by_bits true true true e f g = record { map = refl; size = refl; release = refl; deadline = refl; volume = refl }

-- The theorem: each of the eight rows holds, for the reader, whatever follows the map byte, and for the writer, whatever job has the map
pub eight_maps : (m : ℕ) → m < length rows → RowHolds m (row_of m)
eight_maps m l =
    record {
      map = row_map m l;
      size = row_size m l;
      read = λ rest. read_by rest m l;
      written = λ h r d p e. subst (λ (x : ℕ). WrittenBy (row_of x) h r d p (entry_bytes h r d p)) e (written_by h r d p);
    }

-- There is no ninth: every job has one of these maps, the reader refuses every other map byte with 13, and no byte at all with 11

pub job_has_row : (h r d p : ℕ) → job_map h r d p < length rows
job_has_row h r d p = (layout_read (stands absent_release r) (stands (absent_deadline h) d) (stands absent_volume p) r d p []).known

pub other_map_refused : (m : ℕ) → length rows ≤ m → (rest : List ℕ) (h n j at : ℕ) → entry_check job_check h n j at (m ∷ rest) ≡ Err (UnknownBit at)
unfolding entry_check map_check
other_map_refused m l rest h n j at = rw (ne_eqb (length (m ∷ rest)) 0 (omega arith), le-leb known_maps m l)

pub missing_map_refused : (h n j at : ℕ) → entry_check job_check h n j at [] ≡ Err (Truncated n)
unfolding entry_check map_check
missing_map_refused h n j at = refl
