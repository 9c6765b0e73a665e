-- Fields, written and read back with their map byte, and read and written again.
use Rattle.std.specs.Prelude.{ℕ, ◌≤◌, ◌<◌, ◌≡◌, refl, Bool, true, false, not, List, [], ◌∷◌, ◌++◌, length, drop, eqb}
use Rattle.std.proofs.Common.{ap, sym, arith, eq-eqb, eqb-true}
use Rattle.sched.specs.TwoBytes.{AreBytes}
use Rattle.sched.proofs.TwoBytes.Laws.{word_back, word_again}
use Rattle.list_parts.specs.Layout.{has_release, has_deadline, has_volume, map_byte, width, deadline_at, volume_at, entry_length, stands, bytes_if}
use Rattle.list_parts.specs.Entries.{value_if, redundant}

-- Written and read back

-- an entry with just these bits, and what follows it
abbrev pub layout : Bool → Bool → Bool → ℕ → ℕ → ℕ → List ℕ → List ℕ
layout a b c r d p rest = map_byte a b c ∷ bytes_if a r ++ (bytes_if b d ++ (bytes_if c p ++ rest))

-- its bits are those, and each field lies where the map byte says
pub record LayoutRead (a b c : Bool) (r d p : ℕ) (rest : List ℕ) : Type 0 where
  pub release : has_release (map_byte a b c) ≡ a
  pub deadline : has_deadline (map_byte a b c) ≡ b
  pub volume : has_volume (map_byte a b c) ≡ c
  pub known : map_byte a b c < 8
  pub second : drop (deadline_at (map_byte a b c)) (layout a b c r d p rest) ≡ bytes_if b d ++ (bytes_if c p ++ rest)
  pub third : drop (volume_at (map_byte a b c)) (layout a b c r d p rest) ≡ bytes_if c p ++ rest
  pub last : drop (entry_length (map_byte a b c)) (layout a b c r d p rest) ≡ rest
  pub whole : entry_length (map_byte a b c) ≤ length (layout a b c r d p rest)

pub layout_read : (a b c : Bool) (r d p : ℕ) (rest : List ℕ) → LayoutRead a b c r d p rest
layout_read false false false r d p rest =
    record { release = refl; deadline = refl; volume = refl; known = omega arith; second = refl; third = refl; last = refl; whole = omega arith }
layout_read false false true r d p rest =
    record { release = refl; deadline = refl; volume = refl; known = omega arith; second = refl; third = refl; last = refl; whole = omega arith }
layout_read false true false r d p rest =
    record { release = refl; deadline = refl; volume = refl; known = omega arith; second = refl; third = refl; last = refl; whole = omega arith }
layout_read false true true r d p rest =
    record { release = refl; deadline = refl; volume = refl; known = omega arith; second = refl; third = refl; last = refl; whole = omega arith }
layout_read true false false r d p rest =
    record { release = refl; deadline = refl; volume = refl; known = omega arith; second = refl; third = refl; last = refl; whole = omega arith }
layout_read true false true r d p rest =
    record { release = refl; deadline = refl; volume = refl; known = omega arith; second = refl; third = refl; last = refl; whole = omega arith }
layout_read true true false r d p rest =
    record { release = refl; deadline = refl; volume = refl; known = omega arith; second = refl; third = refl; last = refl; whole = omega arith }
layout_read true true true r d p rest =
    record { release = refl; deadline = refl; volume = refl; known = omega arith; second = refl; third = refl; last = refl; whole = omega arith }

-- a field that stands just where it has another value than its absent one
pub value_back : (absent x : ℕ) (rest : List ℕ) → value_if (stands absent x) absent (bytes_if (stands absent x) x ++ rest) ≡ x
value_back absent x rest = go (eqb x absent) refl
  where
    go : (t : Bool) → eqb x absent ≡ t → value_if (stands absent x) absent (bytes_if (stands absent x) x ++ rest) ≡ x
    go true e = rw e (sym (eqb-true x absent e))
    go false e = rw e (word_back x)

pub field_fresh : (absent x : ℕ) (rest : List ℕ) → redundant (stands absent x) absent (bytes_if (stands absent x) x ++ rest) ≡ false
field_fresh absent x rest = go (eqb x absent) refl
  where
    go : (t : Bool) → eqb x absent ≡ t → redundant (stands absent x) absent (bytes_if (stands absent x) x ++ rest) ≡ false
    go true e = rw e
    go false e = rw (e, word_back x, e)

-- Read and written again

-- a field that does not stand with its absent value stands again just where it stood
pub stands_again : (b : Bool) (absent : ℕ) (bs : List ℕ) → redundant b absent bs ≡ false → stands absent (value_if b absent bs) ≡ b
stands_again false absent bs e = rw (eq-eqb absent absent refl)
stands_again true absent bs e = ap not e

pub bytes_again : (b : Bool) (absent : ℕ) (bs : List ℕ) → width b ≤ length bs → AreBytes bs →
    bytes_if b (value_if b absent bs) ++ drop (width b) bs ≡ bs
bytes_again false absent bs w small = refl
bytes_again true absent [] w small = absurd (omega arith)
bytes_again true absent (x ∷ []) w small = absurd (omega arith)
bytes_again true absent (x ∷ y ∷ bs) w small = ap (λ (l : List ℕ). l ++ bs) (word_again x y (small 0))
