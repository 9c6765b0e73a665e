-- The eight maps, one after the other, and the length of an entry by its map.
use Rattle.std.specs.Prelude.{ℕ, zero, suc, ◌+◌, ◌≤◌, ◌<◌, ◌≡◌, refl, Bool, true, false, List, ◌∷◌, ◌++◌, length}
use Rattle.std.proofs.Common.{arith}
use Rattle.list_parts.specs.Layout.{absent_release, absent_deadline, absent_volume, has_release, has_deadline, has_volume, map_byte, width, volume_at}
use Rattle.list_parts.specs.Layout.{entry_length, stands, bytes_if, job_map, entry_bytes}
use Rattle.list_parts.specs.Entries.{entry_map, entry_size, known_maps}

-- what holds of each map and of every number from 8 on holds of every number
by_map : (P : ℕ → Type 0) → P 0 → P 1 → P 2 → P 3 → P 4 → P 5 → P 6 → P 7 →
    ((m : ℕ) → P (suc (suc (suc (suc (suc (suc (suc (suc m))))))))) → (m : ℕ) → P m
by_map P a b c d e f g h other zero = a
by_map P a b c d e f g h other (suc zero) = b
by_map P a b c d e f g h other (suc (suc zero)) = c
by_map P a b c d e f g h other (suc (suc (suc zero))) = d
by_map P a b c d e f g h other (suc (suc (suc (suc zero)))) = e
by_map P a b c d e f g h other (suc (suc (suc (suc (suc zero))))) = f
by_map P a b c d e f g h other (suc (suc (suc (suc (suc (suc zero)))))) = g
by_map P a b c d e f g h other (suc (suc (suc (suc (suc (suc (suc zero))))))) = h
by_map P a b c d e f g h other (suc (suc (suc (suc (suc (suc (suc (suc m)))))))) = other m

pub known_map : (P : ℕ → Type 0) → P 0 → P 1 → P 2 → P 3 → P 4 → P 5 → P 6 → P 7 → (m : ℕ) → m < known_maps → P m
known_map P a b c d e f g h =
    by_map (λ (m : ℕ). m < known_maps → P m) (λ _. a) (λ _. b) (λ _. c) (λ _. d) (λ _. e) (λ _. f) (λ _. g) (λ _. h) (λ m l. absurd (omega arith))

-- a map byte is told by its bits
pub bits_again : (m : ℕ) → m < known_maps → map_byte (has_release m) (has_deadline m) (has_volume m) ≡ m
bits_again = known_map (λ (m : ℕ). map_byte (has_release m) (has_deadline m) (has_volume m) ≡ m) refl refl refl refl refl refl refl refl

-- an entry ends where its volume does
pub length_is : (m : ℕ) → m < known_maps → entry_length m ≡ volume_at m + width (has_volume m)
length_is = known_map (λ (m : ℕ). entry_length m ≡ volume_at m + width (has_volume m)) refl refl refl refl refl refl refl refl

pub length_small : (m : ℕ) → entry_length m ≤ 7
length_small =
    by_map (λ (m : ℕ). entry_length m ≤ 7) (omega arith) (omega arith) (omega arith) (omega arith) (omega arith) (omega arith) (omega arith)
    (omega arith) (λ m. omega arith)

pub width_small : (b : Bool) → width b ≤ 2
width_small true = omega arith
width_small false = omega arith

pub entry_short : (bs : List ℕ) → entry_size bs ≤ 7
entry_short bs = length_small (entry_map bs)

-- a byte that is none of the eight has length 0
pub no_map : (m : ℕ) → (m ≡ 0 → ⊥) → (m ≡ 1 → ⊥) → (m ≡ 2 → ⊥) → (m ≡ 3 → ⊥) → (m ≡ 4 → ⊥) → (m ≡ 5 → ⊥) → (m ≡ 6 → ⊥) → (m ≡ 7 → ⊥) →
    0 ≡ entry_length m
no_map =
    by_map
    (λ (m : ℕ).
    (m ≡ 0 → ⊥) → (m ≡ 1 → ⊥) → (m ≡ 2 → ⊥) → (m ≡ 3 → ⊥) → (m ≡ 4 → ⊥) → (m ≡ 5 → ⊥) → (m ≡ 6 → ⊥) → (m ≡ 7 → ⊥) → 0 ≡ entry_length m)
    (λ a b c d e f g h. absurd (a refl)) (λ a b c d e f g h. absurd (b refl)) (λ a b c d e f g h. absurd (c refl)) (λ a b c d e f g h. absurd (d refl))
    (λ a b c d e f g h. absurd (e refl)) (λ a b c d e f g h. absurd (f refl)) (λ a b c d e f g h. absurd (g refl)) (λ a b c d e f g h. absurd (h refl))
    (λ m a b c d e f g h. refl)

-- the entry that is written for a job has the length of its map
pub entry_by_map : (h r d p : ℕ) → length (entry_bytes h r d p) ≡ entry_length (job_map h r d p)
unfolding entry_bytes
entry_by_map h r d p = by_bits (stands absent_release r) (stands (absent_deadline h) d) (stands absent_volume p)
  where
    by_bits : (a b c : Bool) → length (map_byte a b c ∷ bytes_if a r ++ (bytes_if b d ++ bytes_if c p)) ≡ entry_length (map_byte a b c)
    by_bits false false false = refl
    by_bits true false false = refl
    by_bits false true false = refl
    by_bits true true false = refl
    by_bits false false true = refl
    by_bits true false true = refl
    by_bits false true true = refl
    by_bits true true true = refl

pub entry_small : (h r d p : ℕ) → length (entry_bytes h r d p) ≤ 7
entry_small h r d p = rw (entry_by_map h r d p) (length_small (job_map h r d p))
