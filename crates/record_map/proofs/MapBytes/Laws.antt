-- How long a map is, and how many ones it has.
use Rattle.std.specs.Prelude.{ℕ, zero, suc, ◌+◌, ◌*◌, ◌/◌, ◌%◌, ◌^◌, ◌≤◌, ◌<◌, ◌≡◌, refl, Bool, true, false, not, List, [], ◌∷◌, map, length, drop, eqb}
use Rattle.std.proofs.Common.{sym, ap, ap₂, ◌∙◌, add-zero, pow-suc, arith, drop_of_length-le}
use Rattle.std.proofs.lemmas.List.{length-map}
use Rattle.std.specs.Int.Count.{ones, ones_in, ones_step}
use Rattle.std.proofs.lemmas.Nat.{ones-le}
use Rattle.sched.specs.Bits.{bit}
use Rattle.sched.proofs.Bits.Laws.{bit_small}
use Rattle.sched.specs.Bounded.{total}
use Rattle.sched.specs.Slots.{awake, awake_of}
use Rattle.sched.specs.Energy.{awake_slots}
use Rattle.record_map.specs.MapBytes.{bits, map_from, map_length, map_bytes_of}

-- k slots are a number of k bits
pub bits_small : (k t : ℕ) (S : List Bool) → bits k t S < 2 ^ k
unfolding bits
bits_small zero t S = omega arith
bits_small (suc k) t S = omega (arith, bit_small (awake S t), bits_small k (suc t) S, pow-suc 2 k)

-- the slots from t on
awake_split : (S : List Bool) (t : ℕ) → awake_slots (drop t S) ≡ bit (awake S t) + awake_slots (drop (suc t) S)
unfolding awake_slots
awake_split [] zero = refl
awake_split [] (suc t) = refl
awake_split (true ∷ S) zero = omega arith
awake_split (false ∷ S) zero = omega arith
awake_split (b ∷ S) (suc t) = awake_split S t

pub ones_zero : ones 0 ≡ 0
unfolding ones ones_in
ones_zero = refl

ones_double : (b : Bool) (m : ℕ) → ones (bit b + 2 * m) ≡ bit b + ones m
ones_double b m =
    let low : (bit b + 2 * m) % 2 ≡ bit b = omega (arith, bit_small b) in
    let high : (bit b + 2 * m) / 2 ≡ m = omega (arith, bit_small b) in
    ones_step (bit b + 2 * m) ∙ ap₂ (λ (x y : ℕ). x + ones y) low high

-- the ones of k slots as a number are the awake slots among them
pub ones_of_bits : (k t : ℕ) (S : List Bool) → awake_slots (drop t S) ≡ ones (bits k t S) + awake_slots (drop (t + k) S)
unfolding bits
ones_of_bits zero t S = rw (add-zero t) (omega (arith, ones_zero))
ones_of_bits (suc k) t S =
    let e : t + suc k ≡ suc t + k = omega arith in
    rw e (omega (arith, awake_split S t, ones_double (awake S t) (bits k (suc t) S), ones_of_bits k (suc t) S))

-- the ones of the map from byte m on
pub ones_of_map : (k m : ℕ) (S : List Bool) → length S ≤ 8 * (m + k) → total (map ones (map_from k m S)) ≡ awake_slots (drop (8 * m) S)
unfolding map_from total awake_slots
ones_of_map zero m S l = rw (drop_of_length-le S {i = 8 * m} (omega arith))
ones_of_map (suc k) m S l =
    let e : 8 * m + 8 ≡ 8 * suc m = omega arith in
    omega (arith, ones_of_map k (suc m) S (omega arith), rw e at (ones_of_bits 8 (8 * m) S))

pub length_map_from : (k m : ℕ) (S : List Bool) → length (map_from k m S) ≡ k
unfolding map_from
length_map_from zero m S = refl
length_map_from (suc k) m S = ap suc (length_map_from k (suc m) S)

-- a set has as many slots as its table
pub map_of : (slots : List ℕ) → map_from (map_length (length slots)) 0 (awake_of slots) ≡ map_bytes_of (awake_of slots)
map_of slots = rw (length-map slots (λ byte. not (eqb byte 255)))

pub length_map_of : (slots : List ℕ) → length (map_bytes_of (awake_of slots)) ≡ map_length (length slots)
length_map_of slots = ap length (sym (map_of slots)) ∙ length_map_from (map_length (length slots)) 0 (awake_of slots)

-- "as many bytes as the map has ones": these are the awake slots
pub ones_of_slots : (slots : List ℕ) → total (map ones (map_bytes_of (awake_of slots))) ≡ awake_slots (awake_of slots)
ones_of_slots slots = ones_of_map (map_length (length (awake_of slots))) 0 (awake_of slots) (omega arith)

pub ones_few : (byte m : ℕ) (S : List Bool) → byte ≡ bits 8 m S → ones byte ≤ 8
ones_few byte m S e = ones-le 8 byte (rw e (bits_small 8 m S))

pub map_ones_few : (k m : ℕ) (S : List Bool) → total (map ones (map_from k m S)) ≤ 8 * k
unfolding map_from total
map_ones_few zero m S = omega arith
map_ones_few (suc k) m S = omega (arith, ones_few (bits 8 (8 * m) S) (8 * m) S refl, map_ones_few k (suc m) S)
