-- The bits of map bytes one by one, how many stand, and that packing and taking apart undo each other.
use Rattle.std.specs.Prelude.{ℕ, zero, suc, ◌+◌, ◌-◌, ◌*◌, ◌/◌, ◌%◌, ◌^◌, ◌≤◌, ◌<◌, ◌≡◌, refl, Bool, true, false, List, [], ◌∷◌, ◌++◌, map, length, get_or, take, drop, eqb}
use Rattle.std.proofs.Common.{sym, ap, ap₂, ◌∙◌, pow-suc, div-one, arith, eq-eqb, ne_eqb, length-append, get_or-append-add, get_or-drop, get_or-take, ext_get_or, length-take-le, shr-shr}
use Rattle.std.proofs.Math.Nat.{pow-zero}
use Rattle.std.proofs.Math.Decide.{ℕ_discrete, dec_lt}
use Rattle.std.proofs.Math.ListN.{get_or-append, get_or-eq_default}
use Rattle.std.specs.Int.Count.{ones, ones_step}
use Rattle.sched.specs.Bits.{bit}
use Rattle.sched.proofs.Bits.Laws.{bit_small}
use Rattle.sched.specs.Bounded.{total}
use Rattle.sched.proofs.Bounded.Laws.{or_false}
use Rattle.sched.specs.TwoBytes.{AreBytes}
use Rattle.sched.specs.Slots.{awake}
use Rattle.sched.specs.Energy.{awake_slots}
use Rattle.sched.proofs.Energy.Laws.{awake_append}
use Rattle.record_map.specs.MapBytes.{bits, map_from, map_length, map_bytes_of}
use Rattle.record_map.proofs.MapBytes.Laws.{length_map_from, ones_zero}
use Rattle.record_map.specs.MapBits.{low_bits, bits_of, some_bit}

-- lengths

length_low : (k byte : ℕ) → length (low_bits k byte) ≡ k
unfolding low_bits
length_low zero byte = refl
length_low (suc k) byte = ap suc (length_low k (byte / 2))

pub length_bits : (M : List ℕ) → length (bits_of M) ≡ 8 * length M
unfolding bits_of
length_bits [] = refl
length_bits (byte ∷ M) = omega (arith, length-append (low_bits 8 byte) (bits_of M), length_low 8 byte, length_bits M)

-- a map with a bit for each slot has all slots
pub length_slots : (h : ℕ) (M : List ℕ) → h ≤ 8 * length M → length (take h (bits_of M)) ≡ h
length_slots h M l = length-take-le h (bits_of M) (omega (arith, length_bits M))

-- the bit of a slot

abbrev bit_at : ℕ → ℕ → Bool
bit_at byte i = eqb (byte / 2 ^ i % 2) 1

low_at : (k i byte : ℕ) → i < k → get_or (low_bits k byte) i false ≡ bit_at byte i
unfolding low_bits
low_at zero i byte l = absurd (omega arith)
low_at (suc k) zero byte l = simp (pow-zero, div-one)
low_at (suc k) (suc i) byte l =
    let e : 1 + i ≡ suc i = omega arith in
    low_at k i (byte / 2) (omega arith) ∙ ap (λ (x : ℕ). eqb (x % 2) 1) (shr-shr byte 1 i ∙ ap (λ (n : ℕ). byte / 2 ^ n) e)

pub bits_at : (M : List ℕ) (t : ℕ) → t < 8 * length M → awake (bits_of M) t ≡ bit_at (get_or M (t / 8) 0) (t % 8)
unfolding bits_of
bits_at [] t l = absurd (omega arith)
bits_at (byte ∷ M) t l = go (dec_lt t 8) (bits_at M)
  where
    go : Dec (t < 8) → ((u : ℕ) → u < 8 * length M → awake (bits_of M) u ≡ bit_at (get_or M (u / 8) 0) (u % 8)) →
        awake (low_bits 8 byte ++ bits_of M) t ≡ bit_at (get_or (byte ∷ M) (t / 8) 0) (t % 8)
    go (yes s) ih =
        let q : t / 8 ≡ 0 = omega arith in
        let r : t % 8 ≡ t = omega arith in
        rw (q, r) (get_or-append (low_bits 8 byte) (bits_of M) false t (omega (arith, length_low 8 byte)) ∙ low_at 8 t byte s)
    go (no n) ih = later (t - 8) (omega arith)
      where
        later : (u : ℕ) → t ≡ 8 + u → awake (low_bits 8 byte ++ bits_of M) t ≡ bit_at (get_or (byte ∷ M) (t / 8) 0) (t % 8)
        later u e =
            let q : t / 8 ≡ suc (u / 8) = omega arith in
            let r : t % 8 ≡ u % 8 = omega arith in
            let p : t ≡ length (low_bits 8 byte) + u = omega (arith, length_low 8 byte) in
            rw (q, r) (ap (awake (low_bits 8 byte ++ bits_of M)) p ∙ get_or-append-add (low_bits 8 byte) (bits_of M) u false ∙ ih u (omega arith))

-- how many bits stand

pub awake_first : (b : Bool) (S : List Bool) → awake_slots (b ∷ S) ≡ bit b + awake_slots S
unfolding awake_slots
awake_first true S = omega arith
awake_first false S = omega arith

low_bit : (n : ℕ) → bit (eqb (n % 2) 1) ≡ n % 2
low_bit n = go (ℕ_discrete (n % 2) 1)
  where
    go : Dec (n % 2 ≡ 1) → bit (eqb (n % 2) 1) ≡ n % 2
    go (yes e) = ap bit (eq-eqb (n % 2) 1 e) ∙ sym e
    go (no f) = let z : n % 2 ≡ 0 = omega arith in ap bit (ne_eqb (n % 2) 1 f) ∙ sym z

ones_low : (k byte : ℕ) → byte < 2 ^ k → awake_slots (low_bits k byte) ≡ ones byte
unfolding low_bits awake_slots
ones_low zero byte l = let z : byte ≡ 0 = omega (arith, pow-zero 2) in rw z (sym ones_zero)
ones_low (suc k) byte l =
    let half : byte / 2 < 2 ^ k = omega (arith, pow-suc 2 k) in
    omega (arith, awake_first (eqb (byte % 2) 1) (low_bits k (byte / 2)), low_bit byte, ones_step byte, ones_low k (byte / 2) half)

pub ones_bits : (M : List ℕ) → AreBytes M → awake_slots (bits_of M) ≡ total (map ones M)
unfolding bits_of total awake_slots
ones_bits [] small = refl
ones_bits (byte ∷ M) small =
    omega (arith, awake_append (low_bits 8 byte) (bits_of M), ones_low 8 byte (small 0), ones_bits M (λ i. small (suc i)))

-- whether one stands

pub some_none : (B : List Bool) → some_bit B ≡ false → (i : ℕ) → get_or B i false ≡ false
unfolding some_bit
some_none [] e i = refl
some_none (b ∷ B) e zero = (or_false b (some_bit B) e).0
some_none (b ∷ B) e (suc i) = some_none B (or_false b (some_bit B) e).1 i

pub none_some : (B : List Bool) → ((i : ℕ) → get_or B i false ≡ false) → some_bit B ≡ false
unfolding some_bit
none_some [] g = refl
none_some (b ∷ B) g = rw (g 0) (none_some B (λ i. g (suc i)))

pub none_awake : (B : List Bool) → some_bit B ≡ false → awake_slots B ≡ 0
unfolding some_bit awake_slots
none_awake [] e = refl
none_awake (b ∷ B) e =
    let (first, rest) = or_false b (some_bit B) e in
    omega (arith, awake_first b B, ap bit first, none_awake B rest)

-- packed and taken apart

bit_back : (b : Bool) → eqb (bit b) 1 ≡ b
bit_back true = refl
bit_back false = refl

bit_of_bits : (k t : ℕ) (S : List Bool) (i : ℕ) → i < k → bit_at (bits k t S) i ≡ awake S (t + i)
unfolding bits
bit_of_bits zero t S i l = absurd (omega arith)
bit_of_bits (suc k) t S zero l =
    let m = bits k (suc t) S in
    let b = awake S t in
    let q : (bit b + 2 * m) % 2 ≡ bit b = omega (arith, bit_small b) in
    let z : t + 0 ≡ t = omega arith in
    simp (pow-zero, div-one) (ap (λ (x : ℕ). eqb x 1) q ∙ bit_back b ∙ ap (awake S) (sym z))
bit_of_bits (suc k) t S (suc i) l =
    let m = bits k (suc t) S in
    let n = bit (awake S t) + 2 * m in
    let half : n / 2 ≡ m = omega (arith, bit_small (awake S t)) in
    let e : 1 + i ≡ suc i = omega arith in
    let next : suc t + i ≡ t + suc i = omega arith in
    ap (λ (x : ℕ). eqb (x % 2) 1) (ap (λ (j : ℕ). n / 2 ^ j) (sym e) ∙ sym (shr-shr n 1 i) ∙ ap (λ (x : ℕ). x / 2 ^ i) half)
    ∙ bit_of_bits k (suc t) S i (omega arith) ∙ ap (awake S) next

map_at : (k m : ℕ) (S : List Bool) (j : ℕ) → j < k → get_or (map_from k m S) j 0 ≡ bits 8 (8 * (m + j)) S
unfolding map_from
map_at zero m S j l = absurd (omega arith)
map_at (suc k) m S zero l = let e : m + 0 ≡ m = omega arith in rw e
map_at (suc k) m S (suc j) l =
    let e : suc m + j ≡ m + suc j = omega arith in
    map_at k (suc m) S j (omega arith) ∙ ap (λ (n : ℕ). bits 8 (8 * n) S) e

-- the map of a set has its slots
map_slot : (S : List Bool) (t : ℕ) → t < 8 * map_length (length S) → awake (bits_of (map_bytes_of S)) t ≡ awake S t
map_slot S t l =
    let k = map_length (length S) in
    let e : 8 * (0 + t / 8) + t % 8 ≡ t = omega arith in
    bits_at (map_bytes_of S) t (omega (arith, length_map_from k 0 S))
    ∙ ap (λ (x : ℕ). bit_at x (t % 8)) (map_at k 0 S (t / 8) (omega arith))
    ∙ bit_of_bits 8 (8 * (0 + t / 8)) S (t % 8) (omega arith)
    ∙ ap (awake S) e

length_bits_of_map : (S : List Bool) → length (bits_of (map_bytes_of S)) ≡ 8 * map_length (length S)
length_bits_of_map S = length_bits (map_bytes_of S) ∙ ap (λ (n : ℕ). 8 * n) (length_map_from (map_length (length S)) 0 S)

pub set_back : (S : List Bool) → take (length S) (bits_of (map_bytes_of S)) ≡ S
set_back S =
    let long : length (take (length S) (bits_of (map_bytes_of S))) ≡ length S =
    length-take-le (length S) (bits_of (map_bytes_of S)) (omega (arith, length_bits_of_map S)) in
    ext_get_or false (take (length S) (bits_of (map_bytes_of S))) S long
    (λ t l. get_or-take (length S) (bits_of (map_bytes_of S)) t false (omega arith) ∙ map_slot S t (omega arith))

pub padding_back : (S : List Bool) → some_bit (drop (length S) (bits_of (map_bytes_of S))) ≡ false
padding_back S = none_some (drop (length S) (bits_of (map_bytes_of S))) (λ i. get_or-drop (length S) (bits_of (map_bytes_of S)) i false ∙ behind i (dec_lt (length S + i) (8 * map_length (length S))))
  where
    behind : (i : ℕ) → Dec (length S + i < 8 * map_length (length S)) → awake (bits_of (map_bytes_of S)) (length S + i) ≡ false
    behind i (yes l) = map_slot S (length S + i) l ∙ get_or-eq_default S false (omega arith)
    behind i (no n) = get_or-eq_default (bits_of (map_bytes_of S)) false (omega (arith, length_bits_of_map S))

-- taken apart and packed again

bits_are : (k t : ℕ) (S : List Bool) (byte : ℕ) → byte < 2 ^ k → ((i : ℕ) → i < k → awake S (t + i) ≡ bit_at byte i) → bits k t S ≡ byte
unfolding bits
bits_are zero t S byte l g = omega (arith, pow-zero 2)
bits_are (suc k) t S byte l g =
    let half : byte / 2 < 2 ^ k = omega (arith, pow-suc 2 k) in
    let first : awake S t ≡ eqb (byte % 2) 1 = ap (awake S) (let z : t ≡ t + 0 = omega arith in z) ∙ g 0 (omega arith) ∙ simp (pow-zero, div-one) in
    let rest : (i : ℕ) → i < k → awake S (suc t + i) ≡ bit_at (byte / 2) i =
    λ i m.
    let e : suc t + i ≡ t + suc i = omega arith in
    let f : suc i ≡ 1 + i = omega arith in
    ap (awake S) e ∙ g (suc i) (omega arith)
    ∙ ap (λ (x : ℕ). eqb (x % 2) 1) (ap (λ (n : ℕ). byte / 2 ^ n) f ∙ sym (shr-shr byte 1 i)) in
    omega (arith, ap bit first, low_bit byte, bits_are k (suc t) S (byte / 2) half rest)

module _ (h : ℕ) (M : List ℕ) (long : length M ≡ map_length h) (small : AreBytes M) (clear : some_bit (drop h (bits_of M)) ≡ false) where
  all_slots : length (take h (bits_of M)) ≡ h
  all_slots = length_slots h M (omega arith)

  slot_kept : (t : ℕ) → awake (take h (bits_of M)) t ≡ awake (bits_of M) t
  slot_kept t = go (dec_lt t h)
    where
      go : Dec (t < h) → awake (take h (bits_of M)) t ≡ awake (bits_of M) t
      go (yes l) = get_or-take h (bits_of M) t false l
      go (no n) =
          let e : h + (t - h) ≡ t = omega arith in
          get_or-eq_default (take h (bits_of M)) false (omega (arith, all_slots))
          ∙ sym (some_none (drop h (bits_of M)) clear (t - h))
          ∙ get_or-drop h (bits_of M) (t - h) false
          ∙ ap (awake (bits_of M)) e

  byte_again : (j : ℕ) → j < length M → bits 8 (8 * (0 + j)) (take h (bits_of M)) ≡ get_or M j 0
  byte_again j l =
      bits_are 8 (8 * (0 + j)) (take h (bits_of M)) (get_or M j 0) (small j)
      (λ i m.
      let q : (8 * (0 + j) + i) / 8 ≡ j = omega arith in
      let r : (8 * (0 + j) + i) % 8 ≡ i = omega arith in
      slot_kept (8 * (0 + j) + i) ∙ bits_at M (8 * (0 + j) + i) (omega arith) ∙ ap₂ (λ (x y : ℕ). bit_at (get_or M x 0) y) q r)

  pub map_again : map_bytes_of (take h (bits_of M)) ≡ M
  map_again =
      let S = take h (bits_of M) in
      let k = map_length (length S) in
      let many : k ≡ length M = ap map_length all_slots ∙ sym long in
      ext_get_or 0 (map_bytes_of S) M (length_map_from k 0 S ∙ many)
      (λ j l. let m : j < k = omega (arith, length_map_from k 0 S) in map_at k 0 S j m ∙ byte_again j (omega arith))
