-- The trailing zeros of a mask find its least number; a number joins or leaves it by a power of two.
use Prim.Native.Nat.{ℕ, zero, suc, ◌+◌, ◌-◌, ◌*◌, ◌/◌, ◌%◌, ◌^◌, ◌≤◌, ◌<◌}
use Rattle.std.proofs.Math.Path.{◌≡◌, refl, ap}
use Rattle.std.proofs.Common.{sym, ◌∙◌, one-mul, mod-eq_of_lt, mul_assoc, mul_comm, mul-one, zero-mul, div-one, zero-add, le-leb, shr-shr, pow_mono}
use Rattle.std.specs.Prelude.{Bool, ◌&&◌, ◌≢◌, leb}
use Rattle.std.proofs.Math.Bool.{true, false}
use Rattle.std.proofs.Math.Option.{Option, none, some}
use Rattle.std.proofs.Math.Nat.{pow-zero, pow-suc, zero-div, div-eq_of_lt}
use Rattle.std.proofs.Math.Decide.{ℕ_discrete}
use native.Mathlib.Omega.{arith}
use Rattle.std.proofs.lemmas.Bool.{lt-leb}
use Rattle.std.proofs.Math.Pow.{pow-lt}
use Rattle.std.specs.Int.Count.{count_trailing_zeros, under}
use Rattle.sched.specs.Bounded.{least_from}
use Rattle.sched.specs.Bits.{bit}
use Rattle.sched.proofs.Bits.Laws.{bit_small}
use Rattle.queue.specs.Mask.{mask_from, mask}

-- a shifted one is the power of two
pub shifted : (k : ℕ) → k < 64 → 1 * 2 ^ k % 2 ^ 64 ≡ 2 ^ k
shifted k l = simp one-mul (mod-eq_of_lt (pow-lt {i = k} {j = 64} l))

half : (b m : ℕ) → b ≤ 1 → (b + 2 * m) / 2 ≡ m
half b m l = omega arith

parity : (b m : ℕ) → b ≤ 1 → (b + 2 * m) % 2 ≡ b
parity b m l = omega arith

module _ (f : ℕ → Bool) where
  -- the least number found by counting zeros from below; k bits are set at most, and K looked at
  pub zeros_some : (K k t x : ℕ) → k ≤ K → least_from k t f ≡ some x → t + count_trailing_zeros K (mask_from f k t) ≡ x
  unfolding least_from mask_from count_trailing_zeros
  zeros_some K zero t x l e = let z : ◌≡◌ {A = ℕ} 0 1 = cc in absurd (omega arith)
  zeros_some zero (suc k) t x l e = absurd (omega arith)
  zeros_some (suc K) (suc k) t x l e = go (f t) refl e (zeros_some K k (suc t) x (omega arith))
    where
      m : ℕ
      m = mask_from f k (suc t)

      go : (b : Bool) → f t ≡ b → ◌≡◌ {A = Option ℕ} (elim b [ true ↦ some t | false ↦ least_from k (suc t) f ]) (some x) → (least_from k (suc t) f ≡ some x → suc t + count_trailing_zeros K (mask_from f k (suc t)) ≡ x) → t + under ((bit (f t) + 2 * mask_from f k (suc t)) % 2) (count_trailing_zeros K ((bit (f t) + 2 * mask_from f k (suc t)) / 2)) ≡ x
      go true q h ih = let s : t ≡ x = cc in rw (q, parity 1 (mask_from f k (suc t)) (omega arith)) (omega arith)
      go false q h ih = rw (q, parity 0 (mask_from f k (suc t)) (omega arith), half 0 (mask_from f k (suc t)) (omega arith)) (omega (arith, ih h))

  pub empty_none : (k t : ℕ) → least_from k t f ≡ none → mask_from f k t ≡ 0
  unfolding least_from mask_from
  empty_none zero t e = refl
  empty_none (suc k) t e = go (f t) refl e (empty_none k (suc t))
    where
      go : (b : Bool) → f t ≡ b → ◌≡◌ {A = Option ℕ} (elim b [ true ↦ some t | false ↦ least_from k (suc t) f ]) none → (least_from k (suc t) f ≡ none → mask_from f k (suc t) ≡ 0) → bit (f t) + 2 * mask_from f k (suc t) ≡ 0
      go true q h ih = let z : ◌≡◌ {A = ℕ} 0 1 = cc in absurd (omega arith)
      go false q h ih = rw q (omega (arith, ih h))

  pub some_pos : (k t x : ℕ) → least_from k t f ≡ some x → 0 < mask_from f k t
  unfolding least_from mask_from
  some_pos zero t x e = let z : ◌≡◌ {A = ℕ} 0 1 = cc in absurd (omega arith)
  some_pos (suc k) t x e = go (f t) refl e (some_pos k (suc t) x)
    where
      go : (b : Bool) → f t ≡ b → ◌≡◌ {A = Option ℕ} (elim b [ true ↦ some t | false ↦ least_from k (suc t) f ]) (some x) → (least_from k (suc t) f ≡ some x → 0 < mask_from f k (suc t)) → 0 < bit (f t) + 2 * mask_from f k (suc t)
      go true q h ih = rw q (omega arith)
      go false q h ih = rw q (omega (arith, ih h))

  pub mask_lt : (k t : ℕ) → mask_from f k t < 2 ^ k
  unfolding mask_from
  mask_lt zero t = omega arith
  mask_lt (suc k) t = rw pow-suc (omega (arith, mask_lt k (suc t), bit_small (f t)))

from_alike : (f g : ℕ → Bool) (k t : ℕ) → ((i : ℕ) → t ≤ i → i < t + k → f i ≡ g i) → mask_from f k t ≡ mask_from g k t
unfolding mask_from
from_alike f g zero t e = refl
from_alike f g (suc k) t e = rw (e t (omega arith) (omega arith), from_alike f g k (suc t) (λ i l m. e i (omega arith) (omega arith)))

pub mask_alike : (f g : ℕ → Bool) (n : ℕ) → ((i : ℕ) → i < n → f i ≡ g i) → mask f n ≡ mask g n
mask_alike f g n h = from_alike f g n 0 (λ i l m. h i (omega arith))

pub mask_none : (f : ℕ → Bool) (n : ℕ) → ((i : ℕ) → f i ≡ false) → mask f n ≡ 0
unfolding mask_from
mask_none f n h = go n 0
  where
    go : (k t : ℕ) → mask_from f k t ≡ 0
    go zero t = refl
    go (suc k) t = rw (h t) (omega (arith, go k (suc t)))

-- b + 2 m, shifted once more than m, is m shifted
shifted_once : (b m g : ℕ) → b ≤ 1 → (b + 2 * m) / 2 ^ suc g ≡ m / 2 ^ g
shifted_once b m g l =
    ap (λ (x : ℕ). (b + 2 * m) / 2 ^ x) (omega arith) ∙ sym (shr-shr (b + 2 * m) 1 g) ∙ ap (λ (x : ℕ). x / 2 ^ g) (half b m l)

-- a number's bit, by shifting; past the last number it is 0
pub mask_bit : (f : ℕ → Bool) (n k : ℕ) → k < n → mask f n / 2 ^ k % 2 ≡ bit (f k)
unfolding mask_from
mask_bit f n k l = go n 0 k l ∙ ap (λ (x : ℕ). bit (f x)) (zero-add k)
  where
    go : (m t i : ℕ) → i < m → mask_from f m t / 2 ^ i % 2 ≡ bit (f (t + i))
    go zero t i l = absurd (omega arith)
    go (suc m) t zero l =
        let here : t + 0 ≡ t = omega arith in
        rw (here, pow-zero, div-one) (parity (bit (f t)) (mask_from f m (suc t)) (bit_small (f t)))
    go (suc m) t (suc i) l =
        let next : t + suc i ≡ suc t + i = omega arith in
        rw (next, shifted_once (bit (f t)) (mask_from f m (suc t)) i (bit_small (f t))) (go m (suc t) i (omega arith))

pub mask_past : (f : ℕ → Bool) (n k : ℕ) → n ≤ k → mask f n / 2 ^ k % 2 ≡ 0
mask_past f n k l = ap (λ (x : ℕ). x % 2) (div-eq_of_lt {n = mask f n} {m = 2 ^ k} (omega (arith, mask_lt f n 0, pow_mono {i = n} {j = k} l)))

-- of b + 2 m, the bits from suc g on are those of m from g on
halved : (b m g : ℕ) → b ≤ 1 → (b + 2 * m) / 2 ^ suc g * 2 ^ suc g ≡ 2 * (m / 2 ^ g * 2 ^ g)
halved b m g l =
    ap (λ (x : ℕ). x * 2 ^ suc g) (shifted_once b m g l) ∙ ap (λ (x : ℕ). m / 2 ^ g * x) (pow-suc 2 g) ∙ sym (mul_assoc (m / 2 ^ g) (2 ^ g) 2) ∙ mul_comm (m / 2 ^ g * 2 ^ g) 2

-- without the numbers below g
pub mask_drops : (f : ℕ → Bool) (n g : ℕ) → mask (λ k. leb g k && f k) n ≡ mask f n / 2 ^ g * 2 ^ g
unfolding mask_from
mask_drops f n g = from_alike (λ k. leb g k && f k) (λ k. leb (0 + g) k && f k) n 0 (λ i l m. ap (λ (x : ℕ). leb x i && f i) (omega arith)) ∙ go n 0 g
  where
    go : (k t g : ℕ) → mask_from (λ i. leb (t + g) i && f i) k t ≡ mask_from f k t / 2 ^ g * 2 ^ g
    go k t zero = from_alike (λ i. leb (t + 0) i && f i) f k t (λ i l m. rw (le-leb (t + 0) i (omega arith))) ∙ simp (pow-zero, div-one, mul-one)
    go zero t (suc g) = sym (ap (λ (x : ℕ). x * 2 ^ suc g) (zero-div (2 ^ suc g)) ∙ zero-mul (2 ^ suc g))
    go (suc k) t (suc g) =
        let rest = from_alike (λ i. leb (t + suc g) i && f i) (λ i. leb (suc t + g) i && f i) k (suc t) (λ i l m. ap (λ (x : ℕ). leb x i && f i) (omega arith)) ∙ go k (suc t) g in
        rw (lt-leb (t + suc g) t (omega arith)) (omega (arith, rest, halved (bit (f t)) (mask_from f k (suc t)) g (bit_small (f t))))

-- among the numbers below n, g is f with x in it
pub record Joins (n : ℕ) (f g : ℕ → Bool) (x : ℕ) : Type 0 where
  pub out : f x ≡ false
  pub within : g x ≡ true
  pub same : (i : ℕ) → i < n → i ≢ x → g i ≡ f i

module _ (n : ℕ) (f g : ℕ → Bool) (x : ℕ) (j : Joins n f g x) where
  past : (k t : ℕ) → t + k ≤ n → x < t → mask_from g k t ≡ mask_from f k t
  unfolding mask_from
  past zero t b l = refl
  past (suc k) t b l = rw (j.same t (omega arith) (λ e. omega arith), past k (suc t) (omega arith) (omega arith))

  from_joins : (k t : ℕ) → t + k ≤ n → t ≤ x → x < t + k → mask_from g k t ≡ mask_from f k t + 2 ^ (x - t)
  unfolding mask_from
  from_joins zero t b l m = absurd (omega arith)
  from_joins (suc k) t b l m = go (ℕ_discrete t x) (from_joins k (suc t))
    where
      go : Dec (t ≡ x) → (suc t + k ≤ n → suc t ≤ x → x < suc t + k → mask_from g k (suc t) ≡ mask_from f k (suc t) + 2 ^ (x - suc t)) → bit (g t) + 2 * mask_from g k (suc t) ≡ bit (f t) + 2 * mask_from f k (suc t) + 2 ^ (x - t)
      go (yes e) ih =
          let z : x - t ≡ 0 = omega arith in
          let on : g t ≡ true = ap g e ∙ j.within in
          let off : f t ≡ false = ap f e ∙ j.out in
          rw (z, on, off, past k (suc t) (omega arith) (omega arith)) (omega arith)
      go (no q) ih =
          let z : x - t ≡ suc (x - suc t) = omega arith in
          rw (z, pow-suc, j.same t (omega arith) q, ih (omega arith) (omega arith) (omega arith)) (omega arith)

  -- a number joins the mask, and so leaves it, by its power of two
  pub mask_joins : x < n → mask g n ≡ mask f n + 2 ^ x
  mask_joins l = let z : x - 0 ≡ x = omega arith in rw z at (from_joins n 0 (omega arith) (omega arith) (omega arith))
