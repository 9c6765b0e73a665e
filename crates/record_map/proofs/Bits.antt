-- The eight bits of a byte from the highest down, and the ones of all bytes.
use Prim.Native.Nat.{ℕ, suc, ◌+◌, ◌*◌, ◌-◌, ◌^◌, ◌≤◌, ◌<◌}
use mathlib.Core.Path.{◌≡◌}
use mathlib.Core.Bool.{Bool}
use mathlib.Core.List.{List, map}
use native.Mathlib.Numerals.{add-one}
use native.Mathlib.Omega.{arith}
use lib.Count.{ones}
use lib.Pow.{pow_mono}
use Rattle.sched.specs.Bits.{bit}
use Rattle.sched.specs.Bounded.{total}
use Rattle.sched.specs.Slots.{awake}
use Rattle.record_map.specs.MapBytes.{bits, map_from}
use Rattle.record_map.proofs.MapBytes.Laws.{bits_small, ones_few}

-- eight slots: those from first + k on are packed

abbrev pub Packed : (first : ℕ) (S : List Bool) (byte k : ℕ) → Type 0
Packed first S byte k = byte ≡ bits (8 - k) (first + k) S

module _ (first : ℕ) (S : List Bool) (byte k : ℕ) (p : Packed first S byte k) (few : k ≤ 8) where
  pub packed_small : 0 < k → byte < 128
  packed_small l =
      let m : 2 ^ (8 - k) ≤ 2 ^ 7 = pow_mono {i = 8 - k} {j = 7} (omega arith) in
      let b : bits (8 - k) (first + k) S < 2 ^ (8 - k) = bits_small (8 - k) (first + k) S in
      omega (arith, p)

  pub packed_turn : (b : ℕ) → 0 < k → b ≡ bit (awake S (first + (k - 1))) → Packed first S (2 * byte + b) (k - 1)
  unfolding bits
  packed_turn b l e =
      let i : 8 - (k - 1) ≡ suc (8 - k) = omega arith in
      let j : suc (first + (k - 1)) ≡ first + k = omega arith in
      rw i (rw j (omega (arith, e, p)))

-- the ones of all bytes: those before byte k are counted

pub record Counted (S : List Bool) (n awake k : ℕ) : Type 0 where
  pub few : awake ≤ 8 * k
  pub counted : total (map ones (map_from n 0 S)) ≡ awake + total (map ones (map_from (n - k) k S))

module _ (S : List Bool) (n awake k : ℕ) (c : Counted S n awake k) where
  pub counted_turn : (byte : ℕ) → k < n → byte ≡ bits 8 (8 * k) S → Counted S n (awake + ones byte) (k + 1)
  unfolding map_from total
  counted_turn byte l e =
      let i : n - k ≡ suc (n - (k + 1)) = omega arith in
      record {
        few = omega (arith, c.few, ones_few byte (8 * k) S e);
        counted = rw (e, add-one k) (omega (arith, rw (i, add-one k) at c.counted));
      }

  pub counted_end : n ≤ k → awake ≡ total (map ones (map_from n 0 S))
  unfolding map_from total
  counted_end l =
      let z : n - k ≡ 0 = omega arith in
      let e : total (map ones (map_from n 0 S)) ≡ awake + 0 = rw z at c.counted in
      omega arith
