-- The map bytes, stored one a turn.
use Prim.Native.Nat.{ℕ, suc, ◌+◌, ◌*◌, ◌-◌, ◌≤◌, ◌<◌}
use mathlib.Core.Path.{◌≡◌}
use mathlib.Core.Bool.{Bool}
use mathlib.Core.List.{List, ◌∷◌}
use native.Mathlib.Numerals.{add-one}
use native.Mathlib.Nat.{sub-zero}
use native.Mathlib.Omega.{arith}
use lib.ListN.{length, set}
use Rattle.record_map.specs.MapBytes.{bits, map_from}
use Rattle.record_map.specs.Stored.{stored}
use Rattle.record_map.proofs.MapBytes.Laws.{length_map_from}
use Rattle.record_map.proofs.Stored.Laws.{Filling, filling_start, filling_turn, filling_end}

-- the map bytes from byte k on

abbrev pub Map : (S : List Bool) (n : ℕ) (out₀ out : List ℕ) (k : ℕ) → Type 0
Map S n out₀ out k = Filling out₀ (map_from n 0 S) out k (map_from (n - k) k S)

pub map_start : (S : List Bool) (n : ℕ) (out : List ℕ) → n ≤ length out → Map S n out out 0
map_start S n out l = rw sub-zero (filling_start out (map_from n 0 S) (rw length_map_from l))

module _ (S : List Bool) (n : ℕ) (out₀ out : List ℕ) (k : ℕ) (s : Map S n out₀ out k) where
  pub map_turn : (byte : ℕ) → k < n → byte ≡ bits 8 (8 * k) S → Map S n out₀ (set out k byte) (k + 1)
  unfolding map_from
  map_turn byte l e =
      let i : n - k ≡ suc (n - (k + 1)) = omega arith in
      let next : Filling out₀ (map_from n 0 S) out k (byte ∷ map_from (n - (k + 1)) (k + 1) S) = rw (e, add-one k) (rw (i, add-one k) at s) in
      filling_turn out₀ (map_from n 0 S) out k byte (map_from (n - (k + 1)) (k + 1) S) next

  pub map_end : n ≤ length out₀ → n ≤ k → out ≡ stored (map_from n 0 S) out₀
  unfolding map_from
  map_end m l =
      let z : n - k ≡ 0 = omega arith in
      filling_end out₀ (map_from n 0 S) out k (rw length_map_from m) (rw z at s)
