-- What is behind a whole map without padding.
use Prim.Native.Nat.{ℕ, suc, ◌-◌, ◌*◌, ◌≤◌}
use mathlib.Core.Path.{◌≡◌, sym, ap, ◌∙◌}
use mathlib.Core.Bool.{Bool, false}
use mathlib.Core.List.{List, [], ◌∷◌, map}
use native.Mathlib.Omega.{arith}
use borrow.Author.Tests.{le-ltb}
use lib.ListN.{length, take, drop}
use lib.Count.{ones, ones-le}
use Rattle.sched.specs.Bounded.{total}
use Rattle.sched.specs.TwoBytes.{AreBytes}
use Rattle.record_map.specs.MapBytes.{map_length}
use Rattle.record_map.specs.MapBits.{bits_of, some_bit}
use Rattle.record_parts.specs.Layout.{behind_map}
use Rattle.record_parts.specs.Bytes.{map_in, padding_in, slot_byte_count, slot_bytes_check, body_check}
use Rattle.record_parts.proofs.Bytes.Laws.{length_map_in, map_in_bytes}
use Rattle.sched.specs.Refusals.{Checked}

-- the map is the part from offset 2 up to but without `behind`

total_ones : (M : List ℕ) → AreBytes M → total (map ones M) ≤ 8 * length M
unfolding total
total_ones [] small = omega arith
total_ones (byte ∷ M) small = omega (arith, ones-le 8 byte (small 0), total_ones M (λ i. small (suc i)))

module _ (h behind : ℕ) (bytes : List ℕ) (e : behind ≡ behind_map h) where
  map_is : take (behind - 2) (drop 2 bytes) ≡ map_in h bytes
  map_is = let q : behind - 2 ≡ map_length h = omega arith in ap (λ (k : ℕ). take k (drop 2 bytes)) q

  module _ (l : behind ≤ length bytes) (x : Bool) (f : x ≡ some_bit (drop h (bits_of (take (behind - 2) (drop 2 bytes))))) where
    padding : (b : Bool) → x ≡ b → some_bit (padding_in h bytes) ≡ b
    padding b g = ap (λ (M : List ℕ). some_bit (drop h (bits_of M))) (sym map_is) ∙ sym f ∙ g

    module _ (count : ℕ) (k : count ≡ total (map ones (take (behind - 2) (drop 2 bytes)))) where
      counted : count ≡ slot_byte_count h bytes
      counted = k ∙ ap (λ (M : List ℕ). total (map ones M)) map_is

      pub count_few : h ≤ 4096 → AreBytes bytes → count ≤ 4096
      count_few few small =
          omega (arith, counted, total_ones (map_in h bytes) (map_in_bytes h bytes small), length_map_in h bytes (omega arith))

      pub body_rest : x ≡ false → (c : Checked) → c ≡ slot_bytes_check behind count bytes → c ≡ body_check h bytes
      body_rest g c d =
          d ∙ ap (λ (b : ℕ). slot_bytes_check b count bytes) e ∙ ap (λ (n : ℕ). slot_bytes_check (behind_map h) n bytes) counted
          ∙ sym (simp (le-ltb (length bytes) (behind_map h) (omega arith), padding false g))
