-- A record that passes the checks, taken apart as the code does: h is its horizon, and its slot bytes begin at `behind`.
use Rattle.std.specs.Prelude.{Ok}
use Prim.Native.Nat.{ℕ, ◌-◌, ◌*◌, ◌≤◌}
use mathlib.Core.Path.{◌≡◌, ap}
use mathlib.Core.List.{List}
use native.Mathlib.Omega.{arith}
use lib.ListN.{length, take, drop}
use Rattle.sched.specs.TwoBytes.{word}
use Rattle.record_map.specs.MapBytes.{map_length}
use Rattle.record_parts.specs.Layout.{behind_map}
use Rattle.record_parts.specs.Bytes.{map_in, record_check}
use Rattle.record_parts.proofs.Bytes.Laws.{GoodRecord, record_passed, length_map_read}

module _ (bytes : List ℕ) (p : record_check bytes ≡ Ok tt) (h : ℕ) (e : h ≡ word bytes) (behind : ℕ) (f : behind ≡ behind_map h) where
  good : GoodRecord bytes
  good = record_passed bytes p

  pub map_is : take (behind - 2) (drop 2 bytes) ≡ map_in (word bytes) bytes
  map_is =
      let q : behind - 2 ≡ map_length (word bytes) = omega (arith, f, ap map_length e) in
      ap (λ (k : ℕ). take k (drop 2 bytes)) q

  -- a bit for each slot
  pub map_marks : h ≤ 8 * length (take (behind - 2) (drop 2 bytes))
  map_marks = omega (arith, ap length map_is, length_map_read bytes good, ap map_length e)
