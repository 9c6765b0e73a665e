-- The pass over the padding of a map that is read.
use Prim.Native.Nat.{ℕ, ◌+◌, ◌≤◌, ◌<◌}
use mathlib.Core.Path.{◌≡◌}
use mathlib.Core.Bool.{Bool, true, false}
use mathlib.Core.List.{List}
use native.Mathlib.Numerals.{add-one}
use lib.ListN.{length, drop, drop_of_length-le}
use lib.Seq.{drop-cons}
use Rattle.sched.specs.Slots.{awake}
use Rattle.record_map.specs.MapBits.{some_bit}

-- a bit, and the end
module _ (B : List Bool) (t : ℕ) where
  pub padding_clear : t < length B → awake B t ≡ false → some_bit (drop t B) ≡ some_bit (drop (t + 1) B)
  unfolding some_bit
  padding_clear l e = rw (add-one, drop-cons B t false l, e)

  pub padding_stands : t < length B → awake B t ≡ true → some_bit (drop t B) ≡ true
  unfolding some_bit
  padding_stands l e = rw (drop-cons B t false l, e)

  pub padding_end : length B ≤ t → some_bit (drop t B) ≡ false
  unfolding some_bit
  padding_end l = rw (drop_of_length-le B {i = t} l)
