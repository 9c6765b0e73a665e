-- `has_padding` meets its contract: the bits passed are all 0.
use mathlib.Core.Path.{◌≡◌}
use lib.ListN.{drop}
use Rattle.record_map.specs.MapBits.{bits_of, some_bit}
use Rattle.record_map.proofs.reader.has_padding.Given as goal

abbrev pub invariant-loop-t : goal.invariant-loop-t
invariant-loop-t l = some_bit (drop l.h (bits_of l.bits)) ≡ some_bit (drop l.t (bits_of l.bits))
