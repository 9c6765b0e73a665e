-- `is_awake` meets its contract: the byte of the slot, shifted.
use mathlib.Core.Path.{sym}
use native.Mathlib.Omega.{arith}
use Rattle.record_map.proofs.MapBits.Laws.{bits_at}
use Rattle.record_map.proofs.reader.is_awake.Goals as goal

pub bounds-bits-t : goal.bounds-bits-t
bounds-bits-t c = omega (arith, c.requires)

pub returns : goal.returns
returns c = sym (bits_at _ _ c.requires)
