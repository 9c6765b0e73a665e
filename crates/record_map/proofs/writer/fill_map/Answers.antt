-- `fill_map` meets its contract: it stores one map byte a turn.
use native.Mathlib.Omega.{arith}
use Rattle.record_map.proofs.MapBytes.Laws.{map_of}
use Rattle.record_map.proofs.MapFilling.{map_start, map_turn, map_end}
use Rattle.record_map.proofs.writer.fill_map.Goals as goal

pub loop-k-init : goal.loop-k-init
loop-k-init c = map_start _ _ _ c.requires.1

pub loop-k-preserved : goal.loop-k-preserved
loop-k-preserved c = map_turn _ _ _ _ _ c.loop-k.invariant _ (omega arith) c.map_byte.ensures

pub returns : goal.returns
returns c = rw (← map_of c.args.slots.now) (map_end _ _ _ _ _ c.loop-k.invariant c.requires.1 (omega arith))
