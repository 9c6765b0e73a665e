-- `count_awake` meets its contract: it adds the ones of one map byte a turn.
use Prim.Native.Nat.{ℕ}
use mathlib.Core.Path.{ap, ◌∙◌}
use mathlib.Core.List.{List, map}
use native.Mathlib.Omega.{arith}
use lib.Count.{ones}
use Rattle.sched.specs.Bounded.{total}
use Rattle.record_map.proofs.MapBytes.Laws.{map_of}
use Rattle.record_map.proofs.Bits.{counted_turn, counted_end}
use Rattle.record_map.proofs.writer.count_awake.Goals as goal

pub loop-k-preserved : goal.loop-k-preserved
loop-k-preserved c = counted_turn _ _ _ _ c.loop-k.invariant _ (omega arith) c.map_byte.ensures

pub returns : goal.returns
returns c = counted_end _ _ _ _ c.loop-k.invariant (omega arith) ∙ ap (λ (bytes : List ℕ). total (map ones bytes)) (map_of c.args.slots.now)
