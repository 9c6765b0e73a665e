-- `find` meets its contract: a run a turn, from the awake slot where it begins.
use Prim.Native.Nat.{◌-◌}
use lib.ListN.{take}
use Rattle.record_map.specs.MapBits.{bits_of}
use Rattle.record.proofs.OneRun.Laws.{Searched}
use Rattle.record.proofs.runs.find.Given as goal

abbrev pub invariant-loop-first : goal.invariant-loop-first
invariant-loop-first l = Searched (take l.h (bits_of l.bits)) l.h l.behind l.k l.seen l.at l.first

abbrev pub decreases-loop-first : goal.decreases-loop-first
decreases-loop-first l = l.h - l.first
