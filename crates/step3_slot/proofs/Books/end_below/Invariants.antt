-- `end_below` meets its contract: it scans downwards as `end_below` does, and a slot that holds the byte stays below.
use Rattle.laws_extension.specs.Chain.{end_below}
use Rattle.step3_slot.specs.Books.{Stops}
use mathlib.Core.Path.{◌≡◌}
use Rattle.step3_slot.proofs.Books.end_below.Given as goal

abbrev pub invariant-loop-s : goal.invariant-loop-s
invariant-loop-s l = Stops l.byte l.s l.self.table.now × (end_below l.byte l.below l.self.table.now ≡ end_below l.byte l.s l.self.table.now)

abbrev pub decreases-loop-s : goal.decreases-loop-s
decreases-loop-s l = l.s
