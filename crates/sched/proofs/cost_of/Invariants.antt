-- `sched::cost_of` meets its contract: each turn counts one slot more, and nothing overflows since there are few slots and runs.
use Rattle.sched.proofs.Tally.{Tally}
use Rattle.sched.proofs.cost_of.Given as goal

abbrev pub invariant-loop-byte : goal.invariant-loop-byte
invariant-loop-byte l = Tally l.table l.awake l.runs l.on l.byte-index
