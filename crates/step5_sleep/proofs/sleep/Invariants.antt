-- `sleep` meets its contract: each working slot closes the stretch before it, and the last stretch sleeps.
use lib.ListN.{length}
use Rattle.step5_sleep.proofs.Settled.{Settled}
use Rattle.step5_sleep.proofs.sleep.Given as goal

abbrev pub invariant-loop-t : goal.invariant-loop-t
invariant-loop-t l = Settled l.q l.start (length l.initial.table) l.initial.table l.table l.from l.t
