-- `fill` meets its contract: a byte a turn joins the stretch.
use Rattle.sched.proofs.Poured.{Poured}
use Rattle.sched.proofs.fill.Given as goal

abbrev pub invariant-loop-i : goal.invariant-loop-i
invariant-loop-i l = Poured l.initial.table l.from l.to l.byte l.table l.i
