-- `line::numbers_size` meets its contract: a number a turn.
use Rattle.report.proofs.Putting.{Sized}
use Rattle.report.proofs.line.numbers_size.Given as goal

abbrev pub invariant-loop-x : goal.invariant-loop-x
invariant-loop-x l = Sized l.values l.n l.x-index
