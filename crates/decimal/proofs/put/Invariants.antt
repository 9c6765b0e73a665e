-- `put` meets its contract: the last digit of what is left goes to the place before those stored.
use Rattle.decimal.specs.Decimal.Laws.{Stored}
use Rattle.decimal.proofs.put.Given as goal

abbrev pub invariant-loop-place : goal.invariant-loop-place
invariant-loop-place l = Stored l.x l.at l.initial.out l.out l.left l.place
