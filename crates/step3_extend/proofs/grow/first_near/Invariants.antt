-- `grow::first_near` meets its contract: up to the first awake slot all sleep.
use Rattle.step3_extend.proofs.Reading.{Sleeping}
use Rattle.step3_extend.proofs.grow.first_near.Given as goal

abbrev pub invariant-loop-t : goal.invariant-loop-t
invariant-loop-t l = Sleeping l.books.table.now l.t
