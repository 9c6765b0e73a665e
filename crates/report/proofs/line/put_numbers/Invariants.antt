-- `line::put_numbers` meets its contract: a number a turn.
use lib.ListN.{drop}
use Rattle.report.specs.Report.{numbers}
use Rattle.report.proofs.Putting.{ToPut}
use Rattle.report.proofs.line.put_numbers.Given as goal

abbrev pub invariant-loop-x : goal.invariant-loop-x
invariant-loop-x l = ToPut l.initial.out l.at (numbers l.values) l.out l.place (numbers (drop l.x-index l.values))
