-- `line::size` meets its contract: the word, the numbers, byte 10.
use native.Mathlib.Omega.{arith}
use Rattle.report.specs.Report.Laws.{numbers_few}
use Rattle.report.proofs.line.size.Goals as goal

pub overflow_add-result : goal.overflow_add-result
overflow_add-result c = omega (arith, c.numbers_size.ensures, numbers_few c.args.values.now, c.requires.0, c.requires.1)

pub overflow_add-result-2 : goal.overflow_add-result-2
overflow_add-result-2 c = omega (arith, c.numbers_size.ensures, numbers_few c.args.values.now, c.requires.0, c.requires.1)
