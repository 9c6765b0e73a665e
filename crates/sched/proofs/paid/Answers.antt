-- `sched::paid` meets its contract: only a run at slot 0 can be free, and only from a start awake.
use native.Mathlib.Omega.{arith}
use Rattle.sched.proofs.Tally.{paid_empty, paid_sleeps, paid_free}
use Rattle.sched.proofs.paid.Goals as goal

pub returns-then-table-eq0 : goal.returns-then-table-eq0
returns-then-table-eq0 c = paid_empty c.args.start c.args.runs c.args.table.now c.if-table-eq0.true c.requires

pub returns-then-table : goal.returns-then-table
returns-then-table c = paid_sleeps c.args.start c.args.runs c.args.table.now (omega (arith, c.if-table.true)) c.requires

pub overflow_sub-result : goal.overflow_sub-result
overflow_sub-result c = omega (arith, paid_free c.args.start c.args.runs c.args.table.now c.if-start.true c.if-table-eq0.false c.if-table.false c.requires)

pub returns-then-start : goal.returns-then-start
returns-then-start c = omega (arith, paid_free c.args.start c.args.runs c.args.table.now c.if-start.true c.if-table-eq0.false c.if-table.false c.requires)
