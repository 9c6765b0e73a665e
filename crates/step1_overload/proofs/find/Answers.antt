-- `find` meets its contract: the least end and the greatest start for it are what 01 shows.
use native.Mathlib.Omega.{arith}
use Rattle.step1_overload.proofs.Showing.{shows_nothing, shows_at}
use Rattle.step1_overload.proofs.find.Goals as goal

pub returns-then-h-end : goal.returns-then-h-end
returns-then-h-end c = shows_nothing _ c.args.jobs.now c.least_end-end.ensures (omega (arith, c.if-h-end.true))

pub returns : goal.returns
returns c = shows_at _ c.args.jobs.now c.least_end-end.ensures (omega (arith, c.if-h-end.false)) _ c.start_for.ensures
