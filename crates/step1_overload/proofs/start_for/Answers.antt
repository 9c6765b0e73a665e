-- `start_for` meets its contract: a turn visits the last of the jobs that are left, and 64 volumes fit 32 bits.
use native.Mathlib.Omega.{arith}
use Rattle.std.proofs.Common.{rules}
use Rattle.step1_overload.proofs.Visiting.{visit_end, visit_late, visit_next, visit_found}
use Rattle.step1_overload.proofs.start_for.Goals as goal

pub returns-then-b-a : goal.returns-then-b-a
returns-then-b-a c =
    visit_found c.loop-at.invariant c.loop-at-test.true (omega (arith, c.if-jobs-job.true)) (omega (arith, c.if-b-a.true))

pub loop-at-preserved-else-b-a : goal.loop-at-preserved-else-b-a
loop-at-preserved-else-b-a c =
    visit_next c.loop-at.invariant c.loop-at-test.true (omega (arith, c.if-jobs-job.true)) (search rules) (omega (arith, c.if-b-a.false))

pub loop-at-preserved : goal.loop-at-preserved
loop-at-preserved c = visit_late c.loop-at.invariant c.loop-at-test.true (omega (arith, c.if-jobs-job.false))

pub returns : goal.returns
returns c = visit_end c.loop-at.invariant c.loop-at-test.false
