-- `sleep` meets its contract: each working slot closes the stretch before it, and the last stretch sleeps.
use native.Mathlib.Omega.{arith}
use Rattle.std.proofs.lemmas.Grind.{common_steps}
use Rattle.step5_sleep.proofs.Settled.{settled_start, settled_rest, settled_work, settled_end}
use Rattle.step5_sleep.proofs.sleep.Goals as goal
use Rattle.step5_sleep.proofs.sleep.Goals.{then-table-t-lt-JOBS, else-table-t-lt-JOBS}

pub loop-t-init : goal.loop-t-init
loop-t-init c = settled_start _ _ _

pub loop-t-preserved : goal.loop-t-preserved
loop-t-preserved c =
    let here = c.loop-t in
    elim c.if-table-t-lt-JOBS.branch [
      | then-table-t-lt-JOBS w ↦
          rw (w.table-is, w.from-is)
          (settled_work here.invariant c.loop-t-test.true w.if-table-t-lt-JOBS.true w.byte_between.ensures (grind (arith, common_steps)) (grind (arith, common_steps)))
      | else-table-t-lt-JOBS w ↦ rw (w.table-is, w.from-is) (settled_rest here.invariant c.loop-t-test.true w.if-table-t-lt-JOBS.false)
    ]

pub returns : goal.returns
returns c = settled_end c.loop-t.invariant c.loop-t-test.false (grind (arith, common_steps))
