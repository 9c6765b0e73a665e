-- `step3_extend::ends_of` meets its contract: a later slot of a job overwrites an earlier one.
use Rattle.step3_extend.proofs.Ends.{ends_start, ends_turn, ends_pass, ends_done}
use Rattle.step3_extend.proofs.ends_of.Goals as goal
use Rattle.step3_extend.proofs.ends_of.Goals.{then-byte-lt64, else-byte-lt64}

pub loop-t-init : goal.loop-t-init
loop-t-init c = ends_start _ c.requires

pub loop-t-preserved : goal.loop-t-preserved
loop-t-preserved c =
    let been = c.loop-t.invariant in
    elim c.if-byte-lt64.branch [
      | then-byte-lt64 w ↦ rw w.ends-is (ends_turn _ _ _ been c.loop-t-test.true w.if-byte-lt64.true)
      | else-byte-lt64 w ↦ rw w.ends-is (ends_pass _ _ _ been c.loop-t-test.true w.if-byte-lt64.false)
    ]

pub returns-clause-each : goal.returns-clause-each
returns-clause-each c = ends_done _ _ _ c.loop-t.invariant c.loop-t-test.false
