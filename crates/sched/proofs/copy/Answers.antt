-- `sched::copy` meets its contract: the first i numbers are those of the source, the rest as they were.
use Rattle.std.proofs.Common.{rules}
use Rattle.sched.proofs.Copied.{copied_turn}
use Rattle.sched.proofs.copy.Goals as goal

pub loop-i-preserved : goal.loop-i-preserved
loop-i-preserved c =
    let a = c.args in
    let l = c.loop-i in
    copied_turn a.from.now a.to.now l.to l.i (search rules) (search rules) l.invariant
