-- `step3_extend::ends_of` meets its contract: a later slot of a job overwrites an earlier one.
use Rattle.step3_extend.proofs.Ends.{EndsTo}
use Rattle.step3_extend.proofs.ends_of.Given as goal

abbrev pub invariant-loop-t : goal.invariant-loop-t
invariant-loop-t l = EndsTo l.table l.ends l.t
