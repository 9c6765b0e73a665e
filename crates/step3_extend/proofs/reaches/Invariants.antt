-- `step3_extend::reaches` meets its contract, a rank a turn.
use Rattle.step3_extend.proofs.Gathering.{Reaching}
use Rattle.step3_extend.proofs.reaches.Given as goal

abbrev pub invariant-loop-k : goal.invariant-loop-k
invariant-loop-k l = Reaching l.deadlines l.lost l.ends l.reach l.k
