-- `JobWindows::best_end` meets its contract: after each window the best end of those looked at is known for every list.
use Rattle.step2_skeleton.proofs.Sleeping.{Ended}
use Rattle.step2_skeleton.proofs.JobWindows.best_end.Given as goal

abbrev pub invariant-loop-k : goal.invariant-loop-k
invariant-loop-k l = Ended l.self.starts.now l.rests l.from l.low l.through l.best.end l.best.through l.k
