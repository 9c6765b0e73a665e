-- `JobWindows::wake_for` meets its contract: the numbers before place k are new, the others as they were.
use Rattle.step2_skeleton.proofs.Sleeping.{Waked}
use Rattle.step2_skeleton.proofs.JobWindows.wake_for.Given as goal

abbrev pub invariant-loop-k : goal.invariant-loop-k
invariant-loop-k l = Waked l.first l.cost l.self.starts.now l.initial.rests l.rests l.k
