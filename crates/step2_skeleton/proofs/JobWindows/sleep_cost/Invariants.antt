-- `JobWindows::sleep_cost` meets its contract: no window passed so far is waked for, and the first that is not passed is.
use Rattle.step2_skeleton.proofs.Sleeping.{Asleep}
use Rattle.step2_skeleton.proofs.JobWindows.sleep_cost.Given as goal

abbrev pub invariant-loop-k : goal.invariant-loop-k
invariant-loop-k l = Asleep l.self.q l.self.starts.now l.values l.from l.s l.k
