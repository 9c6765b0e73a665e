-- `JobLists::check_faults` meets its contract: the pass keeps `Walk`, and the counters are what 24 asks for.
use Rattle.judge.proofs.Walk.{Walk}
use Rattle.judge.proofs.JobLists.check_faults.Given as goal

abbrev pub invariant-loop-t : goal.invariant-loop-t
invariant-loop-t l = Walk l.self.releases.now l.self.deadlines.now l.self.volumes.now l.table l.named l.t
