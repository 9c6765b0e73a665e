-- `least_end` meets its contract: each turn is one event further, until the slot behind every other.
use lib.ListN.{length}
use Rattle.step1_overload.specs.Pass.{Passing, rest}
use Rattle.step1_overload.proofs.least_end.Given as goal

abbrev pub invariant-loop-pass : goal.invariant-loop-pass
invariant-loop-pass l = Passing l.jobs l.volumes l.left l.pass

abbrev pub decreases-loop-pass : goal.decreases-loop-pass
decreases-loop-pass l = rest (length l.jobs.releases.now) l.left l.pass
