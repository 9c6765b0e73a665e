-- `start_for` meets its contract: a turn visits the last of the jobs that are left, and 64 volumes fit 32 bits.
use Rattle.step1_overload.proofs.Visiting.{Visiting}
use Rattle.step1_overload.proofs.start_for.Given as goal

abbrev pub invariant-loop-at : goal.invariant-loop-at
invariant-loop-at l = Visiting l.jobs l.volumes l.b l.sum l.at
