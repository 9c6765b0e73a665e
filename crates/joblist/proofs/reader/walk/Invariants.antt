-- `reader::walk` meets its contract. The invariant: what is left of the checks and of the stores gives what all of them give.
use Rattle.joblist.proofs.Walk.{WalkedTo}
use Rattle.joblist.proofs.reader.walk.Given as goal

abbrev pub invariant-loop-job : goal.invariant-loop-job
invariant-loop-job l = WalkedTo l.h l.count l.bytes l.initial.releases l.initial.deadlines l.initial.volumes l.at l.job l.releases l.deadlines l.volumes
