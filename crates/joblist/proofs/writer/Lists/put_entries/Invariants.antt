-- `writer::Lists::put_entries` meets its contract. The invariant: what is left to store gives what all of it gives.
use Rattle.joblist.proofs.Spelling.{Stored}
use Rattle.joblist.proofs.writer.Lists.put_entries.Given as goal

abbrev pub invariant-loop-job : goal.invariant-loop-job
invariant-loop-job l = Stored l.self.h l.self.releases.now l.self.deadlines.now l.self.volumes.now l.initial.out l.job l.at l.out
