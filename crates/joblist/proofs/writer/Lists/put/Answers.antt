-- `writer::Lists::put` meets its contract: the header, and the entries behind it.
use Rattle.sched.specs.Jobs.{jobs_of}
use Rattle.joblist.proofs.Spelling.{put_spelling}
use Rattle.joblist.proofs.writer.Lists.put.Goals as goal

pub returns : goal.returns
returns c =
    let l = c.args.self.now in
    put_spelling (jobs_of l.h c.args.q l.releases.now l.deadlines.now l.volumes.now) c.args.out.now
    c.put.new.out _ c.put.ensures c.put_entries.ensures
