-- `writer::Lists::put_entries` meets its contract. The invariant: what is left to store gives what all of it gives.
use Rattle.joblist.proofs.Spelling.{stored_room, stored_next, stored_end}
use Rattle.joblist.proofs.writer.Lists.put_entries.Goals as goal

pub put_entry-at-requires : goal.put_entry-at-requires
put_entry-at-requires c =
    let l = c.args.self.now in
    stored_room l.h l.releases.now l.deadlines.now l.volumes.now c.args.out.now l.equal c.loop-job.job c.loop-job.at
    c.loop-job.out c.loop-job-test.true c.loop-job.invariant

pub loop-job-preserved : goal.loop-job-preserved
loop-job-preserved c =
    let l = c.args.self.now in
    stored_next l.h l.releases.now l.deadlines.now l.volumes.now c.args.out.now l.equal c.loop-job.job c.loop-job.at _
    c.loop-job.out _ c.loop-job-test.true c.put_entry-at.ensures c.loop-job.invariant

pub returns : goal.returns
returns c =
    let l = c.args.self.now in
    stored_end l.h l.releases.now l.deadlines.now l.volumes.now c.args.out.now l.equal c.loop-job.job c.loop-job.at
    c.loop-job.out c.loop-job-test.false c.loop-job.invariant
