-- `writer::Lists::size` meets its contract. The invariant: the sum so far, with the length of what is left, is the length of all.
use native.Mathlib.Omega.{arith}
use lib.ListN.{get_or}
use Rattle.list_parts.proofs.Laws.Maps.{entry_small}
use Rattle.joblist.proofs.Spelling.{length_turn, length_end}
use Rattle.joblist.proofs.writer.Lists.size.Goals as goal

pub overflow_add-n : goal.overflow_add-n
overflow_add-n c =
    let l = c.args.self.now in
    let j = c.loop-job.job in
    let small = entry_small l.h (get_or l.releases.now j 0) (get_or l.deadlines.now j 0) (get_or l.volumes.now j 0) in
    omega (arith, c.entry_size-n.ensures, small, c.loop-job.invariant.0, l.equal.few)

pub loop-job-preserved : goal.loop-job-preserved
loop-job-preserved c =
    let l = c.args.self.now in
    let j = c.loop-job.job in
    let small = entry_small l.h (get_or l.releases.now j 0) (get_or l.deadlines.now j 0) (get_or l.volumes.now j 0) in
    let turn =
    length_turn l.h l.releases.now l.deadlines.now l.volumes.now l.equal _ c.loop-job.n _ j c.loop-job-test.true
    c.entry_size-n.ensures c.loop-job.invariant.1 in
    (omega (arith, c.entry_size-n.ensures, small, c.loop-job.invariant.0), turn)

pub returns : goal.returns
returns c =
    let l = c.args.self.now in
    length_end l.h l.releases.now l.deadlines.now l.volumes.now l.equal _ c.loop-job.n c.loop-job.job c.loop-job-test.false
    c.loop-job.invariant.1
