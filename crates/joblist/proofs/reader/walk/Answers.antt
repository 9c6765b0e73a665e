-- `reader::walk` meets its contract. The invariant: what is left of the checks and of the stores gives what all of them give.
use Rattle.std.proofs.Common.{◌≡◌, Err, rules, arith}
use Rattle.list_parts.proofs.Laws.Parts.{part_rest}
use Rattle.joblist.proofs.Walk.{walk_next, walk_stop, walk_left_over, walk_end}
use Rattle.joblist.proofs.reader.walk.Goals as goal

pub loop-job-preserved : goal.loop-job-preserved
loop-job-preserved c =
    walk_next c.loop-job.invariant c.loop-job-test.true (part_rest c.loop-job.at c.args.bytes.now) c.read.ensures
    c.in_ok-f.f c.in_ok-f.was

pub returns-in_err-f : goal.returns-in_err-f
returns-in_err-f c =
    let told : c.from_residual.result ≡ Err c.in_err-f.field-0.0 = search rules in
    rw told
    (walk_stop c.loop-job.invariant c.loop-job-test.true (part_rest c.loop-job.at c.args.bytes.now) c.read.ensures
    c.in_err-f.field-0.0 c.in_err-f.was)

pub returns-then-at-total : goal.returns-then-at-total
returns-then-at-total c = walk_left_over c.loop-job.invariant c.loop-job-test.false (omega (arith, c.if-at-total.true))

pub returns : goal.returns
returns c = walk_end c.loop-job.invariant c.requires c.loop-job-test.false (omega (arith, c.if-at-total.false))
