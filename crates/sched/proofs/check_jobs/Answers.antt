-- `check_jobs` meets its contract: a turn is a clause of `check_from`.
use Rattle.sched.proofs.JobByJob.{check_next, check_stop, check_end}
use Rattle.std.proofs.Common.{◌≡◌, Err, sym, ◌∙◌, rules}
use Rattle.sched.proofs.check_jobs.Goals as goal

pub loop-j-preserved : goal.loop-j-preserved
loop-j-preserved c = check_next _ _ _ _ _ _ _ c.loop-j-test.true (sym c.check_job.ensures.same ∙ c.in_ok-check_job.was) c.loop-j.invariant

pub returns-in_err-check_job : goal.returns-in_err-check_job
returns-in_err-check_job c =
    let told : c.from_residual.result ≡ Err c.in_err-check_job.field-0.0 = search rules in
    told ∙ check_stop _ _ _ _ _ _ _ _ c.loop-j-test.true (sym c.check_job.ensures.same ∙ c.in_err-check_job.was) c.loop-j.invariant

pub returns : goal.returns
returns c = check_end _ _ _ _ _ _ _ c.loop-j-test.false c.loop-j.invariant
