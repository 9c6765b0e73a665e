-- `going` meets its contract: each way out is a case of `going_rank`.
use Rattle.std.proofs.Common.{arith}
use Rattle.step4_table.proofs.GoingRank.{latest_lowest, latest_clear, lowest_due, latest_due}
use Rattle.step4_table.proofs.going.Goals as goal

pub returns-then-lowest-latest : goal.returns-then-lowest-latest
returns-then-lowest-latest c = latest_lowest _ _ _ _ (omega (arith, c.if-lowest-latest.true))

pub returns-then-mask-latest-eq0 : goal.returns-then-mask-latest-eq0
returns-then-mask-latest-eq0 c = latest_clear _ _ _ _ (omega (arith, c.if-mask-latest-eq0.true))

pub returns-then-jobs-lowest_job : goal.returns-then-jobs-lowest_job
returns-then-jobs-lowest_job c = lowest_due _ _ _ _ (λ z. c.if-mask-latest-eq0.false (omega arith)) (omega (arith, c.if-jobs-lowest_job.true))

pub returns : goal.returns
returns c = latest_due _ _ _ _ (λ z. c.if-mask-latest-eq0.false (omega arith)) (omega (arith, c.if-jobs-lowest_job.false))
