-- `serve` meets its contract: what is required of the rank keeps every access in bounds.
use Rattle.queue.proofs.RankBits.{serves_last, serves_more}
use Rattle.queue.proofs.serve.Goals as goal

pub returns-then-left-job-eq0 : goal.returns-then-left-job-eq0
returns-then-left-job-eq0 c = serves_last _ _ _ _ c.requires c.if-left-job-eq0.true

pub returns : goal.returns
returns c = serves_more _ _ _ _ c.requires c.if-left-job-eq0.false
