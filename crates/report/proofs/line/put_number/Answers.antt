-- `line::put_number` meets its contract: the digits stand behind the space.
use Rattle.report.proofs.Putting.{number_put}
use Rattle.report.proofs.line.put_number.Goals as goal

pub returns : goal.returns
returns c = number_put _ _ _ _ _ c.requires c.put.ensures
