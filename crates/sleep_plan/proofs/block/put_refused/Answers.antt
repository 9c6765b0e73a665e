-- `put_refused` meets its contract, by the cases of the reader's answer.
use Rattle.sleep_plan.proofs.Stores.{puts_none, puts_refused}
use Rattle.sleep_plan.proofs.block.put_refused.Goals as goal

pub returns-in-Ok : goal.returns-in-Ok
returns-in-Ok c = let a = c.args in puts_none a.block.now a.read _ c.in-Ok.is

pub returns-in-Err : goal.returns-in-Err
returns-in-Err c = let a = c.args in puts_refused a.block.now a.read _ _ _ c.in-Err.is c.put_refusal.ensures
