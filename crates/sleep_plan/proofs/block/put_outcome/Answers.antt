-- `put_outcome` meets its contract, by the cases of the outcome.
use Rattle.sleep_plan.proofs.Stores.{puts_overloaded}
use Rattle.sleep_plan.proofs.block.put_outcome.Goals as goal

pub returns-in-Overloaded : goal.returns-in-Overloaded
returns-in-Overloaded c = let a = c.args in puts_overloaded a.block.now a.outcome _ _ c.in-Overloaded.is c.put_numbers-in-Overloaded.ensures
