-- `put_refusal` meets its contract: zeros stand behind the place.
use Rattle.sleep_plan.proofs.Stores.{puts_refusal}
use Rattle.sleep_plan.proofs.block.put_refusal.Goals as goal

pub returns : goal.returns
returns c = let a = c.args in puts_refusal a.r a.block.now _ _ _ c.place.ensures c.put_numbers.ensures c.number.ensures
