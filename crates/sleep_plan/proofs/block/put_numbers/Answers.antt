-- `put_numbers` meets its contract: four times four bytes are the sixteen of the answer.
use Rattle.sleep_plan.specs.Block.Laws.{four_puts}
use Rattle.sleep_plan.proofs.block.put_numbers.Goals as goal

pub returns : goal.returns
returns c = let a = c.args in four_puts a.w a.x a.y a.z a.block.now _ _ _ _ c.requires c.put.ensures c.put-2.ensures c.put-3.ensures c.put-4.ensures
