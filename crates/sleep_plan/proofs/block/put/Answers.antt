-- `put` meets its contract: the first four of the eight bytes are copied as a whole.
use Rattle.std.proofs.Common.{arith}
use Rattle.std.proofs.lemmas.Grind.{common_steps}
use Rattle.std.proofs.lemmas.List.Edits.{sets-eq}
use Rattle.sleep_plan.specs.Block.{four_bytes}
use Rattle.sleep_plan.proofs.block.put.Goals as goal

pub returns : goal.returns
returns c =
    let a = c.args in
    let whole = sets-eq (four_bytes a.x) a.block.now a.at c.requires in
    rw whole (grind (arith, common_steps))
