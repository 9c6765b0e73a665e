-- `units` meets its contract: the volumes are copied to an array of zeros.
use Rattle.queue.proofs.Filling.{units_are}
use Rattle.queue.proofs.units.Goals as goal

pub returns : goal.returns
returns c = units_are _ _ c.requires c.copy.ensures
