-- `put_text` meets its contract: the buffer holds every text, so the writer refuses none.
use Rattle.plan.proofs.Printing.{starts_with, always_written}
use Rattle.plan.proofs.put_text.Goals as goal

pub unwrap-requires : goal.unwrap-requires
unwrap-requires c = always_written c.args.outcome _ c.args.table.now _ _ _ c.requires.0 c.requires.1 c.write.ensures

pub returns : goal.returns
returns c = starts_with c.args.outcome _ c.args.table.now _ _ _ c.requires.0 c.requires.1 c.write.ensures _ c.unwrap.ensures
