-- `slot` meets its contract: a sleeping slot changes nothing, an awake one serves the lowest of its ranks.
use Rattle.queue.proofs.SlotBySlot.{slot_sleeps, slot_can, slot_serves}
use Rattle.queue.proofs.slot.Goals as goal

pub returns-then-table-t : goal.returns-then-table-t
returns-then-table-t c = slot_sleeps _ _ _ _ _ c.if-table-t.true c.requires.lookable.ready

pub serve_lowest-served-requires : goal.serve_lowest-served-requires
serve_lowest-served-requires c = slot_can c.requires.lookable c.current-fresh.ensures

pub returns : goal.returns
returns c =
    slot_serves c.requires.lookable c.current-fresh.ensures _ _ _ _ c.if-table-t.false c.serve_lowest-served.ensures
    c.serve_lowest-served.auto.left
