-- `slot` meets its contract: a sleeping slot changes nothing, an awake one runs the rank that goes on, or idles.
use Rattle.step4_table.proofs.SlotBySlot.{slot_can_go, slot_can_serve, slot_idles, slot_runs}
use Rattle.step4_table.proofs.slot.Goals as goal

pub returns-then-ready-eq0 : goal.returns-then-ready-eq0
returns-then-ready-eq0 c job stands = slot_idles c.requires.lookable c.current-ready.ensures _ _ job c.if-table-t.false stands c.if-ready-eq0.true

pub going-rank-requires : goal.going-rank-requires
going-rank-requires c =
    let begin = c.requires in
    slot_can_go begin.lookable c.current-ready.ensures _ begin.job begin.stands c.if-ready-eq0.false

pub serve-served-requires : goal.serve-served-requires
serve-served-requires c =
    let begin = c.requires in
    slot_can_serve begin.lookable c.current-ready.ensures _ begin.job begin.stands c.if-ready-eq0.false _ c.going-rank.ensures

pub returns : goal.returns
returns c job stands =
    slot_runs c.requires.lookable c.current-ready.ensures _ _ job _ _ _ _ c.if-table-t.false stands c.if-ready-eq0.false c.going-rank.ensures
    c.serve-served.ensures c.serve-served.auto.left
