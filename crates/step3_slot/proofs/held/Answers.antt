-- `step3_slot::held` meets its contract: only the first note took a slot that slept.
use Rattle.std.proofs.Common.{◌-◌, arith}
use Rattle.std.proofs.Math.ListN.{get_or-map}
use Rattle.step3_slot.specs.Notes.{takers_of}
use Rattle.step3_slot.proofs.Undoing.{held_first, held_later}
use Rattle.step3_slot.proofs.held.Goals as goal

pub returns-then-i-eq0 : goal.returns-then-i-eq0
returns-then-i-eq0 c = held_first _ _ _ c.if-i-eq0.true

pub returns-else-i-eq0 : goal.returns-else-i-eq0
returns-else-i-eq0 c =
    let taker = get_or-map (λ n. n.taker) c.args.notes.now (c.args.i - 1) (record { taker = 0; slot = 0 }) in
    rw taker at (held_later (takers_of c.args.notes.now) c.args.ranks.now c.args.i (omega (arith, c.if-i-eq0.false)))
