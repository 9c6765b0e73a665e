-- `undo` meets its contract: each turn puts one note back.
use Rattle.std.proofs.Common.{◌-◌, rules}
use Rattle.std.proofs.Math.ListN.{get_or-map}
use Rattle.step3_slot.proofs.Undoing.{undoing_rank, undoing_slot, undoing_turn, undoing_end}
use Rattle.step3_slot.proofs.Books.undo.Goals as goal

pub bounds-self-note : goal.bounds-self-note
bounds-self-note c =
    let taker = get_or-map (λ n. n.taker) c.args.notes.now (c.loop-i.i - 1) (record { taker = 0; slot = 0 }) in
    rw taker at (undoing_rank c.loop-i.invariant.undoing c.loop-i-test.true)

pub bounds-self-at : goal.bounds-self-at
bounds-self-at c =
    let slot = get_or-map (λ n. n.slot) c.args.notes.now (c.loop-i.i - 1) (record { taker = 0; slot = 0 }) in
    rw slot at (undoing_slot c.loop-i.invariant.undoing c.loop-i-test.true)

pub loop-i-preserved : goal.loop-i-preserved
loop-i-preserved c =
    let taker = get_or-map (λ n. n.taker) c.args.notes.now (c.loop-i.i - 1) (record { taker = 0; slot = 0 }) in
    let slot = get_or-map (λ n. n.slot) c.args.notes.now (c.loop-i.i - 1) (record { taker = 0; slot = 0 }) in
    let been = c.loop-i.invariant in
    record {
      undoing = rw (taker, slot) at (undoing_turn been.undoing c.loop-i-test.true c.held.result c.held.ensures);
      same_lost = been.same_lost;
      same_ends = been.same_ends;
      same_lists = search rules;
    }

pub returns-clause-undone : goal.returns-clause-undone
returns-clause-undone c = undoing_end c.loop-i.invariant.undoing c.loop-i-test.false
