-- `wake` meets its contract: one pass over the ranks is the chain, and its notes put back what it changed.
use Rattle.std.proofs.Common.{arith, rules, refl, sym, ◌∙◌}
use Rattle.step3_slot.proofs.Noting.{lent_undoable, lent_undone}
use Rattle.step3_slot.proofs.Asking.{asking_start, asking_skipped, asking_on, asking_gained, asking_end}
use Rattle.step3_slot.proofs.Asking.{asking_stops, asking_fits, asking_undoable, asking_written}
use Rattle.step3_slot.proofs.Books.wake.Goals as goal

pub loop-k-init : goal.loop-k-init
loop-k-init c = record { asking = asking_start c.requires.tryable c.requires.noteable; same_lists = search rules }

pub loop-k-preserved-then-not-reaches : goal.loop-k-preserved-then-not-reaches
loop-k-preserved-then-not-reaches c =
    let been = c.loop-k.invariant in
    record { asking = asking_skipped been.asking c.loop-k-test.true (sym c.reaches.ensures ∙ c.if-not-reaches.true); same_lists = been.same_lists }

pub returns-then-self-k-gt0-clause-attempted : goal.returns-then-self-k-gt0-clause-attempted
returns-then-self-k-gt0-clause-attempted c =
    asking_gained c.loop-k.invariant.asking c.loop-k-test.true (sym c.reaches.ensures ∙ c.if-not-reaches.false)
    c.if-self-k-gt0.true _ _ _ _ c.gain.ensures.booked

pub end_below-requires : goal.end_below-requires
end_below-requires c =
    asking_stops c.loop-k.invariant.asking c.loop-k-test.true (sym c.reaches.ensures ∙ c.if-not-reaches.false) c.if-self-k-gt0.false

pub overflow_cast-self : goal.overflow_cast-self
overflow_cast-self c =
    let few = asking_fits c.loop-k.invariant.asking c.loop-k-test.true (sym c.reaches.ensures ∙ c.if-not-reaches.false)
    c.if-self-k-gt0.false _ c.end_below.ensures in
    omega arith

pub loop-k-preserved : goal.loop-k-preserved
loop-k-preserved c =
    let been = c.loop-k.invariant in
    let on = asking_on been.asking c.loop-k-test.true (sym c.reaches.ensures ∙ c.if-not-reaches.false) c.if-self-k-gt0.false _ c.end_below.ensures in
    record { asking = asking_written c.loop-k.noted c.loop-k.notes _ on refl; same_lists = search rules }

pub undo-requires : goal.undo-requires
undo-requires c =
    let been = c.loop-k.invariant.asking in
    lent_undoable c.loop-k.notes been.notes (omega (arith, been.few, been.within, been.can.few)) (asking_undoable been)

pub returns-clause-attempted : goal.returns-clause-attempted
returns-clause-attempted c =
    let been = c.loop-k.invariant.asking in
    let undone = lent_undone c.loop-k.notes been.notes (omega (arith, been.few, been.within, been.can.few)) c.undo.ensures.undone in
    rw (c.undo.ensures.kept.0, c.undo.ensures.kept.1) (asking_end been c.loop-k-test.false _ _ undone)
