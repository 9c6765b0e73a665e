-- `put` meets its contract: the last digit of what is left goes to the place before those stored, the first one to `at`.
use Rattle.std.proofs.Common.{arith, ap, ◌+◌, ℕ}
use Rattle.decimal.specs.Decimal.Laws.{stored_start, stored_first, stored_turn, stored_end, stored_high, stored_low}
use Rattle.decimal.proofs.put.Goals as goal

pub loop-place-init : goal.loop-place-init
loop-place-init c = stored_start _ _ _ _ c.ranges.x.fits c.requires (ap (λ (n : ℕ). c.args.at + n) c.size.ensures)

pub loop-place-preserved : goal.loop-place-preserved
loop-place-preserved c =
    let s = c.loop-place.invariant in
    stored_turn _ _ _ _ _ _ s (stored_high _ _ _ _ _ _ s c.loop-place-test.true)

pub overflow_cast-out-2 : goal.overflow_cast-out-2
overflow_cast-out-2 c = let s = c.loop-place.invariant in omega (arith, stored_low _ _ _ _ _ _ s c.loop-place-test.false)

pub overflow_add-out-2 : goal.overflow_add-out-2
overflow_add-out-2 c = let s = c.loop-place.invariant in omega (arith, stored_low _ _ _ _ _ _ s c.loop-place-test.false)

pub bounds-out-at : goal.bounds-out-at
bounds-out-at c = stored_first _ _ _ _ _ _ c.loop-place.invariant

pub returns : goal.returns
returns c =
    let s = c.loop-place.invariant in
    stored_end _ _ _ _ _ _ s (stored_low _ _ _ _ _ _ s c.loop-place-test.false) _ c.requires (ap (λ (n : ℕ). c.args.at + n) c.size.ensures)
