-- `turn` meets its contract: each of its ends is one event.
use native.Mathlib.Omega.{arith}
use Rattle.queue.specs.Mask.Laws.{shifted}
use Rattle.step1_overload.proofs.Turning.{arrivable, low_listed, low_small, low_bit, deadline_listed, arrive_turns, idle_turns, part_turns, finish_turns}
use Rattle.step1_overload.proofs.turn.Goals as goal

pub arrive-requires : goal.arrive-requires
arrive-requires c = arrivable c.requires (omega (arith, c.if-last.true))

pub returns-then-last : goal.returns-then-last
returns-then-last c = arrive_turns c.requires (omega (arith, c.if-last.true)) c.arrive.ensures

pub returns-then-last-eq0 : goal.returns-then-last-eq0
returns-then-last-eq0 c = idle_turns c.requires (omega (arith, c.if-last.false)) c.if-last-eq0.true

pub bounds-jobs-rank : goal.bounds-jobs-rank
bounds-jobs-rank c = low_listed c.requires c.if-last-eq0.false

pub returns-then-room-units : goal.returns-then-room-units
returns-then-room-units c = part_turns c.requires c.if-last-eq0.false (omega (arith, c.if-last.false)) (omega (arith, c.if-room-units.true))

pub overflow_sub-result : goal.overflow_sub-result
overflow_sub-result c = rw (shifted _ (low_small c.requires c.if-last-eq0.false)) (low_bit c.requires c.if-last-eq0.false)

pub bounds-jobs-job : goal.bounds-jobs-job
bounds-jobs-job c = deadline_listed c.requires c.if-last-eq0.false

pub returns : goal.returns
returns c =
    finish_turns c.requires c.if-last-eq0.false _ _ (shifted _ (low_small c.requires c.if-last-eq0.false)) (omega (arith, c.if-last.false))
    (omega (arith, c.if-room-units.false)) c.end_after.ensures
