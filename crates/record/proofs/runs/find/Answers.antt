-- `find` meets its contract: a run a turn, from the awake slot where it begins.
use native.Mathlib.Omega.{arith}
use Rattle.record_map.proofs.MapBits.Laws.{length_slots}
use Rattle.record.proofs.OneRun.Laws.{searched_start, searched_found, searched_next, searched_small, searched_none}
use Rattle.record.proofs.runs.find.Goals as goal

pub loop-first-init : goal.loop-first-init
loop-first-init c = searched_start _ _ _ _ _ c.end-first.ensures

pub returns-then-seen-k : goal.returns-then-seen-k
returns-then-seen-k c =
    searched_found _ _ _ _ _ _ _ (length_slots _ _ c.requires.2) c.loop-first.invariant _ c.loop-first-test.true c.end-stop.ensures c.if-seen-k.true

pub overflow_add-at : goal.overflow_add-at
overflow_add-at c =
    omega (
      arith,
      searched_small _ _ _ _ _ _ _ (length_slots _ _ c.requires.2) c.loop-first.invariant _ c.loop-first-test.true c.end-stop.ensures,
      c.requires.0,
      c.requires.1,
    )

pub loop-first-preserved : goal.loop-first-preserved
loop-first-preserved c =
    searched_next _ _ _ _ _ _ _ (length_slots _ _ c.requires.2) c.loop-first.invariant _ c.loop-first-test.true c.end-stop.ensures _ c.if-seen-k.false
    c.end-first-in-loop-first.ensures

pub returns : goal.returns
returns c = searched_none _ _ _ _ _ _ _ (length_slots _ _ c.requires.2) c.loop-first.invariant c.loop-first-test.false
