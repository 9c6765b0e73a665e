-- `plan` meets its contract: an answer before any step, or the steps on the table's first h bytes.
use mathlib.Core.Path.{sym, refl, ◌∙◌}
use lib.Seq.{length-take-le}
use Rattle.steps.proofs.Outcomes.Laws.{early_open}
use Rattle.front.specs.Early.Laws.{ended_some, open_none}
use Rattle.orders.specs.Fronts.{front_length}
use Rattle.planner.proofs.Promises.Laws.{answered_early, steps_planned}
use Rattle.planner.proofs.plan.Goals as goal

pub returns-in-Err : goal.returns-in-Err
returns-in-Err c = answered_early _ _ _ (ended_some _ _ (sym c.in-Err.is ∙ (c.begin.ensures.early c.args.q c.args.start).same))

pub slice_bounds-follow-end : goal.slice_bounds-follow-end
slice_bounds-follow-end c = (early_open _ _ (open_none _ (sym c.in_default.is ∙ (c.begin.ensures.early c.args.q c.args.start).same))).1

pub slice_bounds-follow-end-2 : goal.slice_bounds-follow-end-2
slice_bounds-follow-end-2 c = front_length _ _ (early_open _ _ (open_none _ (sym c.in_default.is ∙ (c.begin.ensures.early c.args.q c.args.start).same))).1

pub follow-requires : goal.follow-requires
follow-requires c =
    let (passes, enough, none_shown) = early_open _ _ (open_none _ (sym c.in_default.is ∙ (c.begin.ensures.early c.args.q c.args.start).same)) in
    record { passes = passes; none_shown = none_shown; long = length-take-le _ _ enough }

pub returns : goal.returns
returns c =
    steps_planned _ _ _ _ _ (open_none _ (sym c.in_default.is ∙ (c.begin.ensures.early c.args.q c.args.start).same)) c.follow.ensures refl
