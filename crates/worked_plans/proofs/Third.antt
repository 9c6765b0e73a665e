-- What the steps give of the third plan, for other cases to cite.
use Rattle.std.specs.Prelude.{◌≡◌, refl}
use Rattle.std.proofs.Common.{sym, ◌∙◌}
use Rattle.std.proofs.Math.Option.{none}
use mathlib.Core.List.Memᴰ.{head as here}
use mathlib.Core.List.Memᴰ.{tail as later}
use mathlib.Core.List.{List, [], ◌∷◌, append-nil, Memᴰ}
use Rattle.sched.specs.Bounded.{total, any_below, all_below, sum_below, max_below, least_from, last_below, values_from, keep, first_least}
use Rattle.sched.specs.Checks.{check_from}
use Rattle.sched.specs.Slots.{times}
use Rattle.sched.specs.Energy.{awake_slots, runs_from}
use Rattle.sched.proofs.Cases.{job, jobs, third, third_table}
use Rattle.steps.specs.Overload.{volume_if, volume_inside, overloaded, overload_ending_at, shown_overload}
use Rattle.steps.specs.Skeleton.{is_skeleton, all_sets, skeletons, least_of, least_skeleton}
use Rattle.steps.specs.Workable.{most_from, workable}
use Rattle.steps.specs.Extension.{helps, wakeable, next_wake, woken_in, woken, wake_all, extended}
use Rattle.steps.specs.Table.{earliest, urgent, going_on, fill_by, table_of}
use Rattle.steps.specs.Sleep.{sleep_rule}
use Rattle.steps.specs.Steps.{table_from, plan_table}
use Rattle.steps.specs.Outcomes.{figures_of, planned, early_answer, plan_by, plan}
use Rattle.worked_plans.specs.Worked.{members, skeleton_for, order_for, found, plans, overloads, beaten, Row, Right}
use Rattle.worked_plans.specs.Worked.Laws.{cheaper_test, all_cheaper, all_right, row_steps}
use Rattle.worked_plans.specs.Starred.{starred, starred_plans}

-- the third plan's table and order, for other cases to cite
third_open : early_answer third 10 ≡ none
unfolding total any_below sum_below least_from check_from volume_if volume_inside overloaded overload_ending_at shown_overload early_answer
third_open = refl

pub third_steps : (plan_table third ≡ third_table) × (woken third (least_skeleton third) ≡ 2 ∷ 1 ∷ 0 ∷ 4 ∷ 5 ∷ 8 ∷ [])
unfolding starred plans
third_steps =
    let (table, order) = row_steps third _ (starred_plans _ (later (later (here refl)))).gives third_open in
    (sym (append-nil (plan_table third)) ∙ table, order)
