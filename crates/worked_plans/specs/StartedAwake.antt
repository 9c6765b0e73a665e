-- 02, card 10: worked plans from a start awake, and at the end three of these lists from a start asleep, to compare. In the first the start touches
-- nothing, so that slot 0 is not woken; in the fifth all of the skeleton sleeps in the end; the sixth has a run that is free and one that is paid.
-- Longer lists are in `Longer` and in `laws_rivals/specs/Cases`.
use Rattle.std.specs.Prelude.{refl}
use mathlib.Core.List.{List, [], ◌∷◌, Memᴰ}
use Rattle.sched.specs.Bounded.{total, any_below, all_below, sum_below, max_below, least_from, last_below, values_from, keep, first_least}
use Rattle.sched.specs.Checks.{check_from}
use Rattle.sched.specs.Slots.{times}
use Rattle.sched.specs.Energy.{awake_slots, runs_from}
use Rattle.sched.proofs.Cases.{job, jobs, start_awake}
use Rattle.steps.specs.Overload.{volume_if, volume_inside, overloaded, overload_ending_at, shown_overload}
use Rattle.steps.specs.Skeleton.{is_skeleton, all_sets, skeletons, least_of, least_skeleton}
use Rattle.steps.specs.Workable.{most_from, workable}
use Rattle.steps.specs.Extension.{helps, wakeable, next_wake, woken_in, woken, wake_all, extended}
use Rattle.steps.specs.Table.{earliest, urgent, going_on, fill_by, table_of}
use Rattle.steps.specs.Sleep.{sleep_rule}
use Rattle.steps.specs.Steps.{table_from, plan_table}
use Rattle.steps.specs.Outcomes.{figures_of, planned, early_answer, plan_by, plan}
use Rattle.worked_plans.specs.Worked.{members, skeleton_for, order_for, found, plans, Row, Right}
use Rattle.worked_plans.specs.Worked.Laws.{cheaper_test, all_cheaper, all_right}

pub started_awake : List Row
started_awake =
    plans (start_awake (jobs 4 2 (job 0 2 1 ∷ job 3 4 1 ∷ []))) (2 ∷ []) (1 ∷ 3 ∷ []) (254 ∷ 0 ∷ 254 ∷ 1 ∷ []) (4 ∷ 4 ∷ 1 ∷ 2 ∷ [])
    ∷ plans (start_awake (jobs 3 2 (job 0 1 1 ∷ job 2 3 1 ∷ []))) (0 ∷ 1 ∷ []) (2 ∷ []) (0 ∷ 254 ∷ 1 ∷ []) (3 ∷ 3 ∷ 1 ∷ 1 ∷ [])
    ∷ plans (start_awake (jobs 4 1 (job 0 2 1 ∷ job 2 3 1 ∷ []))) (2 ∷ []) (1 ∷ []) (255 ∷ 0 ∷ 1 ∷ 255 ∷ []) (3 ∷ 2 ∷ 1 ∷ 1 ∷ [])
    ∷ plans (start_awake (jobs 2 1 (job 0 1 1 ∷ []))) (0 ∷ []) [] (0 ∷ 255 ∷ []) (1 ∷ 1 ∷ 1 ∷ 0 ∷ [])
    ∷ plans (start_awake (jobs 4 2 (job 2 4 1 ∷ []))) (0 ∷ 1 ∷ []) (2 ∷ []) (255 ∷ 255 ∷ 0 ∷ 255 ∷ []) (3 ∷ 1 ∷ 1 ∷ 1 ∷ [])
    ∷ plans (start_awake (jobs 4 1 (job 0 1 1 ∷ job 3 4 1 ∷ []))) (1 ∷ 2 ∷ []) (0 ∷ 3 ∷ []) (0 ∷ 255 ∷ 255 ∷ 1 ∷ []) (3 ∷ 2 ∷ 2 ∷ 2 ∷ [])
    ∷ plans (start_awake (jobs 1 5 [])) [] [] (255 ∷ []) (0 ∷ 0 ∷ 0 ∷ 0 ∷ [])
    ∷ plans (jobs 4 2 (job 0 2 1 ∷ job 3 4 1 ∷ [])) (2 ∷ []) (1 ∷ 3 ∷ []) (255 ∷ 0 ∷ 254 ∷ 1 ∷ []) (5 ∷ 3 ∷ 1 ∷ 2 ∷ [])
    ∷ plans (jobs 3 2 (job 0 1 1 ∷ job 2 3 1 ∷ [])) (1 ∷ []) (0 ∷ 2 ∷ []) (0 ∷ 254 ∷ 1 ∷ []) (5 ∷ 3 ∷ 1 ∷ 2 ∷ [])
    ∷ plans (jobs 2 1 (job 0 1 1 ∷ [])) (1 ∷ []) (0 ∷ []) (0 ∷ 255 ∷ []) (2 ∷ 1 ∷ 1 ∷ 1 ∷ [])
    ∷ []

pub started_awake_plans : (row : Row) → Memᴰ row started_awake → Right row
unfolding started_awake members skeleton_for order_for found plans cheaper_test all_cheaper
    times total any_below all_below sum_below max_below least_from last_below keep first_least check_from all_sets awake_slots runs_from
    volume_if volume_inside overloaded overload_ending_at shown_overload is_skeleton skeletons least_of least_skeleton most_from workable
    helps wakeable next_wake woken_in woken wake_all extended earliest urgent going_on fill_by table_of values_from sleep_rule table_from plan_table
    figures_of planned early_answer plan_by plan
started_awake_plans = all_right started_awake refl refl
