-- Longer worked plans, of whose lists `laws_rivals/specs/Cases` has the tables, too; here the order in which step 3 wakes and all figures. A job that goes
-- on behind a sleeping slot (02, card 6). From a start awake (card 10) a list whose least skeleton lasts from slot 0 up to the window, since its run there
-- costs no wake; the job runs behind six slots without work, which is not shorter than q, so that all of the skeleton sleeps and the plan pays a wake. And
-- 01's third list from a start awake: its skeleton has slot 0, the table is the same, and its run costs no wake.
use Rattle.std.specs.Prelude.{refl}
use mathlib.Core.List.{List, [], ◌∷◌, Memᴰ}
use Rattle.sched.specs.Bounded.{total, any_below, all_below, sum_below, max_below, least_from, last_below, values_from, keep, first_least}
use Rattle.sched.specs.Checks.{check_from}
use Rattle.sched.specs.Slots.{times}
use Rattle.sched.specs.Energy.{awake_slots, runs_from}
use Rattle.sched.proofs.Cases.{job, jobs, third, third_table, start_awake, over_sleep, over_sleep_table}
use Rattle.steps.specs.Overload.{volume_if, volume_inside, overloaded, overload_ending_at, shown_overload}
use Rattle.steps.specs.Skeleton.{is_skeleton, all_sets, skeletons, least_of, least_skeleton}
use Rattle.steps.specs.Workable.{most_from, workable}
use Rattle.steps.specs.Extension.{helps, wakeable, next_wake, woken_in, woken, wake_all, extended}
use Rattle.steps.specs.Table.{earliest, urgent, going_on, fill_by, table_of}
use Rattle.steps.specs.Sleep.{sleep_rule}
use Rattle.steps.specs.Steps.{table_from, plan_table}
use Rattle.steps.specs.Outcomes.{figures_of, planned, early_answer, plan_by, plan}
use Rattle.worked_plans.specs.Worked.{members, skeleton_for, order_for, found, plans, Row, Right}
use Rattle.worked_plans.specs.Worked.Laws.{cheaper_test, all_cheaper, all_right}

pub longer : List Row
longer =
    plans over_sleep (1 ∷ 6 ∷ 10 ∷ []) (0 ∷ 2 ∷ 3 ∷ 4 ∷ 9 ∷ []) over_sleep_table (8 ∷ 8 ∷ 3 ∷ 5 ∷ [])
    ∷ plans (start_awake (jobs 12 6 (job 6 8 1 ∷ []))) (0 ∷ 1 ∷ 2 ∷ 3 ∷ 4 ∷ 5 ∷ []) (6 ∷ [])
    (255 ∷ 255 ∷ 255 ∷ 255 ∷ 255 ∷ 255 ∷ 0 ∷ 255 ∷ 255 ∷ 255 ∷ 255 ∷ 255 ∷ []) (7 ∷ 1 ∷ 1 ∷ 1 ∷ [])
    ∷ plans (start_awake third) (0 ∷ 9 ∷ []) (1 ∷ 2 ∷ 3 ∷ 4 ∷ 5 ∷ 8 ∷ []) third_table (10 ∷ 10 ∷ 1 ∷ 6 ∷ [])
    ∷ []

pub longer_plans : (row : Row) → Memᴰ row longer → Right row
unfolding longer members skeleton_for order_for found plans cheaper_test all_cheaper
    times total any_below all_below sum_below max_below least_from last_below keep first_least check_from all_sets awake_slots runs_from
    volume_if volume_inside overloaded overload_ending_at shown_overload is_skeleton skeletons least_of least_skeleton most_from workable
    helps wakeable next_wake woken_in woken wake_all extended earliest urgent going_on fill_by table_of values_from sleep_rule table_from plan_table
    figures_of planned early_answer plan_by plan
longer_plans = all_right longer refl refl
