-- 01, "Plans worked by hand": the starred plans, in one table, and the one claim that the definitions give just these. Figures and tables are those
-- after cards 5 and 6 of 02. What 01 and 02 do not name (some skeletons, orders, tables and figures) was computed by a separate search, or by hand. The
-- two rows before the last are card 6's: its own table, and a job that gave way and has no claim afterwards. The last row is a plan that is not the
-- best, with two stretches of just q slots: it has a rival's table that costs less, and the claim speaks of that, too.
use Rattle.std.specs.Prelude.{◌≡◌, refl}
use Rattle.std.proofs.Common.{sym, ◌∙◌}
use Rattle.std.proofs.Math.Option.{none}
use mathlib.Core.List.Memᴰ.{head as here}
use mathlib.Core.List.Memᴰ.{tail as later}
use mathlib.Core.List.{List, [], ◌∷◌, append-nil, Memᴰ}
use Rattle.sched.specs.Bounded.{total, any_below, all_below, sum_below, max_below, least_from, last_below, values_from, keep, first_least}
use Rattle.sched.specs.Checks.{check_from}
use Rattle.sched.specs.Slots.{times}
use Rattle.sched.specs.Energy.{awake_slots, runs_from}
use Rattle.sched.proofs.Cases.{job, jobs, third, third_table}
use Rattle.steps.specs.Overload.{volume_if, volume_inside, overloaded, overload_ending_at, shown_overload}
use Rattle.steps.specs.Skeleton.{is_skeleton, all_sets, skeletons, least_of, least_skeleton}
use Rattle.steps.specs.Workable.{most_from, workable}
use Rattle.steps.specs.Extension.{helps, wakeable, next_wake, woken_in, woken, wake_all, extended}
use Rattle.steps.specs.Table.{earliest, urgent, going_on, fill_by, table_of}
use Rattle.steps.specs.Sleep.{sleep_rule}
use Rattle.steps.specs.Steps.{table_from, plan_table}
use Rattle.steps.specs.Outcomes.{figures_of, planned, early_answer, plan_by, plan}
use Rattle.worked_plans.specs.Worked.{members, skeleton_for, order_for, found, plans, overloads, beaten, Row, Right}
use Rattle.worked_plans.specs.Worked.Laws.{cheaper_test, all_cheaper, all_right, row_steps}

unfoldable pub starred : List Row
starred =
    plans (jobs 12 3 (job 0 4 2 ∷ job 6 10 2 ∷ [])) (4 ∷ 5 ∷ []) (3 ∷ 2 ∷ 6 ∷ 7 ∷ [])
    (255 ∷ 255 ∷ 0 ∷ 0 ∷ 254 ∷ 254 ∷ 1 ∷ 1 ∷ 255 ∷ 255 ∷ 255 ∷ 255 ∷ []) (9 ∷ 6 ∷ 1 ∷ 4 ∷ [])
    ∷ plans (jobs 12 1 (job 0 4 2 ∷ job 6 10 2 ∷ [])) (4 ∷ 5 ∷ []) (3 ∷ 2 ∷ 6 ∷ 7 ∷ [])
    (255 ∷ 255 ∷ 0 ∷ 0 ∷ 255 ∷ 255 ∷ 1 ∷ 1 ∷ 255 ∷ 255 ∷ 255 ∷ 255 ∷ []) (6 ∷ 4 ∷ 2 ∷ 4 ∷ [])
    ∷ plans third (3 ∷ 9 ∷ []) (2 ∷ 1 ∷ 0 ∷ 4 ∷ 5 ∷ 8 ∷ []) third_table (13 ∷ 10 ∷ 1 ∷ 6 ∷ [])
    ∷ plans (jobs 8 2 (job 2 5 3 ∷ [])) (5 ∷ []) (4 ∷ 3 ∷ 2 ∷ [])
    (255 ∷ 255 ∷ 0 ∷ 0 ∷ 0 ∷ 255 ∷ 255 ∷ 255 ∷ []) (5 ∷ 3 ∷ 1 ∷ 3 ∷ [])
    ∷ overloads (jobs 8 1 (job 2 5 4 ∷ [])) 2 5
    ∷ overloads (jobs 3 1 (job 0 2 2 ∷ job 1 3 2 ∷ [])) 0 3
    ∷ plans (jobs 3 1 (job 0 2 2 ∷ job 1 3 1 ∷ [])) (2 ∷ []) (1 ∷ 0 ∷ []) (0 ∷ 0 ∷ 1 ∷ []) (4 ∷ 3 ∷ 1 ∷ 2 ∷ [])
    ∷ plans (jobs 2 1 (job 0 2 1 ∷ job 0 2 1 ∷ [])) (1 ∷ []) (0 ∷ []) (0 ∷ 1 ∷ []) (3 ∷ 2 ∷ 1 ∷ 1 ∷ [])
    ∷ plans (jobs 1 1 []) [] [] (255 ∷ []) (0 ∷ 0 ∷ 0 ∷ 0 ∷ [])
    ∷ plans (jobs 1 65535 (job 0 1 1 ∷ [])) (0 ∷ []) [] (0 ∷ []) (65536 ∷ 1 ∷ 1 ∷ 0 ∷ [])
    ∷ plans (jobs 4 1 (job 1 4 2 ∷ job 0 4 2 ∷ [])) (3 ∷ []) (2 ∷ 1 ∷ 0 ∷ []) (1 ∷ 1 ∷ 0 ∷ 0 ∷ []) (5 ∷ 4 ∷ 1 ∷ 3 ∷ [])
    ∷ plans (jobs 5 1 (job 1 5 2 ∷ job 0 5 2 ∷ job 1 2 1 ∷ [])) (2 ∷ []) (1 ∷ 0 ∷ 3 ∷ 4 ∷ []) (1 ∷ 2 ∷ 0 ∷ 0 ∷ 1 ∷ []) (6 ∷ 5 ∷ 1 ∷ 4 ∷ [])
    ∷ beaten (0 ∷ 255 ∷ 255 ∷ 1 ∷ 2 ∷ []) 2 5
    (plans (jobs 5 1 (job 0 1 1 ∷ job 2 4 1 ∷ job 4 5 1 ∷ [])) (1 ∷ 4 ∷ []) (0 ∷ 2 ∷ []) (0 ∷ 255 ∷ 1 ∷ 255 ∷ 2 ∷ []) (6 ∷ 3 ∷ 3 ∷ 2 ∷ []))
    ∷ []

-- each row of the table is right
pub starred_plans : (row : Row) → Memᴰ row starred → Right row
unfolding members skeleton_for order_for found plans overloads beaten starred cheaper_test all_cheaper
    times total any_below all_below sum_below max_below least_from last_below keep first_least check_from all_sets awake_slots runs_from
    volume_if volume_inside overloaded overload_ending_at shown_overload is_skeleton skeletons least_of least_skeleton most_from workable
    helps wakeable next_wake woken_in woken wake_all extended earliest urgent going_on fill_by table_of values_from sleep_rule table_from plan_table
    figures_of planned early_answer plan_by plan
starred_plans = all_right starred refl refl
