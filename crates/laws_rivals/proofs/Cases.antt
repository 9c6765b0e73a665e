-- Worked lists whose check would make that of `sched` longer.
-- 02, card 6: "With H 4 and jobs (1,4,2) (0,4,2) the table was 1 0 0 1 and becomes 1 1 0 0." The card names no q; in this list all slots work, so that it does not matter.
use Rattle.std.specs.Prelude.{ℕ, ◌≡◌, refl, true, false, List, [], ◌∷◌}
use Rattle.sched.specs.Bounded.{total, any_below, all_below, sum_below, max_below, least_from, last_below, values_from, keep, first_least}
use Rattle.sched.specs.Jobs.{Jobs, jobs_from, jobs_of}
use Rattle.steps.specs.Skeleton.{all_sets, is_skeleton, skeletons, least_of, least_skeleton}
use Rattle.sched.specs.Energy.{awake_slots, runs_from, table_figures}
use Rattle.sched.proofs.Cases.{third, third_table, start_awake, over_sleep, over_sleep_table}
use Rattle.steps.specs.Workable.{most_from, workable}
use Rattle.steps.specs.Extension.{helps, wakeable, next_wake, woken_in, woken, wake_all, extended}
use Rattle.steps.specs.Table.{earliest, urgent, going_on, fill_by, table_of}
use Rattle.steps.specs.Sleep.{sleep_rule}
use Rattle.steps.specs.Steps.{table_from, plan_table}
use Rattle.laws_rivals.specs.TieRule.{plan_table_before}

abbrev card_list : Jobs
card_list = jobs_of 4 1 (1 ∷ 0 ∷ []) (4 ∷ 4 ∷ []) (2 ∷ 2 ∷ [])

pub table_was : plan_table_before card_list ≡ 1 ∷ 0 ∷ 0 ∷ 1 ∷ []
unfolding total any_below all_below sum_below max_below least_from last_below values_from keep first_least all_sets awake_slots runs_from is_skeleton skeletons
    least_of least_skeleton most_from workable helps wakeable next_wake woken_in woken wake_all extended earliest fill_by sleep_rule
table_was = refl

pub table_becomes : plan_table card_list ≡ 1 ∷ 1 ∷ 0 ∷ 0 ∷ []
unfolding total any_below all_below sum_below max_below least_from last_below values_from keep first_least all_sets awake_slots runs_from is_skeleton skeletons
    least_of least_skeleton most_from workable helps wakeable next_wake woken_in woken wake_all extended earliest urgent going_on fill_by table_of sleep_rule table_from plan_table
table_becomes = refl

-- In slot 6 jobs 0 and 1 are due together; job 1, which ran in slot 4, goes on over the sleeping slot between. Step 4's table of its set is in
-- `sched/specs/Cases` (`goes_on_over_sleep`).
pub over_sleep_plan : plan_table over_sleep ≡ over_sleep_table
unfolding total any_below all_below sum_below max_below least_from last_below values_from keep first_least all_sets awake_slots runs_from is_skeleton skeletons
    least_of least_skeleton most_from workable helps wakeable next_wake woken_in woken wake_all extended earliest urgent going_on fill_by table_of sleep_rule table_from plan_table
over_sleep_plan = refl

-- 02, card 10: from a start awake the least skeleton lasts from slot 0 up to the window, since its run there costs no wake. The job then runs behind
-- six slots without work, which is not shorter than q: all of the skeleton sleeps, and the plan pays a wake.
abbrev far_list : Jobs
far_list = jobs_from 12 6 true (6 ∷ []) (8 ∷ []) (1 ∷ [])

abbrev far_table : List ℕ
far_table = 255 ∷ 255 ∷ 255 ∷ 255 ∷ 255 ∷ 255 ∷ 0 ∷ 255 ∷ 255 ∷ 255 ∷ 255 ∷ 255 ∷ []

pub far_plan :
    (least_skeleton far_list ≡ true ∷ true ∷ true ∷ true ∷ true ∷ true ∷ false ∷ false ∷ false ∷ false ∷ false ∷ false ∷ [])
    × (plan_table far_list ≡ far_table)
    × (table_figures far_list far_table ≡ record { energy = 7; awake = 1; runs = 1 })
unfolding total any_below all_below sum_below max_below least_from last_below values_from keep first_least all_sets awake_slots runs_from is_skeleton skeletons
    least_of least_skeleton most_from workable helps wakeable next_wake woken_in woken wake_all extended earliest urgent going_on fill_by table_of sleep_rule table_from plan_table
far_plan = (refl, refl, refl)

-- the third plan of 01 from a start awake: the skeleton has slot 0, the table is the same, and its run costs no wake
pub third_awake :
    (least_skeleton (start_awake third) ≡ true ∷ false ∷ false ∷ false ∷ false ∷ false ∷ false ∷ false ∷ false ∷ true ∷ [])
    × (plan_table (start_awake third) ≡ third_table)
    × (table_figures (start_awake third) third_table ≡ record { energy = 10; awake = 10; runs = 1 })
unfolding total any_below all_below sum_below max_below least_from last_below values_from keep first_least all_sets awake_slots runs_from is_skeleton skeletons
    least_of least_skeleton most_from workable helps wakeable next_wake woken_in woken wake_all extended earliest urgent going_on fill_by table_of sleep_rule table_from plan_table
third_awake = (refl, refl, refl)
