-- Closed cases of the steps, all but one on lists of at most five slots, so that a wrong edit of a definition is refused here. The plans that 01 works by hand are in
-- `worked_plans/specs`.
use Rattle.std.specs.Prelude.{◌≡◌, refl, true, false, [], ◌∷◌, map}
use Rattle.std.proofs.Math.Option.{none, some}
use Rattle.sched.specs.Bounded.{total, any_below, all_below, sum_below, max_below, least_from, last_below, values_from, keep, first_least}
use Rattle.sched.specs.Checks.{check_from}
use Rattle.sched.specs.Slots.{awake_of, times}
use Rattle.sched.specs.Energy.{awake_slots, runs_from}
use Rattle.sched.proofs.Cases.{job, jobs, start_awake, over_sleep, over_sleep_table}
use Rattle.sched.specs.declared.Outcome.TheVariants.{Planned}
use Rattle.steps.specs.Overload.{volume_if, volume_inside, overloaded, overload_ending_at, shown_overload}
use Rattle.steps.specs.Skeleton.{is_skeleton, all_sets, skeletons, least_of, least_skeleton}
use Rattle.steps.specs.Workable.{most_from, workable}
use Rattle.steps.specs.Extension.{helps, wakeable, next_wake, woken_in, woken, wake_all, extended}
use Rattle.steps.specs.Table.{earliest, urgent, going_on, fill_by, table_of}
use Rattle.steps.specs.Sleep.{sleep_rule}
use Rattle.steps.specs.Steps.{table_from, plan_table}
use Rattle.steps.specs.Outcomes.{figures_of, planned, early_answer, plan_by, plan}

-- Step 1: of the overloaded intervals the one of least end, and with it the one of greatest start; also one that ends before H
pub shown_intervals :
    map shown_overload (jobs 3 1 (job 0 2 3 ∷ []) ∷ jobs 3 1 (job 0 2 2 ∷ job 1 3 2 ∷ []) ∷ jobs 4 1 (job 0 3 4 ∷ job 1 3 3 ∷ []) ∷ jobs 3 1 (job 0 3 3 ∷ []) ∷ [])
    ≡ some (record { a = 0; b = 2 }) ∷ some (record { a = 0; b = 3 }) ∷ some (record { a = 1; b = 3 }) ∷ none ∷ []
unfolding any_below sum_below least_from last_below volume_if volume_inside overloaded overload_ending_at shown_overload
shown_intervals = refl

-- Step 2: a slot that only touches two spans; among equals the set that sleeps first; and from a start awake a slot of its own
pub least_skeletons :
    map least_skeleton (jobs 3 1 (job 0 1 1 ∷ job 2 3 1 ∷ []) ∷ jobs 2 1 (job 0 2 1 ∷ []) ∷ start_awake (jobs 2 1 (job 0 1 1 ∷ [])) ∷ [])
    ≡ (false ∷ true ∷ false ∷ []) ∷ (false ∷ true ∷ []) ∷ (true ∷ false ∷ []) ∷ []
unfolding any_below all_below keep first_least awake_slots runs_from is_skeleton all_sets skeletons least_of least_skeleton
least_skeletons = refl

-- the workable volume: nothing before a release or in slot d, not more than p units, and the best placement
pub workable_volumes :
    map (workable (jobs 4 1 (job 1 3 1 ∷ job 0 2 1 ∷ [])))
    ((true ∷ false ∷ false ∷ false ∷ []) ∷ (false ∷ true ∷ true ∷ false ∷ []) ∷ (false ∷ false ∷ true ∷ true ∷ []) ∷ (true ∷ true ∷ true ∷ true ∷ []) ∷ [])
    ≡ 1 ∷ 2 ∷ 1 ∷ 2 ∷ []
unfolding max_below most_from workable
workable_volumes = refl

-- Step 3: slot 0 touches and does not help, so that slot 2 is woken
pub next_helps : next_wake (jobs 3 1 (job 1 3 2 ∷ [])) (false ∷ true ∷ false ∷ []) ≡ some 2
unfolding least_from max_below most_from workable helps wakeable next_wake
next_helps = refl

-- Step 4, all slots awake: the lowest number of equal deadlines, and then the other, since the first is finished
pub lowest_first : table_of (jobs 2 1 (job 0 2 1 ∷ job 0 2 1 ∷ [])) (true ∷ true ∷ []) ≡ 0 ∷ 1 ∷ []
unfolding all_below earliest urgent going_on fill_by table_of
lowest_first = refl

-- 02, card 6: job 1 goes on behind the sleeping slot
pub goes_on_small : table_of (jobs 4 1 (job 2 4 1 ∷ job 0 4 2 ∷ [])) (true ∷ false ∷ true ∷ true ∷ []) ≡ 1 ∷ 255 ∷ 1 ∷ 0 ∷ []
unfolding all_below earliest urgent going_on fill_by table_of
goes_on_small = refl

-- 02, card 6: a job that goes on behind a sleeping slot, in step 4's table of the set that the plan has; the whole plan is in
-- `laws_rivals/specs/Cases`.
pub goes_on_over_sleep : table_of over_sleep (awake_of over_sleep_table) ≡ over_sleep_table
unfolding times total any_below all_below sum_below max_below least_from last_below earliest urgent going_on fill_by table_of
goes_on_over_sleep = refl

-- Step 5, 02, card 5: a stretch of one slot with wake costs 1 and 2, between slots that sleep whatever they held
pub slept : map (λ q. sleep_rule q false (254 ∷ 0 ∷ 255 ∷ 0 ∷ 254 ∷ [])) (1 ∷ 2 ∷ []) ≡ (255 ∷ 0 ∷ 255 ∷ 0 ∷ 255 ∷ []) ∷ (255 ∷ 0 ∷ 254 ∷ 0 ∷ 255 ∷ []) ∷ []
unfolding least_from last_below values_from sleep_rule
slept = refl

-- 02, card 10: the stretch in front, from a start awake
pub slept_awake : map (λ q. sleep_rule q true (255 ∷ 0 ∷ 254 ∷ [])) (1 ∷ 2 ∷ []) ≡ (255 ∷ 0 ∷ 255 ∷ []) ∷ (254 ∷ 0 ∷ 255 ∷ []) ∷ []
unfolding least_from last_below values_from sleep_rule
slept_awake = refl

-- The whole plan: slot 1, which the skeleton has, sleeps in the end, and the figures are those of the table
pub small_plan :
    plan (jobs 2 1 (job 0 1 1 ∷ [])) (7 ∷ 7 ∷ 7 ∷ [])
    ≡ record { answer = Planned (record { energy = 2; awake = 1; runs = 1; added = 1 }); table = 0 ∷ 255 ∷ 7 ∷ [] }
unfolding total any_below all_below sum_below max_below least_from last_below keep first_least check_from all_sets awake_slots runs_from
    volume_if volume_inside overloaded overload_ending_at shown_overload is_skeleton skeletons least_of least_skeleton most_from workable
    helps wakeable next_wake woken_in woken wake_all extended earliest urgent going_on fill_by table_of values_from sleep_rule table_from plan_table
    figures_of planned early_answer plan_by plan
small_plan = refl
