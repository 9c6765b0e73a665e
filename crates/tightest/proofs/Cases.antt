-- Worked lists of card 7 by computation; `negsuc 1` is −2.
use Rattle.std.specs.Prelude.{ℕ, ◌≡◌, refl, List, [], ◌∷◌, ℤ, pos, negsuc}
use Rattle.sched.specs.Jobs.{jobs_of}
use Rattle.sched.specs.Bounded.{sum_below}
use Rattle.steps.specs.Overload.{volume_if, volume_inside}
use Rattle.sched.specs.Checks.{check_from}
use Rattle.tightest.specs.Slack.{slack_of, tighter, try_pair, try_starts, try_ends, tightest_of}
use Rattle.tightest.specs.Answer.{tightness, tightness_number, tightness_values}

-- number and values of the answer, for any wake cost
abbrev pub told : ℕ → List ℕ → List ℕ → List ℕ → ℕ × List ℤ
told h rs ds ps = let answer = tightness (jobs_of h 0 rs ds ps) in (tightness_number answer, tightness_values answer)

-- the interval 3, 4, from one job's release to another's deadline, in which no job lies
pub no_job_inside : told 6 (3 ∷ 1 ∷ []) (6 ∷ 4 ∷ []) (1 ∷ 2 ∷ []) ≡ (0, pos 1 ∷ pos 3 ∷ pos 4 ∷ [])
unfolding tightness check_from tightest_of try_ends try_starts try_pair tighter slack_of volume_inside volume_if sum_below
no_job_inside = refl

-- below zero; the planner shows 1, 3 of this list
pub below_zero : told 4 (1 ∷ 3 ∷ []) (3 ∷ 4 ∷ []) (3 ∷ 2 ∷ []) ≡ (0, negsuc 1 ∷ pos 1 ∷ pos 4 ∷ [])
unfolding tightness check_from tightest_of try_ends try_starts try_pair tighter slack_of volume_inside volume_if sum_below
below_zero = refl

-- slack 3 also at 5, 10: "the least b"
pub first_end : told 10 (5 ∷ 0 ∷ []) (10 ∷ 5 ∷ []) (2 ∷ 2 ∷ []) ≡ (0, pos 3 ∷ pos 0 ∷ pos 5 ∷ [])
unfolding tightness check_from tightest_of try_ends try_starts try_pair tighter slack_of volume_inside volume_if sum_below
first_end = refl

-- slack 4 also at 0, 10: "the greatest a"
pub last_start : told 10 (0 ∷ 2 ∷ []) (10 ∷ 10 ∷ []) (2 ∷ 4 ∷ []) ≡ (0, pos 4 ∷ pos 2 ∷ pos 10 ∷ [])
unfolding tightness check_from tightest_of try_ends try_starts try_pair tighter slack_of volume_inside volume_if sum_below
last_start = refl

-- 3, 3 is no interval
pub no_empty_interval : told 6 (0 ∷ 3 ∷ []) (3 ∷ 6 ∷ []) (1 ∷ 1 ∷ []) ≡ (0, pos 2 ∷ pos 0 ∷ pos 3 ∷ [])
unfolding tightness check_from tightest_of try_ends try_starts try_pair tighter slack_of volume_inside volume_if sum_below
no_empty_interval = refl

-- without jobs: 12 for H and 19 come first, then 34

pub horizon_first : told 0 [] [] [] ≡ (12, pos 0 ∷ [])
unfolding tightness
horizon_first = refl

pub lengths_first : told 4 [] (1 ∷ []) [] ≡ (19, pos 0 ∷ [])
unfolding tightness
lengths_first = refl

pub no_jobs : told 4 [] [] [] ≡ (34, pos 0 ∷ [])
unfolding tightness check_from
no_jobs = refl

-- a faulty job: "after 15 and its finer kin"
pub faulty_job : told 4 (0 ∷ 0 ∷ []) (4 ∷ 4 ∷ []) (1 ∷ 0 ∷ []) ≡ (26, pos 1 ∷ [])
unfolding tightness check_from
faulty_job = refl
