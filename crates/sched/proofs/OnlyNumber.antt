-- 02, card 1: that only the number of a faulty job changed, for every list. It stands apart from its definitions (`specs/Theorems/OnlyNumber`), so that a
-- wrong edit of them is refused here, by a fact.
use Rattle.std.specs.Prelude.{ℕ, zero, suc, ◌≡◌, refl, not, List, length, get_or, eqb}
use Rattle.sched.specs.Checks.{refuse_if, and_then, horizon_check, count_check, job_check, check_from, jobs_check, list_check_by}
use Rattle.sched.specs.Checks.{list_check, lists_check, checked_number, checked_values}
use Rattle.sched.proofs.Theorems.RefusesJob.{other_horizon, other_count}
use Rattle.sched.proofs.Theorems.OnlyNumber.{job_check_before, OnlyNumber, coarse, coarse_number, if_coarse, then_coarse, other_same, job_coarse}
use Rattle.sched.specs.declared.Refusal.TheVariants.{Unequal}

walk_coarse : (k j h : ℕ) (rs ds ps : List ℕ) → check_from job_check_before k j h rs ds ps ≡ coarse (check_from job_check k j h rs ds ps)
unfolding check_from
walk_coarse zero j h rs ds ps = refl
walk_coarse (suc k) j h rs ds ps =
    let r = get_or rs j 0 in
    let d = get_or ds j 0 in
    let p = get_or ps j 0 in
    then_coarse (job_check_before h j r d p) (check_from job_check_before k (suc j) h rs ds ps) (job_check h j r d p) (check_from job_check k (suc j) h rs ds ps)
    (job_coarse h j r d p) (walk_coarse k (suc j) h rs ds ps)

list_coarse : (h : ℕ) (rs ds ps : List ℕ) → list_check_by job_check_before h rs ds ps ≡ coarse (list_check h rs ds ps)
list_coarse h rs ds ps =
    let n = length rs in
    let count = count_check n in
    let horizon = horizon_check h in
    let before₁ = and_then count (jobs_check job_check_before h rs ds ps) in
    let now₁ = and_then count (jobs_check job_check h rs ds ps) in
    let before₂ = refuse_if (not (eqb (length ps) n)) (Unequal 0) before₁ in
    let now₂ = refuse_if (not (eqb (length ps) n)) (Unequal 0) now₁ in
    then_coarse horizon (lists_check job_check_before h rs ds ps) horizon (lists_check job_check h rs ds ps) (other_same horizon (other_horizon h))
    (if_coarse (not (eqb (length ds) n)) (Unequal 0) before₂ now₂ refl
    (if_coarse (not (eqb (length ps) n)) (Unequal 0) before₁ now₁ refl
    (then_coarse count (jobs_check job_check_before h rs ds ps) count (jobs_check job_check h rs ds ps) (other_same count (other_count n)) (walk_coarse n 0 h rs ds ps))))

-- The theorem, for every list: the answers of the list checks before and now.
pub list_only_number : (h : ℕ) (rs ds ps : List ℕ) →
    let before = list_check_by job_check_before h rs ds ps in
    let now = list_check h rs ds ps in
    OnlyNumber (checked_number before) (checked_number now) (checked_values before) (checked_values now)
list_only_number h rs ds ps = rw (list_coarse h rs ds ps) (coarse_number (list_check h rs ds ps))
