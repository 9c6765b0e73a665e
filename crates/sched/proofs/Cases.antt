-- Closed cases of words and checks, and what those of other crates share: lists as 01 writes them, and its third list with its table.
use Rattle.std.specs.Prelude.{ℕ, ◌≡◌, refl, true, List, [], ◌∷◌, map}
use Rattle.sched.specs.Bounded.{total}
use Rattle.sched.specs.Jobs.{Jobs, jobs_from, jobs_of, total_volume}
use Rattle.sched.specs.Checks.{check_from, check_of, checked_number, checked_values}

-- a job as 01 writes it, (r, d, p)
pub record Job : Type 0 where
  pub r : ℕ
  pub d : ℕ
  pub p : ℕ

abbrev pub job : ℕ → ℕ → ℕ → Job
job r d p = record { r = r; d = d; p = p }

abbrev pub jobs : ℕ → ℕ → List Job → Jobs
jobs h q js = jobs_of h q (map (λ x. x.r) js) (map (λ x. x.d) js) (map (λ x. x.p) js)

-- the list of the third plan, of which 01 also gives the bytes
abbrev pub third : Jobs
third = jobs 10 3 (job 0 3 1 ∷ job 8 10 2 ∷ job 0 10 5 ∷ [])

-- and its table, of which card 5 of 02 also gives the plan record
abbrev pub third_table : List ℕ
third_table = 0 ∷ 2 ∷ 2 ∷ 2 ∷ 2 ∷ 2 ∷ 254 ∷ 254 ∷ 1 ∷ 1 ∷ []

-- a list from a start awake (02, card 10)
abbrev pub start_awake : Jobs → Jobs
start_awake J = jobs_from J.horizon J.wake true J.releases J.deadlines J.volumes

-- 02, card 6: a list in which a job goes on behind a sleeping slot, and its plan's table (`goes_on_over_sleep` in `steps/specs/Cases`,
-- `over_sleep_plan` in `laws_rivals/specs/Cases`)
abbrev pub over_sleep : Jobs
over_sleep = jobs 12 0 (job 5 12 1 ∷ job 0 12 4 ∷ job 0 1 1 ∷ job 3 6 1 ∷ job 8 10 1 ∷ [])

abbrev pub over_sleep_table : List ℕ
over_sleep_table = 2 ∷ 1 ∷ 1 ∷ 3 ∷ 1 ∷ 255 ∷ 1 ∷ 255 ∷ 255 ∷ 4 ∷ 0 ∷ 255 ∷ []

-- the sum of volumes counts units, not jobs
pub third_volume : total_volume third ≡ 8
unfolding total
third_volume = refl

-- 02, card 1: faulty jobs in eight slots behind a good one, each with the number that comes back. First each fault alone, then each pair, then
-- all three; the last three are next to a fault and have none.
pub job_faults :
    map (λ x. checked_number (check_of (jobs 8 1 (job 0 8 1 ∷ x ∷ []))))
    (job 0 9 1 ∷ job 4 4 1 ∷ job 0 4 0 ∷ job 9 9 1 ∷ job 0 9 0 ∷ job 4 4 0 ∷ job 9 9 0 ∷ job 0 8 1 ∷ job 3 4 1 ∷ job 7 8 65535 ∷ [])
    ≡ 25 ∷ 15 ∷ 26 ∷ 25 ∷ 25 ∷ 15 ∷ 25 ∷ 0 ∷ 0 ∷ 0 ∷ []
unfolding check_from
job_faults = refl

-- the lowest faulty job is told, by its own number, whatever a later job's fault is
pub lowest_job : checked_values (check_of (jobs 8 1 (job 0 8 1 ∷ job 0 4 0 ∷ job 9 9 0 ∷ []))) ≡ 1 ∷ []
unfolding check_from
lowest_job = refl
