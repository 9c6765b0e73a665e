-- What is asked and answered, and the number and values of each answer.
use Rattle.std.specs.Prelude.{ℕ, ◌≡◌, List, [], ◌∷◌, map, reverse, Option, None, Some}
use Rattle.std.proofs.Math.Option.{Option as Found, none, some}
use Rattle.sched.specs.Jobs.{Jobs}
use Rattle.steps.specs.Overload.{shown_overload}
use Rattle.sched.specs.declared.Interval.{Interval}
use Rattle.laws_edf.specs.Orders.{job_at}
use Rattle.laws_edf.specs.Overload.Search.{start_for, start_or}
use Rattle.orders.specs.declared.ordered_jobs.OrderedJobs.{OrderedJobs}
use Rattle.orders.specs.Lists.{ListsOf}
pub mod Laws

-- an interval that is shown has 01's number, 18, with both ends; that there is none has the number 0, with no value, which is ours
abbrev pub shown_number : Option Interval → ℕ
shown_number None = 0
shown_number (Some i) = 18

abbrev pub shown_values : Option Interval → List ℕ
shown_values None = []
shown_values (Some i) = i.a ∷ i.b ∷ []

-- the answer for what a definition finds
abbrev pub as_shown : Found Interval → Option Interval
as_shown none = None
as_shown (some i) = Some i

-- the promise: the number and the values that come back are those of the definition, and so is the case
pub record ShownPromise (wanted answer : Option Interval) : Type 0 where
  pub number : shown_number answer ≡ shown_number wanted
  pub values : shown_values answer ≡ shown_values wanted
  pub same : answer ≡ wanted

-- the jobs from the last release to the first
abbrev pub falling : List ℕ → List ℕ → List ℕ
falling ranks arrivals = reverse (map (job_at ranks) arrivals)

-- the lists of a job list without a fault
pub record Asked (jobs : OrderedJobs) (volumes : List ℕ) : Type 0 where
  pub J : Jobs
  pub lists : ListsOf J jobs.releases.now jobs.deadlines.now volumes

-- the interval is the one that 01 shows, for every list with this horizon and these lists
abbrev pub Answers : ℕ → List ℕ → List ℕ → List ℕ → Option Interval → Type 0
Answers h releases deadlines volumes r =
    (J : Jobs) → ListsOf J releases deadlines volumes → J.horizon ≡ h → ShownPromise (as_shown (shown_overload J)) r

-- the greatest start for the end b, or 0, for every list with these lists
abbrev pub StartFor : ℕ → OrderedJobs → List ℕ → ℕ → Type 0
StartFor b jobs volumes r =
    (J : Jobs) → ListsOf J jobs.releases.now jobs.deadlines.now volumes → r ≡ start_or 0 (start_for J b (falling jobs.ranks.now jobs.arrivals.now) 0)
