-- The pass from event to event, and what it finds.
use Rattle.std.specs.Prelude.{ℕ, ◌+◌, ◌-◌, ◌*◌, ◌^◌, ◌≤◌, ◌<◌, min, ◌≡◌, List, ◌⊎◌, length, get_or}
use Rattle.sched.specs.Bounded.{sum_below}
use Rattle.sched.specs.Jobs.{Jobs, count, volume}
use Rattle.sched.specs.Checks.{Passes}
use Rattle.laws_edf.specs.Search.{state_of}
use Rattle.laws_edf.specs.Orders.{job_at}
use Rattle.steps.specs.Overload.{Overfull}
use Rattle.laws_edf.specs.Overload.Late.{Ran}
use Rattle.queue.specs.Arrivals.{comes_at, Come}
use Rattle.orders.specs.declared.ordered_jobs.OrderedJobs.{OrderedJobs}
use Rattle.orders.specs.Lists.{ListsOf}
use Rattle.step1_overload.specs.declared.Pass.{Pass}

-- a slot behind every other
abbrev pub never : ℕ
never = 16777216

-- the rank at place i of arrivals comes at slot x, or never
pub record NextComes (jobs : OrderedJobs) (i x : ℕ) : Type 0 where
  pub here : i < length jobs.releases.now → x ≡ comes_at jobs.releases.now jobs.ranks.now jobs.arrivals.now i
  pub gone : length jobs.releases.now ≤ i → x ≡ never

-- the next rank can join the bits
pub record Joinable (jobs : OrderedJobs) (last : Pass) : Type 0 where
  pub more : last.next < length jobs.releases.now
  pub fits : last.waiting + 2 ^ get_or jobs.arrivals.now last.next 0 < 2 ^ 64

-- it has joined them
pub record Joined (jobs : OrderedJobs) (last next : Pass) : Type 0 where
  pub t_is : next.t ≡ last.t
  pub waiting_is : next.waiting ≡ last.waiting + 2 ^ get_or jobs.arrivals.now last.next 0
  pub next_is : next.next ≡ last.next + 1
  pub coming_is : NextComes jobs next.next next.coming
  pub end_is : next.end ≡ last.end

-- the end after a job with the deadline d is finished at t
pub record EndAfter (end d t end' : ℕ) : Type 0 where
  pub least : end' ≤ end
  pub passed : d < t → end' ≤ d
  pub either : (end' ≡ end) ⊎ ((end' ≡ d) × (d < t))

-- the slots before t are served, and the bits are the ranks that wait
pub record PassAt (J : Jobs) (jobs : OrderedJobs) (left : List ℕ) (pass : Pass) : Type 0 where
  pub passes : Passes J
  pub long : length left ≡ 64
  pub came : Come jobs.releases.now jobs.ranks.now jobs.arrivals.now left pass.t pass.waiting pass.next 0
  pub coming_is : NextComes jobs pass.next pass.coming
  pub ahead : pass.t ≤ pass.coming
  pub fresh : (i : ℕ) → pass.next ≤ i → i < count J → 0 < get_or left (job_at jobs.ranks.now (get_or jobs.arrivals.now i 0)) 0
  pub ran : Ran J (state_of left) pass.t pass.end
  pub small : pass.t < never → pass.t + sum_below (count J) (state_of left) ≤ J.horizon + sum_below (count J) (volume J)
  pub few : sum_below (count J) (volume J) ≤ 64 * 65535
  pub done : never ≤ pass.t → (j : ℕ) → j < count J → get_or left j 0 ≡ 0

-- the same for every list with these lists
abbrev pub Passing : OrderedJobs → List ℕ → List ℕ → Pass → Type 0
Passing jobs volumes left pass = (J : Jobs) → ListsOf J jobs.releases.now jobs.deadlines.now volumes → PassAt J jobs left pass

-- some slots are still to be served
pub record Turnable (jobs : OrderedJobs) (left : List ℕ) (last : Pass) : Type 0 where
  pub J : Jobs
  pub releases_are : J.releases ≡ jobs.releases.now
  pub deadlines_are : J.deadlines ≡ jobs.deadlines.now
  pub pass : PassAt J jobs left last
  pub more : last.t < never

-- how many events are still to come, at most, with n jobs
abbrev pub rest : ℕ → List ℕ → Pass → ℕ
rest n left pass = sum_below n (state_of left) + 2 * (n - pass.next) + min 1 (pass.coming - pass.t)

-- one event further
pub record Turned (J : Jobs) (jobs : OrderedJobs) (left : List ℕ) (last : Pass) (left' : List ℕ) (next : Pass) : Type 0 where
  pub pass : PassAt J jobs left' next
  pub less : rest (count J) left' next < rest (count J) left last

-- the same for every list with these lists
abbrev pub TurnDone : OrderedJobs → List ℕ → Pass → List ℕ → Pass → Type 0
TurnDone jobs left last left' next =
    (J : Jobs) → J.releases ≡ jobs.releases.now → J.deadlines ≡ jobs.deadlines.now → PassAt J jobs left last → Turned J jobs left last left' next

-- no overloaded interval ends before this, and one ends here, if it is no end behind the horizon
pub record LeastEnd (J : Jobs) (end : ℕ) : Type 0 where
  pub none : (a b : ℕ) → b < end → Overfull J a b → ⊥
  pub some : end ≤ J.horizon → (a : ℕ) × Overfull J a end
