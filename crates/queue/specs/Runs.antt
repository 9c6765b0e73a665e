-- What the functions of a run of earliest deadline first promise one another.
use Rattle.std.specs.Prelude.{ℕ, suc, ◌-◌, ◌≤◌, ◌<◌, ◌≡◌, List, ◌++◌, length, get_or, set, take}
use Rattle.sched.specs.Slots.{awake, awake_of, wakeful}
use Rattle.laws_edf.specs.Run.{Spans, chosen, after, slot_byte, bytes, final}
use Rattle.laws_edf.specs.Search.{state_of}
use Rattle.laws_edf.specs.Orders.{job_at}
use Rattle.orders.specs.declared.ordered_jobs.OrderedJobs.{OrderedJobs}
use Rattle.queue.specs.declared.Ready.{Ready}
use Rattle.queue.specs.Ranks.{spans_of}
use Rattle.queue.specs.Arrivals.{comes_at, goes_at, or_beyond, Come, Gone, ReadyAt}
pub mod Reads
pub mod Waiting
pub mod Whole

-- the release of the rank at place i of arrivals can be read
pub record Reached (releases ranks arrivals : List ℕ) (i : ℕ) : Type 0 where
  pub listed : i < length arrivals
  pub rank : get_or arrivals i 0 < length ranks
  pub job : job_at ranks (get_or arrivals i 0) < length releases

-- the ranks that expire by slot t can be counted
pub record Expirable (jobs : OrderedJobs) (t gone : ℕ) : Type 0 where
  pub short : t < 65536
  pub went : Gone jobs.deadlines.now jobs.ranks.now t gone

-- `all` ranks have expired by slot t, and no other
pub record Expired (jobs : OrderedJobs) (t gone all : ℕ) : Type 0 where
  pub went : Gone jobs.deadlines.now jobs.ranks.now t all
  pub more : gone ≤ all
  pub later : t < or_beyond (length jobs.deadlines.now) (goes_at jobs.deadlines.now jobs.ranks.now) all

-- `left` has a place for each job
abbrev pub Room : OrderedJobs → List ℕ → Type 0
Room jobs left = length jobs.releases.now ≤ length left

-- the ranks that are released by slot t can join the bits
pub record Arrivable (jobs : OrderedJobs) (left : List ℕ) (t bits next gone : ℕ) : Type 0 where
  pub short : t < 65536
  pub room : Room jobs left
  pub came : Come jobs.releases.now jobs.ranks.now jobs.arrivals.now left t bits next gone

-- they have joined them, and no other
pub record Arrived (jobs : OrderedJobs) (left : List ℕ) (t bits next gone : ℕ) : Type 0 where
  pub came : Come jobs.releases.now jobs.ranks.now jobs.arrivals.now left t bits next gone
  pub later : t < or_beyond (length jobs.releases.now) (comes_at jobs.releases.now jobs.ranks.now jobs.arrivals.now) next

-- what slot t may serve can be found out
pub record Lookable (jobs : OrderedJobs) (left : List ℕ) (t : ℕ) (last : Ready) : Type 0 where
  pub short : t < 65536
  pub room : Room jobs left
  pub ready : ReadyAt jobs.releases.now jobs.deadlines.now jobs.ranks.now jobs.arrivals.now left t last

-- the mask is what slot t may serve
pub record Looked (jobs : OrderedJobs) (left : List ℕ) (t : ℕ) (fresh : Ready) : Type 0 where
  pub ready : ReadyAt jobs.releases.now jobs.deadlines.now jobs.ranks.now jobs.arrivals.now left t fresh
  pub before : t < fresh.until

-- a slot can be served
pub record SlotReady (jobs : OrderedJobs) (left table : List ℕ) (t : ℕ) (last : Ready) : Type 0 where
  pub inside : t < length table
  pub lookable : Lookable jobs left t last

-- slot t has been served, if it is awake
pub record SlotDone (jobs : OrderedJobs) (left table : List ℕ) (t : ℕ) (left' table' : List ℕ) (last' : Ready) : Type 0 where
  pub table_is : table' ≡ set table t (slot_byte (wakeful (get_or table t 0)) (chosen (spans_of jobs.releases.now jobs.deadlines.now) (wakeful (get_or table t 0)) t (state_of left)))
  pub left_is : state_of left' ≡ after (state_of left) (chosen (spans_of jobs.releases.now jobs.deadlines.now) (wakeful (get_or table t 0)) t (state_of left))
  pub left_long : length left' ≡ length left
  pub ready : ReadyAt jobs.releases.now jobs.deadlines.now jobs.ranks.now jobs.arrivals.now left' (suc t) last'

-- a table can be run through
pub record Runnable (jobs : OrderedJobs) (left table : List ℕ) : Type 0 where
  pub short : length table < 65536
  pub room : Room jobs left

-- the awake slots of the table from `first` on have been served
pub record RunDone (F : Spans) (first : ℕ) (left table left' table' : List ℕ) : Type 0 where
  pub table_is : table' ≡ take first table ++ bytes F (awake (awake_of table)) (length table - first) first (state_of left)
  pub left_is : state_of left' ≡ final F (awake (awake_of table)) (length table - first) first (state_of left)
  pub left_long : length left' ≡ length left

-- the slots from `first` to before t have been served; `table₀` and `left₀` are what the run began with
pub record RunTo (F : Spans) (first : ℕ) (left₀ table₀ left table : List ℕ) (t : ℕ) : Type 0 where
  pub same_long : length table ≡ length table₀
  pub left_long : length left ≡ length left₀
  pub rest : (i : ℕ) → t ≤ i → get_or table i 0 ≡ get_or table₀ i 0
  pub all :
      take first table₀ ++ bytes F (awake (awake_of table₀)) (length table₀ - first) first (state_of left₀)
      ≡ take t table ++ bytes F (awake (awake_of table₀)) (length table₀ - t) t (state_of left)
  pub ends :
      final F (awake (awake_of table₀)) (length table₀ - first) first (state_of left₀)
      ≡ final F (awake (awake_of table₀)) (length table₀ - t) t (state_of left)

-- an array of 64 numbers with the volumes in front, and 0 behind
pub record Units (volumes units : List ℕ) : Type 0 where
  pub long : length units ≡ 64
  pub same : state_of units ≡ state_of volumes
