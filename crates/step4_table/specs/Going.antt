-- Which rank goes on, and what the functions of step 4 promise one another.
use Rattle.std.specs.Prelude.{ℕ, suc, ◌/◌, ◌%◌, ◌^◌, ◌<◌, ◌≡◌, Bool, true, false, List, length, get_or, set, eqb, ltb}
use Rattle.std.proofs.Math.Option.{Option, none, some}
use Rattle.sched.specs.Slots.{wakeful}
use Rattle.steps.specs.Table.{latest_of}
use Rattle.laws_edf.specs.Run.{Spans, after, slot_byte}
use Rattle.laws_edf.specs.Search.{state_of}
use Rattle.laws_edf.specs.Orders.{job_at}
use Rattle.orders.specs.declared.ordered_jobs.OrderedJobs.{OrderedJobs}
use Rattle.queue.specs.Ranks.{spans_of}
use Rattle.queue.specs.Serving.{lowest}
use Rattle.queue.specs.Arrivals.{goes_at, ReadyAt}
use Rattle.queue.specs.Runs.{Lookable}
use Rattle.step4_table.specs.declared.Running.{Running}
use Rattle.step4_table.specs.Filling.{onward}

-- the bit of rank k: 1 if it waits
abbrev pub bit_at : ℕ → ℕ → ℕ
bit_at bits k = bits / 2 ^ k % 2

-- the rank that ran last, if it waits and its deadline is not behind that of the lowest rank; else the lowest
unfoldable pub going_rank : List ℕ → List ℕ → ℕ → ℕ → ℕ
going_rank deadlines ranks bits latest =
    elim (eqb (bit_at bits latest) 0) [
      | true ↦ lowest bits
      | false ↦ elim (ltb (goes_at deadlines ranks (lowest bits)) (goes_at deadlines ranks latest)) [ true ↦ lowest bits | false ↦ latest ]
    ]

-- all that this asks for can be read
pub record CanGo (jobs : OrderedJobs) (bits latest : ℕ) : Type 0 where
  pub small : latest < 64
  pub lowest_known : lowest bits < length jobs.releases.now
  pub latest_known : (bit_at bits latest ≡ 0 → ⊥) → latest < length jobs.releases.now

-- the rank is that of the job of the latest working slot. Where there is none it is 0, which is the lowest rank wherever it waits and so goes on only where it
-- would run anyway
abbrev pub Stands : ℕ → List ℕ → ℕ → Option ℕ → Type 0
Stands n ranks latest none = latest ≡ 0
Stands n ranks latest (some j) = (latest < n) × (job_at ranks latest ≡ j)

-- slot t can be filled
pub record SlotFillable (jobs : OrderedJobs) (left table : List ℕ) (t : ℕ) (last : Running) : Type 0 where
  pub inside : t < length table
  pub lookable : Lookable jobs left t last.ready
  pub job : Option ℕ
  pub stands : Stands (length jobs.releases.now) jobs.ranks.now last.latest job

-- the job that slot t runs; a sleeping slot runs none
abbrev pub ran : Spans → Bool → ℕ → List ℕ → Option ℕ → Option ℕ
ran F false t left latest = none
ran F true t left latest = onward F t left latest

-- slot t has been filled, where `job` is that of the latest working slot before it, and `last'` has the rank of the latest one now
pub record SlotFilled (jobs : OrderedJobs) (left table : List ℕ) (t : ℕ) (job : Option ℕ) (left' table' : List ℕ) (last' : Running) : Type 0 where
  pub table_is : table' ≡ set table t (slot_byte (wakeful (get_or table t 0)) (ran (spans_of jobs.releases.now jobs.deadlines.now) (wakeful (get_or table t 0)) t left job))
  pub left_is : state_of left' ≡ after (state_of left) (ran (spans_of jobs.releases.now jobs.deadlines.now) (wakeful (get_or table t 0)) t left job)
  pub left_long : length left' ≡ length left
  pub ready : ReadyAt jobs.releases.now jobs.deadlines.now jobs.ranks.now jobs.arrivals.now left' (suc t) last'.ready
  pub stands : Stands (length jobs.releases.now) jobs.ranks.now last'.latest (latest_of (ran (spans_of jobs.releases.now jobs.deadlines.now) (wakeful (get_or table t 0)) t left job) job)
