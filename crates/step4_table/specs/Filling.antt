-- What step 4 starts from, and what it ends with.
use Rattle.std.specs.Prelude.{ℕ, ◌≤◌, ◌<◌, ◌≡◌, Bool, List, length, get_or}
use Rattle.std.proofs.Math.Option.{none}
use Rattle.sched.specs.Jobs.{Jobs, total_volume}
use Rattle.sched.specs.Slots.{awake, awake_of}
use Rattle.steps.specs.Workable.{workable}
use Rattle.steps.specs.Table.{Rule, going_on, fill_by, table_of}
use Rattle.laws_edf.specs.Run.{Spans, servable, slot_byte}
use Rattle.laws_edf.specs.Search.{state_of}
use Rattle.orders.specs.declared.ordered_jobs.OrderedJobs.{OrderedJobs}
use Rattle.orders.specs.Lists.{ListsOf}
use Rattle.queue.specs.Ranks.{spans_of}

-- what step 4 is called with
pub record Fillable (jobs : OrderedJobs) (volumes table : List ℕ) : Type 0 where
  pub same : length volumes ≡ length jobs.releases.now
  pub short : length table < 65536

-- step 4's rule, but with the test that a job is not past its deadline
abbrev pub onward : Spans → Rule
onward F t left latest = going_on F.d (servable F t (state_of left)) F.n latest

-- the table that this rule gives of a set of slots, for the jobs of three lists
abbrev pub onward_table : List ℕ → List ℕ → List ℕ → List Bool → List ℕ
onward_table releases deadlines volumes S = fill_by (onward (spans_of releases deadlines)) 0 volumes none S

-- The lent table, however long it is, is filled by that rule over its awake slots. For every list with these parts: in a table of H bytes in which all
-- volume can be worked, step 4 has been taken; and in a longer table each awake slot behind slot H − 1 is idle, and each that slept sleeps.
pub record Fills (releases deadlines volumes table table' : List ℕ) : Type 0 where
  pub run_is : table' ≡ fill_by (onward (spans_of releases deadlines)) 0 volumes none (awake_of table)
  pub step_is : (J : Jobs) → ListsOf J releases deadlines volumes → length table ≡ J.horizon → workable J (awake_of table) ≡ total_volume J
      → table' ≡ table_of J (awake_of table)
  pub behind_is : (J : Jobs) → ListsOf J releases deadlines volumes → (t : ℕ) → J.horizon ≤ t → t < length table
      → get_or table' t 0 ≡ slot_byte (awake (awake_of table) t) none
