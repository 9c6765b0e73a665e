-- Step 3 between two of its turns, each of which wakes a slot: the set that is awake, the run over it, and what is left to do.
use Rattle.std.specs.Prelude.{ℕ, ◌+◌, ◌-◌, ◌≤◌, ◌<◌, ◌≡◌, Bool, true, false, List, length, get_or}
use Rattle.sched.specs.Jobs.{Jobs, count, deadline, volume, total_volume}
use Rattle.sched.specs.Checks.{Passes}
use Rattle.sched.specs.Slots.{awake, awake_of, touches}
use Rattle.steps.specs.Overload.{overloaded}
use Rattle.steps.specs.Skeleton.{is_skeleton, least_skeleton}
use Rattle.steps.specs.Workable.{workable}
use Rattle.steps.specs.Extension.{woken_in, woken, wake_all, extended}
use Rattle.laws_edf.specs.Run.{spans, bytes}
use Rattle.laws_edf.specs.Orders.{job_at}
use Rattle.laws_extension.specs.Chain.{RankedJobs, KeptByRank}
use Rattle.laws_extension.specs.Waking.Cursor.{NoneBefore}

-- S is awake, `short` units are lost and as many slots still to be woken, `added` are woken; no slot before the cursor can be
pub record Extending (J : Jobs) (S : List Bool) (short added cursor : ℕ) : Type 0 where
  pub passes : Passes J
  pub free : (a b : ℕ) → overloaded J a b ≡ false
  pub long : length S ≡ J.horizon
  pub skeleton : is_skeleton J S ≡ true
  pub short_is : workable J S + short ≡ total_volume J
  pub none_before : NoneBefore J S cursor
  pub turns : ℕ
  pub still : length (woken_in turns J S) ≡ short
  pub whole : extended J ≡ wake_all S (woken_in turns J S)
  pub in_all : length (woken J (least_skeleton J)) ≡ added + short

-- the set is the table's, and the table the run over it; the other lists go by rank: releases, deadlines, jobs and the books of the run
pub record Growing (J : Jobs) (releases deadlines ranks lost reach ends table : List ℕ) (short added cursor : ℕ) : Type 0 where
  pub way : Extending J (awake_of table) short added cursor
  pub ranked : RankedJobs J ranks
  pub kept : KeptByRank J (awake_of table) ranks releases table lost reach ends
  pub releases_long : length releases ≡ count J
  pub deadlines_long : length deadlines ≡ count J
  pub deadlines_are : (k : ℕ) → k < count J → get_or deadlines k 0 ≡ deadline J (job_at ranks k)

-- no slot before t touches the set
pub record Alone (S : List Bool) (t : ℕ) : Type 0 where
  pub each : (i : ℕ) → i < t → touches S i ≡ false

-- `first` is a rank or the number of ranks, and the rank before it is due by slot x
pub record EndedBefore (x : ℕ) (deadlines : List ℕ) (first : ℕ) : Type 0 where
  pub within : first ≤ length deadlines
  pub over : 0 < first → get_or deadlines (first - 1) 0 ≤ x

-- the table's set is the extended one, its bytes are the run of earliest deadline first over that set, and `added` counts the slots that were woken
pub record Extended (J : Jobs) (table : List ℕ) (added : ℕ) : Type 0 where
  pub set_is : awake_of table ≡ extended J
  pub table_is : table ≡ bytes (spans J) (awake (extended J)) J.horizon 0 (volume J)
  pub added_is : added ≡ length (woken J (least_skeleton J))
