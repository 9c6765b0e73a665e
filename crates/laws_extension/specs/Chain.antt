-- A cheap test of whether a sleeping slot helps, and what waking it changes, without a second run. Kept are the run's table and, by rank, the
-- units lost of each job and how far it reaches: to its deadline while it has lost units, and to its last slot from then on. The woken slot
-- takes the first job by rank that reaches it. If that job has lost units, one of them is gained. If not, it gives up its last slot, which
-- takes the next job by rank that reaches it. Ranks only rise, so one pass over them is the whole chain.
use Rattle.std.specs.Prelude.{ℕ, zero, suc, ◌-◌, ◌≤◌, ◌<◌, max, ◌≡◌, Bool, true, false, ◌&&◌, List, leb, ltb, eqb, length, get_or, set}
use Rattle.sched.specs.Jobs.{Jobs, count, release, deadline, volume}
use Rattle.sched.specs.Slots.{awake}
use Rattle.laws_edf.specs.Orders.{Sorted, job_at}
use Rattle.laws_edf.specs.Run.{spans, bytes, final, left}
pub mod Ends
pub mod Served
pub mod Keeping
pub mod Start

-- One more than the last slot below s that holds j, or 0. To search from s downwards is to step from s to its predecessor.
unfoldable pub end_below : ℕ → ℕ → List ℕ → ℕ
end_below j zero table = 0
end_below j (suc s) table = elim (eqb (get_or table s 0) j) [ true ↦ suc s | false ↦ end_below j s table ]

unfoldable pub end_of : ℕ → List ℕ → ℕ
end_of j table = end_below j (length table) table

-- ranks are the jobs of a list by deadline; a record, so that it tells which list
pub record RankedJobs (J : Jobs) (ranks : List ℕ) : Type 0 where
  pub sorted : Sorted (count J) (deadline J) ranks

-- the run of S, and of each job what it loses and one more than its last slot; what stands in lost and ends past the last job is free
pub record Kept (J : Jobs) (S : List Bool) (table lost ends : List ℕ) : Type 0 where
  pub table_is : table ≡ bytes (spans J) (awake S) J.horizon 0 (volume J)
  pub lost_long : count J ≤ length lost
  pub ends_long : count J ≤ length ends
  pub lost_is : (j : ℕ) → j < count J → get_or lost j 0 ≡ final (spans J) (awake S) J.horizon 0 (volume J) j
  pub ends_is : (j : ℕ) → j < count J → get_or ends j 0 ≡ end_of j table

-- the lists by rank of a table: the end of a rank is kept only while it has lost units
pub record ByRank (J : Jobs) (ranks releases table lost reach ends : List ℕ) : Type 0 where
  pub lost_long : count J ≤ length lost
  pub reach_long : count J ≤ length reach
  pub ends_long : count J ≤ length ends
  pub releases_are : (k : ℕ) → k < count J → get_or releases k 0 ≡ release J (job_at ranks k)
  pub reach_due : (k : ℕ) → k < count J → 0 < get_or lost k 0 → get_or reach k 0 ≡ deadline J (job_at ranks k)
  pub reach_end : (k : ℕ) → k < count J → get_or lost k 0 ≡ 0 → get_or reach k 0 ≡ end_below (job_at ranks k) J.horizon table
  pub ends_is : (k : ℕ) → k < count J → 0 < get_or lost k 0 → get_or ends k 0 ≡ end_below (job_at ranks k) J.horizon table

-- the run of S as it is kept by rank
pub record KeptByRank (J : Jobs) (S : List Bool) (ranks releases table lost reach ends : List ℕ) : Type 0 where
  pub table_is : table ≡ bytes (spans J) (awake S) J.horizon 0 (volume J)
  pub lost_is : (k : ℕ) → k < count J → get_or lost k 0 ≡ left (spans J) (awake S) (volume J) J.horizon (job_at ranks k)
  pub ranked : ByRank J ranks releases table lost reach ends

-- what is kept of a run, by rank
pub record RankBooks : Type 0 where
  pub table : List ℕ
  pub lost : List ℕ
  pub reach : List ℕ
  pub ends : List ℕ

abbrev pub rank_books : List ℕ → List ℕ → List ℕ → List ℕ → RankBooks
rank_books table lost reach ends = record { table = table; lost = lost; reach = reach; ends = ends }

-- the job of rank k may take slot t
abbrev pub reaches : List ℕ → List ℕ → ℕ → ℕ → Bool
reaches releases reach t k = leb (get_or releases k 0) t && ltb t (get_or reach k 0)

-- one more than the last slot of rank k, once it has slot t
abbrev pub later_end : ℕ → ℕ → List ℕ → ℕ
later_end k t ends = max (get_or ends k 0) (suc t)

-- the reach of rank k after it has gained slot t: its last lost unit gained, it reaches as far as its last slot
abbrev pub gained_reach : ℕ → ℕ → List ℕ → List ℕ → List ℕ → List ℕ
gained_reach k t lost reach ends = elim (eqb (get_or lost k 0 - 1) 0) [ true ↦ set reach k (later_end k t ends) | false ↦ reach ]

-- rank k gains slot t for one of its lost units
abbrev pub gained_at : List ℕ → ℕ → ℕ → List ℕ → List ℕ → List ℕ → List ℕ → RankBooks
gained_at ranks k t table lost reach ends =
    rank_books (set table t (job_at ranks k)) (set lost k (get_or lost k 0 - 1)) (gained_reach k t lost reach ends) (set ends k (later_end k t ends))

-- the reaches after rank k, which the table has in slot t instead, has given up its last slot
abbrev pub handed_on : List ℕ → ℕ → ℕ → List ℕ → List ℕ → List ℕ
handed_on ranks k t table reach = set reach k (end_below (job_at ranks k) (get_or reach k 0 - 1) (set table t (job_at ranks k)))

-- whether a unit is gained, and the books then; if none is, the books are of no use
pub record Tried : Type 0 where
  pub helped : Bool
  pub books : RankBooks

-- the chain has come to slot t, and the m ranks from k on are still to be asked
unfoldable pub tried : List ℕ → List ℕ → ℕ → ℕ → ℕ → List ℕ → List ℕ → List ℕ → List ℕ → Tried
tried releases ranks zero k t table lost reach ends = record { helped = false; books = rank_books table lost reach ends }
tried releases ranks (suc m) k t table lost reach ends =
    elim (reaches releases reach t k) [
      | false ↦ tried releases ranks m (suc k) t table lost reach ends
      | true ↦
          elim (ltb 0 (get_or lost k 0)) [
            | true ↦ record { helped = true; books = gained_at ranks k t table lost reach ends }
            | false ↦
                tried releases ranks m (suc k) (get_or reach k 0 - 1) (set table t (job_at ranks k)) lost (handed_on ranks k t table reach) ends
          ]
    ]
