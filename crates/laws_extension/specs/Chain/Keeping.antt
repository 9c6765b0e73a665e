-- What is kept says of the run: the units lost of each job, the last slot of each, and how far each rank reaches.
use Rattle.std.specs.Prelude.{ℕ, ◌-◌, ◌≤◌, ◌<◌, ◌≡◌, Bool, List, length, get_or}
use Rattle.std.proofs.Common.{ap, ◌∙◌, arith}
use Rattle.std.proofs.Math.Option.{Option}
use Rattle.std.proofs.Math.Decide.{dec_lt}
use Rattle.sched.specs.Jobs.{Jobs, count, deadline, volume}
use Rattle.sched.specs.Checks.{Passes}
use Rattle.sched.specs.Slots.{awake}
use Rattle.laws_edf.specs.Run.{State, spans, bytes, left}
use Rattle.laws_edf.proofs.Left.{final_left}
use Rattle.laws_edf.proofs.Placements.{bytes_long}
use Rattle.laws_edf.specs.Orders.{job_at}
use Rattle.laws_extension.specs.Chain.{RankedJobs, Kept, KeptByRank}
use Rattle.laws_extension.specs.Chain.Ends.{ends_below}
use Rattle.laws_extension.specs.Chain.Served.{served, byte_of, LastServed, table_byte, ends_served, last_in_time}

-- The run of a list of jobs

abbrev pub left_of : Jobs → (ℕ → Bool) → ℕ → State
left_of J S t = left (spans J) S (volume J) t

abbrev pub served_by : Jobs → (ℕ → Bool) → ℕ → Option ℕ
served_by J S t = served (spans J) S (volume J) t

abbrev pub LastSlot : Jobs → (ℕ → Bool) → ℕ → ℕ → Type 0
LastSlot J S j e = LastServed (spans J) S (volume J) J.horizon j e

-- the table of a run
abbrev pub run_bytes : Jobs → (ℕ → Bool) → List ℕ
run_bytes J S = bytes (spans J) S J.horizon 0 (volume J)

-- the byte of one slot
abbrev pub run_byte_at : Jobs → (ℕ → Bool) → ℕ → ℕ
run_byte_at J S t = byte_of (spans J) S (volume J) t

module _ (J : Jobs) (S : List Bool) {table : List ℕ} (is : table ≡ run_bytes J (awake S)) where
  pub run_long : length table ≡ J.horizon
  run_long = rw is (bytes_long (spans J) (awake S) J.horizon 0 (volume J))

  pub run_byte : (t : ℕ) → t < J.horizon → get_or table t 0 ≡ run_byte_at J (awake S) t
  run_byte t l = rw is (table_byte (spans J) (awake S) (volume J) J.horizon t l)

pub kept_loses : {J : Jobs} {S : List Bool} {table lost ends : List ℕ} → Kept J S table lost ends →
    (j : ℕ) → j < count J → get_or lost j 0 ≡ left_of J (awake S) J.horizon j
unfolding left
kept_loses {J} {S} kept j l =
    kept.lost_is j l ∙ ap (λ (L : State). L j) (final_left (spans J) (awake S) (volume J) J.horizon 0 J.horizon (omega arith))

-- The books by rank

module _ {J : Jobs} {S : List Bool} {ranks releases table lost reach ends : List ℕ} (kept : KeptByRank J S ranks releases table lost reach ends) where
  module _ (k : ℕ) (below : k < count J) where
    -- the last slot of a rank that has lost nothing holds its job
    pub rank_holds : get_or lost k 0 ≡ 0 → 0 < get_or reach k 0 → get_or table (get_or reach k 0 - 1) 0 ≡ job_at ranks k
    rank_holds z u =
        let same = kept.ranked.reach_end k below z in
        (ends_below (job_at ranks k) J.horizon table).holds (get_or reach k 0 - 1) (omega arith)

    module _ (passes : Passes J) (ranked : RankedJobs J ranks) where
      pub rank_last : get_or lost k 0 ≡ 0 → LastSlot J (awake S) (job_at ranks k) (get_or reach k 0)
      rank_last z =
          rw (kept.ranked.reach_end k below z, kept.table_is)
          (ends_served (omega (arith, passes.few)) (ranked.sorted.known k below) (ends_below (job_at ranks k) J.horizon (run_bytes J (awake S))))

      -- a rank reaches no further than its deadline, and so not behind the table
      pub rank_in_time : get_or reach k 0 ≤ deadline J (job_at ranks k)
      rank_in_time = go (dec_lt 0 (get_or lost k 0))
        where
          go : Dec (0 < get_or lost k 0) → get_or reach k 0 ≤ deadline J (job_at ranks k)
          go (yes u) = omega (arith, kept.ranked.reach_due k below u)
          go (no f) = last_in_time (rank_last (omega arith))

      pub reach_in : get_or reach k 0 ≤ length table
      reach_in = omega (arith, rank_in_time, run_long J S kept.table_is, (passes.good (job_at ranks k) (ranked.sorted.known k below)).within)
