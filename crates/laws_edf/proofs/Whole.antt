-- The run of a whole list of jobs, from slot 0 to H.
use Rattle.std.specs.Prelude.{ℕ, ◌+◌, ◌≤◌, ◌≡◌, Bool, List, length}
use Rattle.std.proofs.Math.Path.{ap, sym}
use Rattle.std.proofs.Common.{◌∙◌, arith}
use Rattle.sched.specs.Bounded.{sum_below}
use Rattle.sched.proofs.Bounded.Laws.{sum_total}
use Rattle.sched.specs.Jobs.{Jobs, count, volume, total_volume}
use Rattle.sched.specs.Slots.{awake}
use Rattle.steps.specs.Workable.{Placement, Greatest, workable}
use Rattle.laws_edf.specs.Run.{spans, vol, left, bytes, all_units, edf_volume}
use Rattle.laws_edf.specs.Placed.{PlacedFrom}
use Rattle.laws_edf.proofs.Left.{vol_and_left}
use Rattle.laws_edf.proofs.Placements.{placed_at_most, bytes_long, bytes_units, run_placed}
use Rattle.laws_edf.specs.Search.{reads_whole, search_is_run}

module _ (J : Jobs) (S : List Bool) where
  placed_whole : (placed : List ℕ) → Placement J S placed → PlacedFrom J (awake S) 0 (volume J) placed
  placed_whole placed c =
      record {
        in_set = λ i l k. let e : 0 + i ≡ i = omega arith in rw e (c.in_set i (rw c.long at l) k);
        own = λ i l k. let e : 0 + i ≡ i = omega arith in rw e (c.own i (rw c.long at l) k);
        often = c.often;
      }

  whole_placed : (placed : List ℕ) → length placed ≡ J.horizon → PlacedFrom J (awake S) 0 (volume J) placed → Placement J S placed
  whole_placed placed q c =
      record {
        long = q;
        in_set = λ i l k. let e : 0 + i ≡ i = omega arith in rw e at (c.in_set i (rw q l) k);
        own = λ i l k. let e : 0 + i ≡ i = omega arith in rw e at (c.own i (rw q l) k);
        often = c.often;
      }

  pub run_greatest : count J ≤ 254 → Greatest J S (edf_volume J S)
  unfolding edf_volume
  run_greatest few =
      let placed = bytes (spans J) (awake S) J.horizon 0 (volume J) in
      record {
        reached = (
          placed,
          whole_placed placed (bytes_long (spans J) (awake S) J.horizon 0 (volume J)) (run_placed J few (awake S) J.horizon 0 (volume J)),
          bytes_units J few (awake S) J.horizon 0 (volume J),
        );
        bound = λ p c. rw c.long at (placed_at_most J (awake S) 0 (volume J) p (placed_whole p c));
      }

  pub search_finds_run : length S ≡ J.horizon → workable J S ≡ edf_volume J S
  unfolding edf_volume workable
  search_finds_run q =
      search_is_run J (awake S) S 0 J.volumes (reads_whole S)
      ∙ ap (λ (h : ℕ). vol (spans J) (awake S) h 0 (volume J)) q

module _ (J : Jobs) (same : length J.volumes ≡ count J) where
  volumes_sum : all_units (spans J) (volume J) ≡ total_volume J
  volumes_sum = ap (λ (n : ℕ). sum_below n (volume J)) (sym same) ∙ sum_total J.volumes

  -- Served and lost units together are the sum of volumes.
  pub served_and_lost : (S : List Bool) → edf_volume J S + all_units (spans J) (left (spans J) (awake S) (volume J) J.horizon) ≡ total_volume J
  unfolding edf_volume
  served_and_lost S = vol_and_left (spans J) (awake S) (volume J) J.horizon ∙ volumes_sum

  -- the run serves all units that there are, where it serves the sum of volumes
  pub all_served : (S : List Bool) → edf_volume J S ≡ total_volume J → vol (spans J) (awake S) J.horizon 0 (volume J) ≡ all_units (spans J) (volume J)
  unfolding edf_volume
  all_served S e = e ∙ sym volumes_sum
