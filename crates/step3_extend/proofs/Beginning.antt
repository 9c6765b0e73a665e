-- Step 3 begins with the run over the skeleton: what it leaves, the ends in its table and the sum of the lost units.
use Prim.Native.Nat.{ℕ, ◌+◌, ◌≤◌}
use mathlib.Core.Path.{◌≡◌, ap, sym, subst, ◌∙◌}
use mathlib.Core.Bool.{Bool}
use mathlib.Core.List.{List}
use native.Mathlib.Omega.{arith}
use lib.ListN.{length, take}
use Rattle.sched.specs.Bounded.{sum_below}
use Rattle.sched.specs.Jobs.{Jobs, volume, total_volume}
use Rattle.sched.specs.Slots.{awake, awake_of}
use Rattle.steps.specs.Skeleton.{is_skeleton, least_skeleton}
use Rattle.steps.specs.Workable.{workable}
use Rattle.steps.specs.Extension.{woken_in, woken, wake_all, extended}
use Rattle.laws_edf.specs.Run.{State, Spans, spans, bytes, final}
use Rattle.orders.specs.declared.ordered_jobs.OrderedJobs.{OrderedJobs}
use Rattle.laws_edf.specs.Search.{state_of}
use Rattle.laws_edf.proofs.Theorems.{workable_at_most_total, some_slot_wakes}
use Rattle.laws_extension.specs.Chain.{Kept}
use Rattle.laws_extension.specs.Chain.Keeping.{run_bytes}
use Rattle.laws_extension.proofs.Chain.Missing.{kept_set, kept_volume}
use Rattle.sched.proofs.Slots.Laws.{awake_of_length}
use Rattle.laws_skeleton.proofs.Theorems.{least_is_skeleton, least_length}
use Rattle.laws_extension.proofs.Waking.Full.{woken_count}
use Rattle.queue.specs.Runs.{Runnable, RunDone, Units}
use Rattle.queue.specs.Ranks.{spans_of}
use Rattle.queue.specs.Runs.Whole.{whole_table, whole_left}
use Rattle.step3_extend.proofs.Ends.{sum_in_front}
use Rattle.step3_extend.specs.Turns.{Extending}
use Rattle.step3_extend.specs.Beginning.{Extendable, EndsOf, Begun}

module _ {J : Jobs} {releases deadlines volumes ranks table : List ℕ} (g : Extendable J releases deadlines volumes ranks table) where
  spans_are : spans J ≡ spans_of releases deadlines
  spans_are =
      ap (λ (l : List ℕ). spans_of l J.deadlines) g.releases_are ∙ ap (spans_of releases) g.deadlines_are

  set_long : length (awake_of table) ≡ J.horizon
  set_long = ap length g.set_is ∙ least_length J g.passes

  lent_long : length table ≡ J.horizon
  lent_long = sym (awake_of_length table) ∙ set_long

  pub begin_small : (table' : List ℕ) → length table' ≡ length table → length table' ≤ 4096
  begin_small table' same = omega (arith, same, lent_long, g.passes.high)

  module _ {units : List ℕ} (u : Units volumes units) where
    pub begin_runnable : (jobs : OrderedJobs) → jobs.releases.now ≡ releases → Runnable jobs units table
    begin_runnable jobs e =
        let few : length jobs.releases.now ≤ 64 = omega (arith, ap length e, ap length g.releases_are, g.passes.few) in
        record { short = omega (arith, lent_long, g.passes.high); room = omega (arith, u.long) }

    pub begin_room : (lost : List ℕ) → length lost ≡ length units → length ranks ≤ length lost
    begin_room lost same = omega (arith, g.many, g.passes.few, same, u.long)

    all_units : state_of units ≡ volume J
    all_units = u.same ∙ ap state_of (sym g.volumes_are)

    module _ {lost table' : List ℕ} (done : RunDone (spans_of releases deadlines) 0 units table lost table') where
      run : RunDone (spans J) 0 units table lost table'
      run = subst (λ (F : Spans). RunDone F 0 units table lost table') (sym spans_are) done

      ran : table' ≡ run_bytes J (awake (awake_of table))
      ran =
          whole_table run
          ∙ ap (λ (n : ℕ). bytes (spans J) (awake (awake_of table)) n 0 (state_of units)) lent_long
          ∙ ap (bytes (spans J) (awake (awake_of table)) J.horizon 0) all_units

      over : state_of lost ≡ final (spans J) (awake (awake_of table)) J.horizon 0 (volume J)
      over =
          whole_left run
          ∙ ap (λ (n : ℕ). final (spans J) (awake (awake_of table)) n 0 (state_of units)) lent_long
          ∙ ap (final (spans J) (awake (awake_of table)) J.horizon 0) all_units

      module _ {ends : List ℕ} (same : length ends ≡ 64) (last : EndsOf table' ends) {short : ℕ}
          (sum : short ≡ sum_below (length (take (length ranks) lost)) (state_of (take (length ranks) lost))) where
        kept : Kept J (awake_of table) table' lost ends
        kept =
            record {
              table_is = ran;
              lost_long = omega (arith, begin_room lost done.left_long, g.many);
              ends_long = omega (arith, g.passes.few, same);
              lost_is = λ j l. ap (λ (L : State). L j) over;
              ends_is = λ j l. last.each j (omega (arith, g.passes.few));
            }

        missing : workable J (awake_of table) + short ≡ total_volume J
        missing = rw (sum ∙ sum_in_front lost (length ranks) (begin_room lost done.left_long), g.many) (kept_volume g.passes set_long kept)

        in_all : length (woken J (least_skeleton J)) ≡ short
        in_all =
            let p = g.passes in
            let least = ap (workable J) g.set_is in
            omega (
              arith,
              missing,
              least,
              woken_count J (λ S n k v. some_slot_wakes J S p g.free k n v) (least_skeleton J) (least_length J p) (least_is_skeleton J p)
                  (workable_at_most_total J (least_skeleton J) p (least_length J p)),
            )

        begun : Extending J (awake_of table) short 0 0
        unfolding extended woken
        begun =
            record {
              passes = g.passes;
              free = g.free;
              long = set_long;
              skeleton = ap (is_skeleton J) g.set_is ∙ least_is_skeleton J g.passes;
              short_is = missing;
              none_before = λ i l. absurd (omega arith);
              turns = J.horizon;
              still = ap (λ (S : List Bool). length (woken_in J.horizon J S)) g.set_is ∙ in_all;
              whole = ap (λ (S : List Bool). wake_all S (woken_in J.horizon J S)) (sym g.set_is);
              in_all = omega (arith, in_all);
            }

        pub begin_done : Begun J releases deadlines ranks lost ends table' short
        begin_done =
            let same_set = sym (kept_set g.passes set_long ran) in
            record {
              releases_are = g.releases_are;
              deadlines_are = g.deadlines_are;
              way = subst (λ (S : List Bool). Extending J S short 0 0) same_set begun;
              ranked = g.ranked;
              many = g.many;
              kept = subst (λ (S : List Bool). Kept J S table' lost ends) same_set kept;
            }
