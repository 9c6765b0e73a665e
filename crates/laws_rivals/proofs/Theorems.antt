-- Demand 3 of the plan that 01 and 02 define, what `added` counts, steps 1 and 3 to their ends, and what step 5 leaves.
use Rattle.std.specs.Prelude.{ℕ, ◌+◌, ◌-◌, ◌≤◌, ◌<◌, ◌≡◌, true, false, List, ◌↔◌, ◌⊎◌, length, get_or, drop, Ok}
use Rattle.std.proofs.Math.Path.{refl, sym, ap}
use Rattle.std.proofs.Common.{subst, ◌∙◌, inl, inr, arith, ltb-true, lt-ltb}
use Rattle.std.proofs.Math.Option.{Option, none, some}
use Rattle.std.proofs.Math.ListN.{take}
use Rattle.std.proofs.Math.Seq.{take_at}
use Rattle.sched.proofs.Bounded.Laws.{true_not_false}
use Rattle.sched.specs.Jobs.{Jobs, count, release, deadline, volume, total_volume}
use Rattle.sched.specs.Checks.{Passes, job_check}
use Rattle.sched.proofs.Checks.Laws.{job_passes}
use Rattle.sched.specs.Slots.{awake_of, times, idle, asleep, works, working_of}
use Rattle.sched.specs.Feasible.{Feasible}
use Rattle.sched.specs.Energy.{energy}
use Rattle.steps.specs.Overload.{overloaded, shown_overload, Overfull, Shown}
use Rattle.steps.specs.Skeleton.{least_skeleton}
use Rattle.steps.specs.Workable.{workable}
use Rattle.steps.specs.Extension.{woken, extended}
use Rattle.steps.specs.Table.{table_of}
use Rattle.steps.proofs.Sleep.Laws.{working_kept, others_rest}
use Rattle.steps.specs.Steps.{table_from, plan_table}
use Rattle.steps.specs.Outcomes.{Plan, figures_of, plan_by, planned, plan}
use Rattle.sched.specs.Answers.{outcome_number}
use Rattle.steps.proofs.Outcomes.Laws.{early_overload, early_none, plan_ended, plan_goes_on}
use Rattle.sched.specs.declared.PlanFigures.{PlanFigures}
use Rattle.sched.specs.declared.Interval.{Interval}
use Rattle.sched.specs.declared.Outcome.{Outcome}
use Rattle.sched.specs.declared.Outcome.TheVariants.{Planned, Overloaded}
use Rattle.laws_edf.proofs.Overload.Laws.{overfull_overloaded}
use Rattle.laws_edf.proofs.Overload.Shown.{shown_none, some_shown, shown_some}
use Rattle.laws_edf.proofs.Overload.Counting.{feasible_no_overload}
use Rattle.laws_rivals.specs.Rivals.{Sound, AgainstRivals, CheapestSleep, Reports, as_outcome, CountsWoken, Delivers}
use Rattle.laws_edf.proofs.Theorems.{unhelpful_stays, large_volume_overfull}
use Rattle.laws_skeleton.proofs.Theorems.{least_length}
use Rattle.laws_extension.specs.Waking.Cursor.{woken_from, tried_from}
use Rattle.laws_extension.proofs.Waking.Cursor.From.{woken_from_lem}
use Rattle.laws_extension.proofs.Waking.Cursor.Once.{tried_once}
use Rattle.laws_rivals.proofs.Steps.{extended_full, added_is_shortfall, plan_feasible, plan_energy, plan_working, plan_cheapest}

-- Any planner

-- an interval is shown: no rival has a schedule
overload_sound : (J : Jobs) (i : Interval) (table : List ℕ) → shown_overload J ≡ some i → Sound J (as_outcome (Overloaded i)) table
overload_sound J i table e =
    let over = (shown_some J i e).over in
    record {
      no_schedule = λ s rival f. true_not_false _ (overfull_overloaded J i.a i.b over) (feasible_no_overload J rival f i.a i.b);
      says_so = λ s. tt;
      shown = λ s. (i.a, i.b, (refl, refl));
      interval = λ from to q. subst (λ (b : ℕ). Overfull J from b) q.1 (subst (λ (a : ℕ). Overfull J a i.b) q.0 over);
      otherwise = λ s. absurd (s tt);
    }

-- a feasible table is handed over with its energy: there is no reason to say overloaded
planned_sound : (J : Jobs) (f : PlanFigures) (table : List ℕ) → Feasible J table → f.energy ≡ energy J (awake_of table) → Sound J (as_outcome (Planned f)) table
planned_sound J f table feasible e =
    record {
      no_schedule = λ s. absurd s;
      says_so = λ s. absurd (s table feasible);
      shown = λ s. absurd s;
      interval = λ from to q. absurd q;
      otherwise = λ s. record { feasible = feasible; reported = e };
    }

-- Whatever its steps are: a planner whose steps deliver is sound.
pub any_planner_sound : (steps : Jobs → List ℕ → Plan) (J : Jobs) (lent : List ℕ) → Passes J → J.horizon ≤ length lent →
    (((a b : ℕ) → overloaded J a b ≡ false) → Delivers J (steps J lent)) →
    Sound J (as_outcome (plan_by steps J lent).answer) (take J.horizon (plan_by steps J lent).table)
any_planner_sound steps J lent p m delivers = by_shown (shown_overload J) refl
  where
    SoundPlan : Plan → Type 0
    SoundPlan x = Sound J (as_outcome x.answer) (take J.horizon x.table)

    by_shown : (o : Option Interval) → shown_overload J ≡ o → SoundPlan (plan_by steps J lent)
    by_shown (some i) e =
        subst SoundPlan (sym (plan_ended steps J lent (Overloaded i) (early_overload J (length lent) p m i e)))
        (overload_sound J i (take J.horizon lent) e)
    by_shown none e =
        let d = delivers (shown_none J e) in
        subst SoundPlan (sym (plan_goes_on steps J lent (early_none J (length lent) p m e)))
        (subst (λ (o : Outcome). Sound J (as_outcome o) (take J.horizon (steps J lent).table)) (sym d.planned)
        (planned_sound J d.figures (take J.horizon (steps J lent).table) d.feasible d.reported))

-- The plan of 01 and 02

module _ (J : Jobs) (lent : List ℕ) (p : Passes J) (n : (a b : ℕ) → overloaded J a b ≡ false) where
  first_bytes : take J.horizon (planned J lent).table ≡ plan_table J
  unfolding planned
  first_bytes = take_at (plan_table J) (drop J.horizon lent) J.horizon (plan_feasible J p n).long

  plan_delivers : Delivers J (planned J lent)
  unfolding planned figures_of
  plan_delivers = record {
    figures = figures_of J (plan_table J) (length (woken J (least_skeleton J)));
    planned = refl;
    feasible = rw first_bytes (plan_feasible J p n);
    reported = rw first_bytes;
  }

module _ (J : Jobs) (lent : List ℕ) (p : Passes J) (long : J.horizon ≤ length lent) where
  -- an energy is reported where no interval is overloaded; it is that of the plan's table, which is handed over
  PlannedIs : ℕ → Type 0
  PlannedIs reported =
      ((a b : ℕ) → overloaded J a b ≡ false) × (reported ≡ energy J (awake_of (plan_table J))) × (take J.horizon (plan J lent).table ≡ plan_table J)

  reported_is : (reported : ℕ) → Reports (plan J lent).answer reported → PlannedIs reported
  unfolding plan planned figures_of PlannedIs
  reported_is reported r = by_shown (shown_overload J) refl
    where
      by_shown : (o : Option Interval) → shown_overload J ≡ o → PlannedIs reported
      by_shown (some i) e = absurd (rw (plan_ended planned J lent (Overloaded i) (early_overload J (length lent) p long i e)) at r)
      by_shown none e =
          let on = plan_goes_on planned J lent (early_none J (length lent) p long e) in
          let free = shown_none J e in
          (free, sym (rw on at r), ap (λ (x : Plan). take J.horizon x.table) on ∙ first_bytes J lent p free)

module _ (J : Jobs) (lent : List ℕ) (p : Passes J) (m : J.horizon ≤ length lent) where
  -- Ours and any rival, which starts in the same state.
  pub demand_three : AgainstRivals J (as_outcome (plan J lent).answer) (take J.horizon (plan J lent).table)
  unfolding plan PlannedIs
  demand_three = record {
    sound = any_planner_sound planned J lent p m (λ n. plan_delivers J lent p n);
    limit = λ reported r rival f. let s = reported_is J lent p m reported r in omega (arith, s.1, plan_energy J p s.0 rival f);
  }

  -- Ours and any table in which the same slots work as in ours.
  pub cheapest_sleep : CheapestSleep J (as_outcome (plan J lent).answer) (take J.horizon (plan J lent).table)
  unfolding plan PlannedIs
  cheapest_sleep reported r =
      let (free, energy_is, table_is) = reported_is J lent p m reported r in
      rw table_is (energy_is, λ other same. plan_cheapest J other same)

planned_not_overloaded : (f : PlanFigures) (i : Interval) → ◌≡◌ {A = Outcome} (Planned f) (Overloaded i) → ⊥
planned_not_overloaded f i e = let z : ◌≡◌ {A = ℕ} 0 1 = cc in omega arith

planned_figures : (J : Jobs) (lent : List ℕ) (f : PlanFigures) → (planned J lent).answer ≡ Planned f → f.added ≡ length (woken J (least_skeleton J))
unfolding planned figures_of
planned_figures J lent f e = let same : figures_of J (plan_table J) (length (woken J (least_skeleton J))) ≡ f = cc in sym (ap (λ (x : PlanFigures). x.added) same)

pub added_counts : (J : Jobs) (lent : List ℕ) (f : PlanFigures) → Passes J → J.horizon ≤ length lent → (plan J lent).answer ≡ Planned f → CountsWoken J f.added
unfolding plan
added_counts J lent f p m e = by_shown (shown_overload J) refl
  where
    by_shown : (o : Option Interval) → shown_overload J ≡ o → CountsWoken J f.added
    by_shown (some i) q =
        absurd (planned_not_overloaded f i (sym e ∙ ap (λ (x : Plan). x.answer) (plan_ended planned J lent (Overloaded i) (early_overload J (length lent) p m i q))))
    by_shown none q =
        let same = planned_figures J lent f (sym (ap (λ (x : Plan). x.answer) (plan_goes_on planned J lent (early_none J (length lent) p m q))) ∙ e) in
        (same, same ∙ added_is_shortfall J p (shown_none J q))

-- Step 1

-- "If an interval is overloaded, the outcome is overload with a and b": of the interval that is shown. The lent table stays as it was.
pub overload_told : (J : Jobs) (lent : List ℕ) (a b : ℕ) → Passes J → J.horizon ≤ length lent → Overfull J a b →
    (i : Interval) × Shown J i × (plan J lent ≡ record { answer = Overloaded i; table = lent })
unfolding plan
overload_told J lent a b p m over =
    let (i, e) = some_shown J a b over in
    (i, shown_some J i e, plan_ended planned J lent (Overloaded i) (early_overload J (length lent) p m i e))

-- "A volume larger than d−r is no field fault; it is an overload." The check of a job lets it pass
pub large_volume_no_fault : (h j r d p : ℕ) → r < d → d ≤ h → d - r < p → job_check h j r d p ≡ Ok tt
large_volume_no_fault h j r d p span within large = job_passes h j r d p (record { span = span; within = within; some = omega arith })

-- and in a list that passes, with a table of at least H bytes, it gives 18
pub large_volume_overloads : (J : Jobs) (lent : List ℕ) (j : ℕ) → Passes J → J.horizon ≤ length lent → j < count J →
    deadline J j - release J j < volume J j → outcome_number (plan J lent).answer ≡ 18
large_volume_overloads J lent j p m l large =
    let (i, shown, told) = overload_told J lent (release J j) (deadline J j) p m (large_volume_overfull J j p l large) in
    ap (λ (x : Plan). outcome_number x.answer) told

-- Step 3, from the least skeleton of a list without an overloaded interval

-- it ends with all volume workable, and the plan's table is feasible
pub extension_ends : (J : Jobs) → Passes J → ((a b : ℕ) → overloaded J a b ≡ false) → (workable J (extended J) ≡ total_volume J) × Feasible J (plan_table J)
extension_ends J p n = (extended_full J p n, plan_feasible J p n)

-- it wakes as many slots as the skeleton's workable volume is short of
pub extension_count : (J : Jobs) → Passes J → ((a b : ℕ) → overloaded J a b ≡ false) → length (woken J (least_skeleton J)) ≡ total_volume J - workable J (least_skeleton J)
extension_count J p n = added_is_shortfall J p n

-- a cursor that goes back one slot at most wakes the same slots in the same order
pub extension_order : (J : Jobs) → Passes J → woken_from J.horizon J (least_skeleton J) 0 ≡ woken J (least_skeleton J)
unfolding woken
extension_order J p =
    woken_from_lem J (λ S x y n l m s t v. unhelpful_stays J S x y p n l s v m) J.horizon (least_skeleton J) 0 (least_length J p) (omega arith)
    (λ i l. absurd (omega arith))

-- and it tries each slot at most once
pub extension_tries : (J : Jobs) (i : ℕ) → Passes J → times i (tried_from J.horizon J (least_skeleton J) 0) ≤ 1
extension_tries J i p = tried_once J J.horizon (least_skeleton J) 0 i (least_length J p)

-- The energy limit: the table of steps 2 to 5 costs at most any feasible table and the sum of volumes.
pub energy_limit : (J : Jobs) (rival : List ℕ) → Passes J → ((a b : ℕ) → overloaded J a b ≡ false) → Feasible J rival → energy J (awake_of (plan_table J)) ≤ energy J (awake_of rival) + total_volume J
energy_limit J rival p n f = plan_energy J p n rival f

-- Step 5

-- A slot of a feasible table works just where a job of the list runs in it.
pub job_works : (J : Jobs) (table : List ℕ) (t : ℕ) → Passes J → Feasible J table → t < J.horizon → (works (get_or table t 0) ≡ true) ↔ (get_or table t 0 < count J)
job_works J table t p f l = (λ w. named (ltb-true (get_or table t 0) 64 w) (f.known t l), λ m. lt-ltb (get_or table t 0) 64 (omega (arith, p.few)))
  where
    named : get_or table t 0 < 64 → (get_or table t 0 < count J) ⊎ ((get_or table t 0 ≡ idle) ⊎ (get_or table t 0 ≡ asleep)) → get_or table t 0 < count J
    named w (inl m) = m
    named w (inr (inl e)) = absurd (omega arith)
    named w (inr (inr e)) = absurd (omega arith)

-- "The working slots of step 4 are fixed": the same slots work as in step 4's table, each for the same job, and every other slot is idle or asleep
pub record KeepsWork (before after : List ℕ) : Type 0 where
  pub same : working_of after ≡ working_of before
  pub jobs : (t : ℕ) → t < length before → works (get_or before t 0) ≡ true → get_or after t 0 ≡ get_or before t 0
  pub others : (t : ℕ) → t < length before → works (get_or before t 0) ≡ false → (get_or after t 0 ≡ idle) ⊎ (get_or after t 0 ≡ asleep)

pub work_stays : (J : Jobs) → KeepsWork (table_of J (extended J)) (plan_table J)
unfolding plan_table table_from
work_stays J =
    let table = table_of J (extended J) in
    record { same = plan_working J; jobs = working_kept J.wake J.start table; others = others_rest J.wake J.start table }

-- the plan's table without card 5, here to be compared with: 01's step 5 left every slot as step 4 had it
abbrev pub table_before : Jobs → List ℕ
table_before J = table_of J (extended J)

-- no plan costs more than then
pub never_dearer : (J : Jobs) → energy J (awake_of (plan_table J)) ≤ energy J (awake_of (table_before J))
never_dearer J = plan_cheapest J (table_before J) (sym (plan_working J))
