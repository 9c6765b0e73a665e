-- Steps 2 to 5 for a list that passes the checks and has no overloaded interval: the skeleton, the set it is extended to, and its table.
use Rattle.std.specs.Prelude.{ℕ, ◌+◌, ◌-◌, ◌≤◌, ◌≡◌, Bool, false, List, length}
use Rattle.std.proofs.Math.Path.{refl, ap}
use Rattle.std.proofs.Common.{sym, ◌∙◌, arith}
use Rattle.sched.specs.Jobs.{Jobs, total_volume}
use Rattle.sched.specs.Checks.{Passes}
use Rattle.sched.specs.Slots.{awake_of, working_of}
use Rattle.sched.proofs.Slots.Laws.{awake_of_length}
use Rattle.sched.specs.Energy.{energy}
use Rattle.sched.specs.Feasible.{Feasible}
use Rattle.steps.specs.Overload.{overloaded}
use Rattle.steps.specs.Skeleton.{least_skeleton}
use Rattle.steps.specs.Workable.{workable}
use Rattle.steps.specs.Extension.{woken, extended}
use Rattle.steps.specs.Table.{table_of}
use Rattle.steps.proofs.Sleep.Laws.{slept_length, slept_feasible, working_stays}
use Rattle.steps.proofs.Sleep.Cheapest.{none_cheaper}
use Rattle.steps.specs.Steps.{table_from, plan_table}
use Rattle.laws_edf.proofs.Theorems.{workable_at_most_total, some_slot_wakes, table_keeps_set, table_feasible}
use Rattle.laws_skeleton.proofs.Theorems.{least_is_skeleton, least_length, least_cheapest}
use Rattle.laws_skeleton.proofs.Rival.Skeleton.{rival_skeleton, rival_length}
use Rattle.laws_extension.specs.Waking.{AlwaysOne}
use Rattle.laws_extension.proofs.Waking.Turns.{all_length, woken_energy}
use Rattle.laws_extension.proofs.Waking.Full.{woken_full, woken_count}

pub extended_length : (J : Jobs) → Passes J → length (extended J) ≡ J.horizon
unfolding extended
extended_length J p = all_length (least_skeleton J) (woken J (least_skeleton J)) ∙ least_length J p

-- steps 4 and 5, from any set of slots: the table has a byte a slot
pub from_length : (J : Jobs) (S : List Bool) → Passes J → length (table_from J S) ≡ length S
unfolding table_from
from_length J S p = slept_length J.wake J.start (table_of J S) ∙ sym (awake_of_length (table_of J S)) ∙ ap length (table_keeps_set J S p)

pub plan_length : (J : Jobs) → Passes J → length (plan_table J) ≡ J.horizon
unfolding plan_table
plan_length J p = from_length J (extended J) p ∙ extended_length J p

-- steps 4 and 5, from any set of H slots in which all volume can be worked: the table is feasible and costs no more than the set
module _ (J : Jobs) (S : List Bool) (p : Passes J) where
  pub from_feasible : length S ≡ J.horizon → workable J S ≡ total_volume J → Feasible J (table_from J S)
  unfolding table_from
  from_feasible long full = slept_feasible J J.wake J.start (table_of J S) p.few (table_feasible J S p long full)

  -- step 4's table has the set's awake slots, and the rule's table costs no more than that
  from_energy : energy J (awake_of (table_from J S)) ≤ energy J S
  unfolding table_from
  from_energy = omega (arith, none_cheaper J (table_of J S) (table_of J S) refl, ap (energy J) (table_keeps_set J S p))

module _ (J : Jobs) (p : Passes J) (none_over : (a b : ℕ) → overloaded J a b ≡ false) where
  one : AlwaysOne J
  one S n k v = some_slot_wakes J S p none_over k n v

  pub extended_full : workable J (extended J) ≡ total_volume J
  unfolding extended
  extended_full =
      woken_full J one (least_skeleton J) (least_length J p) (least_is_skeleton J p)
      (workable_at_most_total J (least_skeleton J) p (least_length J p))

  -- "added .. equals the sum of volumes less the skeleton's workable volume"
  pub added_is_shortfall : length (woken J (least_skeleton J)) ≡ total_volume J - workable J (least_skeleton J)
  added_is_shortfall =
      woken_count J one (least_skeleton J) (least_length J p) (least_is_skeleton J p)
      (workable_at_most_total J (least_skeleton J) p (least_length J p))

  pub plan_feasible : Feasible J (plan_table J)
  unfolding plan_table
  plan_feasible = from_feasible J (extended J) p (extended_length J p) extended_full

  -- no more than the energy of any feasible table plus the sum of volumes: so much costs step 3's set, and the table no more
  pub plan_energy : (rival : List ℕ) → Feasible J rival → energy J (awake_of (plan_table J)) ≤ energy J (awake_of rival) + total_volume J
  unfolding plan_table extended woken
  plan_energy rival f =
      let table = from_energy J (extended J) p in
      let grown = woken_energy J J.horizon (least_skeleton J) (least_length J p) in
      let least = least_cheapest J (awake_of rival) p (rival_length J rival f) (rival_skeleton J rival p f) in
      omega (arith, table, grown, least, added_is_shortfall)

-- the working slots of the plan are those of step 4's table
pub plan_working : (J : Jobs) → working_of (plan_table J) ≡ working_of (table_of J (extended J))
unfolding plan_table table_from
plan_working J = working_stays J.wake J.start (table_of J (extended J))

-- and no table with these working slots costs less
pub plan_cheapest : (J : Jobs) (other : List ℕ) → working_of other ≡ working_of (plan_table J) → energy J (awake_of (plan_table J)) ≤ energy J (awake_of other)
unfolding plan_table table_from
plan_cheapest J other same = none_cheaper J (table_of J (extended J)) other (same ∙ plan_working J)
