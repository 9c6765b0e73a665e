-- 01, step 2: what is proved of the least skeleton. `least_skeleton` is the literal definition, by trying all sets; `built_skeleton` and
-- `skeleton_energy` come from the recursion over slots (`Windows`), `runs_of` from one number a job (`Runs`).
use Rattle.std.specs.Prelude.{ℕ, suc, ◌-◌, ◌≤◌, ◌<◌, ◌≡◌, Bool, true, false, List, ◌≢◌, length}
use Rattle.std.proofs.Common.{sym, ap, subst, ◌∙◌, arith}
use Rattle.std.proofs.Math.Nat.{sub-zero}
use Rattle.sched.specs.Jobs.{Jobs, count}
use Rattle.sched.specs.Checks.{Passes}
use Rattle.sched.specs.Slots.{awake}
use Rattle.sched.specs.Energy.{energy}
use Rattle.steps.specs.Skeleton.{is_skeleton, least_skeleton, Least}
use Rattle.laws_skeleton.specs.Recursion.{least, built}
use Rattle.laws_skeleton.proofs.Recursion.Exchange.{later_sleep, later_wake, allowed_costs}
use Rattle.laws_skeleton.proofs.Recursion.Built.{built_length, built_allowed, built_costs, built_precedes}
use Rattle.laws_skeleton.proofs.Precedence.{precedes_differ}
use Rattle.laws_skeleton.proofs.Enumeration.{least_is}
use Rattle.laws_skeleton.specs.Windows.{due, skeleton_energy, built_skeleton}
use Rattle.laws_skeleton.proofs.Windows.Laws.{due_rises, skeleton_allowed, allowed_skeleton}
use Rattle.laws_skeleton.specs.Order.{Order}
use Rattle.laws_skeleton.proofs.Order.Laws.{order_rest}
use Rattle.laws_skeleton.specs.Runs.{sleep_cost, through_cost, value_at, values, first_end, runs_from_start, spread}
use Rattle.laws_skeleton.proofs.Runs.Values.{values_right, awake_right}
use Rattle.laws_skeleton.proofs.Runs.Laws.{start_built, start_cost, start_runs_few}

-- The recursion

-- neither a later sleep nor a later wake costs more
pub sleep_falls : (J : Jobs) (s : ℕ) → s < J.horizon
    → least (due J) J.wake (J.horizon - suc s) false (suc s) (suc s) ≤ least (due J) J.wake (J.horizon - s) false s s
sleep_falls J s l =
    let left : J.horizon - s ≡ suc (J.horizon - suc s) = omega arith in
    rw left (later_sleep (due J) J.wake (due_rises J) (J.horizon - suc s) s)

pub awake_falls : (J : Jobs) (t : ℕ) → t < J.horizon
    → least (due J) J.wake (J.horizon - suc t) true (suc t) (suc t) ≤ least (due J) J.wake (J.horizon - t) true t t
awake_falls J t l =
    let left : J.horizon - t ≡ suc (J.horizon - suc t) = omega arith in
    rw left (later_wake (due J) J.wake (due_rises J) (J.horizon - suc t) t)

-- no skeleton costs less than the recursion's value
skeleton_costs : (J : Jobs) (S : List Bool) → length S ≡ J.horizon → is_skeleton J S ≡ true → skeleton_energy J ≤ energy J S
skeleton_costs J S n e = allowed_costs (due J) J.wake (due_rises J) J.horizon J.start 0 0 S n (skeleton_allowed J S e)

-- the built set has H slots, is a skeleton, and costs just that
built_long : (J : Jobs) → length (built_skeleton J) ≡ J.horizon
built_long J = built_length (due J) J.wake J.horizon J.start 0 0

built_is_skeleton : (J : Jobs) → Passes J → is_skeleton J (built_skeleton J) ≡ true
built_is_skeleton J p = allowed_skeleton J (built_skeleton J) p (built_long J) (built_allowed (due J) J.wake J.horizon J.start 0 0)

built_energy : (J : Jobs) → energy J (built_skeleton J) ≡ skeleton_energy J
built_energy J = built_costs (due J) J.wake J.horizon J.start 0 0

-- so it has what step 2 asks for
built_least : (J : Jobs) → Passes J → Least J (built_skeleton J)
built_least J p = record {
  long = built_long J;
  skeleton = built_is_skeleton J p;
  cheapest = λ S n e. omega (arith, built_energy J, skeleton_costs J S n e);
  first = λ S n e same. built_precedes (due J) J.wake (due_rises J) J.horizon J.start 0 0 S n (skeleton_allowed J S e) (same ∙ built_energy J);
}

built_is_least : (J : Jobs) → Passes J → least_skeleton J ≡ built_skeleton J
built_is_least J p = least_is J (built_skeleton J) (built_least J p)

-- The least skeleton of 01

-- "Take the skeleton of least energy", with its tie, as `Least` says it. `least_is` (`Enumeration`) says that no other set is `Least`.
pub least_is_least : (J : Jobs) → Passes J → Least J (least_skeleton J)
least_is_least J p = subst (Least J) (sym (built_is_least J p)) (built_least J p)

pub least_is_skeleton : (J : Jobs) → Passes J → is_skeleton J (least_skeleton J) ≡ true
least_is_skeleton J p = (least_is_least J p).skeleton

pub least_length : (J : Jobs) → Passes J → length (least_skeleton J) ≡ J.horizon
least_length J p = (least_is_least J p).long

pub least_cheapest : (J : Jobs) (S : List Bool) → Passes J → length S ≡ J.horizon → is_skeleton J S ≡ true → energy J (least_skeleton J) ≤ energy J S
least_cheapest J S p n e = (least_is_least J p).cheapest S n e

-- "Among equals take the one that, at the first slot where two differ, is asleep", slot by slot
pub least_sleeps_first : (J : Jobs) (S : List Bool) (t : ℕ) → Passes J → length S ≡ J.horizon → is_skeleton J S ≡ true
    → energy J S ≡ energy J (least_skeleton J) → ((u : ℕ) → u < t → awake (least_skeleton J) u ≡ awake S u)
    → awake (least_skeleton J) t ≢ awake S t → awake (least_skeleton J) t ≡ false
least_sleeps_first J S t p n e same before differ = precedes_differ (least_skeleton J) S t ((least_is_least J p).first S n e same) before differ

-- its energy is the recursion's value
pub least_energy : (J : Jobs) → Passes J → energy J (least_skeleton J) ≡ skeleton_energy J
least_energy J p = rw (built_is_least J p) (built_energy J)

-- The least skeleton as runs. Any order of the jobs by the ends of their windows will do.

-- one number a job gives the recursion's cost of sleep from every slot
pub values_give_sleep : (J : Jobs) (order : List ℕ) (s : ℕ) → Passes J → Order J order → s ≤ J.horizon
    → sleep_cost J s order (values J order) ≡ least (due J) J.wake (J.horizon - s) false s s
values_give_sleep J order s p o l = values_right J p order (order_rest J order o) s l (λ k m n. o.all k m)

-- and the cost from every awake slot on: the best end of the run is s = t + 1 or behind the start of a later window
pub values_give_awake : (J : Jobs) (order : List ℕ) (t : ℕ) → Passes J → Order J order → t < J.horizon
    → value_at J t order (values J order) ≡ suc (least (due J) J.wake (J.horizon - suc t) true (suc t) (suc t))
values_give_awake J order t p o l = awake_right J p order t (order_rest J order o) l (λ k m n. o.all k m)

-- and the cost of the set that the recursion builds, whatever the state b before slot 0
pub values_give_energy : (J : Jobs) (b : Bool) (order : List ℕ) → Passes J → Order J order
    → through_cost J order (values J order) (first_end J b order (values J order)) ≡ least (due J) J.wake J.horizon b 0 0
values_give_energy J b order p o =
    start_cost J p b order (order_rest J order o) (λ k m n. o.all k m) ∙ ap (λ (k : ℕ). least (due J) J.wake k b 0 0) (sub-zero J.horizon)

-- the runs are those of that set
runs_are_built : (J : Jobs) (b : Bool) (order : List ℕ) → Passes J → Order J order
    → spread J.horizon 0 (runs_from_start J b order (values J order)) ≡ built (due J) J.wake J.horizon b 0 0
runs_are_built J b order p o =
    start_built J p b order (order_rest J order o) (λ k m n. o.all k m) ∙ ap (λ (k : ℕ). built (due J) J.wake k b 0 0) (sub-zero J.horizon)

-- so they are those of the least skeleton
pub start_runs_are_least : (J : Jobs) (order : List ℕ) → Passes J → Order J order
    → spread J.horizon 0 (runs_from_start J J.start order (values J order)) ≡ least_skeleton J
start_runs_are_least J order p o = runs_are_built J J.start order p o ∙ sym (built_is_least J p)

-- there are no more runs than jobs, but for the one in front
pub runs_by_jobs : (J : Jobs) (b : Bool) (order : List ℕ) → length order ≡ count J → length (runs_from_start J b order (values J order)) ≤ suc (count J)
runs_by_jobs J b order n = omega (arith, start_runs_few J b order (values J order))
