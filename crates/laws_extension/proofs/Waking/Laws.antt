-- Waking a sleeping slot that touches the set adds one awake slot and no run; what follows for the slots that step 3 wakes, and that it
-- wakes as many as the volume is short of, if a slot to wake is always there.
use Prim.Native.Nat.{ℕ, zero, suc, ◌+◌, ◌-◌, ◌≤◌, ◌<◌}
use Rattle.std.specs.Prelude.{◌≡◌, Bool, ◌&&◌, ◌||◌, not}
use Rattle.std.proofs.Math.Path.{refl}
use Rattle.std.proofs.Common.{ap, ◌∙◌, true≢false, le_refl, mul-le-mul, not-suc-le-zero, length-set}
use Rattle.std.proofs.Math.Bool.{true, false}
use Rattle.std.proofs.lemmas.Bool.{false≢true}
use mathlib.Core.List.{List, [], ◌∷◌}
use Rattle.std.proofs.Math.Option.{Option, none, some}
use native.Mathlib.Omega.{arith}
use Rattle.std.proofs.Math.Decide.{dec_lt}
use borrow.Author.Tests.{ltb-true, ltb-false, eqb-true, not-true}
use Rattle.std.proofs.Math.ListN.{length}
use Rattle.std.proofs.Math.Dec.{ltb}
use Rattle.sched.specs.Bounded.{any_below}
use Rattle.sched.proofs.Bounded.Laws.{and_true, true_not_false, all_intro, all_elim, any_intro, any_elim, least_some, least_none}
use Rattle.sched.specs.Jobs.{Jobs, count, total_volume}
use Rattle.sched.specs.Slots.{awake, touches, wake_slot}
use Rattle.sched.proofs.Energy.Laws.{awake_at_most}
use Rattle.sched.specs.Energy.{awake_slots, runs_from, energy}
use Rattle.steps.specs.Skeleton.{is_skeleton, in_window}
use Rattle.steps.specs.Workable.{workable}
use Rattle.steps.specs.Extension.{helps, wakeable, next_wake, woken_in, woken, wake_all}
use Rattle.laws_extension.specs.Waking.{Turn, Turns, AlwaysOne}

-- one awake slot more
pub wake_adds_one : (S : List Bool) (x : ℕ) → x < length S → awake S x ≡ false → awake_slots (wake_slot S x) ≡ suc (awake_slots S)
unfolding awake_slots
wake_adds_one [] x l a = absurd (not-suc-le-zero l)
wake_adds_one (false ∷ S) zero l a = refl
wake_adds_one (true ∷ S) zero l a = absurd (true≢false a)
wake_adds_one (false ∷ S) (suc x) l a = wake_adds_one S x (omega arith) a
wake_adds_one (true ∷ S) (suc x) l a = ap suc (wake_adds_one S x (omega arith) a)

-- an awake slot before can only save a run
runs_awake_before : (S : List Bool) → runs_from true S ≤ runs_from false S
unfolding runs_from
runs_awake_before [] = le_refl _
runs_awake_before (false ∷ S) = le_refl _
runs_awake_before (true ∷ S) = omega arith

-- `touches` with the state before slot 0
touches_after : Bool → List Bool → ℕ → Bool
touches_after b S zero = b || awake S 1
touches_after b S (suc x) = awake S x || awake S (suc (suc x))

touches_after_lem : (b : Bool) (S : List Bool) (x : ℕ) → touches S x ≡ true → touches_after b S x ≡ true
unfolding touches_after
touches_after_lem true S zero t = refl
touches_after_lem false S zero t = t
touches_after_lem b S (suc x) t = t

touches_rest : (b c : Bool) (S : List Bool) (x : ℕ) → touches_after b (c ∷ S) (suc x) ≡ true → touches_after c S x ≡ true
unfolding touches_after
touches_rest b c S zero t = t
touches_rest b c S (suc x) t = t

wake_first : (b : Bool) (S : List Bool) → b || awake S 0 ≡ true → runs_from b (true ∷ S) ≤ runs_from false S
unfolding runs_from
wake_first true S t = runs_awake_before S
wake_first false [] t = absurd (false≢true t)
wake_first false (false ∷ S) t = absurd (false≢true t)
wake_first false (true ∷ S) t = le_refl _

wake_runs_after : (b : Bool) (S : List Bool) (x : ℕ) → awake S x ≡ false → touches_after b S x ≡ true → runs_from b (wake_slot S x) ≤ runs_from b S
unfolding runs_from touches_after
wake_runs_after b [] x a t = le_refl _
wake_runs_after b (true ∷ S) zero a t = absurd (true≢false a)
wake_runs_after b (false ∷ S) zero a t = wake_first b S t
wake_runs_after b (false ∷ S) (suc x) a t = wake_runs_after false S x a (touches_rest b false S x t)
wake_runs_after true (true ∷ S) (suc x) a t = wake_runs_after true S x a (touches_rest true true S x t)
wake_runs_after false (true ∷ S) (suc x) a t = let r = wake_runs_after true S x a (touches_rest false true S x t) in omega arith

-- no run more, whatever the state before slot 0
pub wake_runs : (b : Bool) (S : List Bool) (x : ℕ) → awake S x ≡ false → touches S x ≡ true → runs_from b (wake_slot S x) ≤ runs_from b S
wake_runs b S x a t = wake_runs_after b S x a (touches_after_lem b S x t)
