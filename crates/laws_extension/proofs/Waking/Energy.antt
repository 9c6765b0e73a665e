-- What a woken slot costs.
use Prim.Native.Nat.{ℕ, zero, suc, ◌+◌, ◌-◌, ◌≤◌, ◌<◌}
use Rattle.std.specs.Prelude.{◌≡◌, Bool, ◌&&◌, ◌||◌, not}
use Rattle.std.proofs.Math.Path.{refl}
use Rattle.std.proofs.Common.{ap, ◌∙◌, true≢false, le_refl, mul-le-mul, not-suc-le-zero, length-set}
use Rattle.std.proofs.Math.Bool.{true, false}
use Rattle.std.proofs.lemmas.Bool.{false≢true}
use mathlib.Core.List.{List, [], ◌∷◌}
use Rattle.std.proofs.Math.Option.{Option, none, some}
use native.Mathlib.Omega.{arith}
use Rattle.std.proofs.Math.Decide.{dec_lt}
use borrow.Author.Tests.{ltb-true, ltb-false, eqb-true, not-true}
use Rattle.std.proofs.Math.ListN.{length}
use Rattle.std.proofs.Math.Dec.{ltb}
use Rattle.sched.specs.Bounded.{any_below}
use Rattle.sched.proofs.Bounded.Laws.{and_true, true_not_false, all_intro, all_elim, any_intro, any_elim, least_some, least_none}
use Rattle.sched.specs.Jobs.{Jobs, count, total_volume}
use Rattle.sched.specs.Slots.{awake, touches, wake_slot}
use Rattle.sched.proofs.Energy.Laws.{awake_at_most}
use Rattle.sched.specs.Energy.{awake_slots, runs_from, energy}
use Rattle.steps.specs.Skeleton.{is_skeleton, in_window}
use Rattle.steps.specs.Workable.{workable}
use Rattle.steps.specs.Extension.{helps, wakeable, next_wake, woken_in, woken, wake_all}
use Rattle.laws_extension.specs.Waking.{Turn, Turns, AlwaysOne}
use Rattle.laws_extension.proofs.Waking.Laws.{wake_adds_one, wake_runs}

pub wake_energy : (J : Jobs) (S : List Bool) (x : ℕ) → x < length S → awake S x ≡ false → touches S x ≡ true → energy J (wake_slot S x) ≤ suc (energy J S)
wake_energy J S x l a t =
    let m = mul-le-mul (le_refl J.wake) (wake_runs J.start S x a t) in
    let w = wake_adds_one S x l a in
    omega arith
