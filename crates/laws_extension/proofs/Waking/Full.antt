-- The slots woken in full.
use Prim.Native.Nat.{ℕ, zero, suc, ◌+◌, ◌-◌, ◌≤◌, ◌<◌}
use Rattle.std.specs.Prelude.{◌≡◌, Bool, ◌&&◌, ◌||◌, not}
use Rattle.std.proofs.Math.Path.{refl}
use Rattle.std.proofs.Common.{ap, ◌∙◌, true≢false, le_refl, mul-le-mul, not-suc-le-zero, length-set}
use Rattle.std.proofs.Math.Bool.{true, false}
use Rattle.std.proofs.lemmas.Bool.{false≢true}
use mathlib.Core.List.{List, [], ◌∷◌}
use Rattle.std.proofs.Math.Option.{Option, none, some}
use native.Mathlib.Omega.{arith}
use Rattle.std.proofs.Math.Decide.{dec_lt}
use borrow.Author.Tests.{ltb-true, ltb-false, eqb-true, not-true}
use Rattle.std.proofs.Math.ListN.{length}
use Rattle.std.proofs.Math.Dec.{ltb}
use Rattle.sched.specs.Bounded.{any_below}
use Rattle.sched.proofs.Bounded.Laws.{and_true, true_not_false, all_intro, all_elim, any_intro, any_elim, least_some, least_none}
use Rattle.sched.specs.Jobs.{Jobs, count, total_volume}
use Rattle.sched.specs.Slots.{awake, touches, wake_slot}
use Rattle.sched.proofs.Energy.Laws.{awake_at_most}
use Rattle.sched.specs.Energy.{awake_slots, runs_from, energy}
use Rattle.steps.specs.Skeleton.{is_skeleton, in_window}
use Rattle.steps.specs.Workable.{workable}
use Rattle.steps.specs.Extension.{helps, wakeable, next_wake, woken_in, woken, wake_all}
use Rattle.laws_extension.specs.Waking.{Turn, Turns, AlwaysOne}
use Rattle.laws_extension.proofs.Waking.Turns.{woken_workable, woken_in_full}

module _ (J : Jobs) (one : AlwaysOne J) where
  pub woken_full : (S : List Bool) → length S ≡ J.horizon → is_skeleton J S ≡ true → workable J S ≤ total_volume J → workable J (wake_all S (woken J S)) ≡ total_volume J
  unfolding woken
  woken_full S e k v = (woken_in_full J one) J.horizon S e k v (omega arith)

  -- as many slots are woken as the workable volume of S is short of
  pub woken_count : (S : List Bool) → length S ≡ J.horizon → is_skeleton J S ≡ true → workable J S ≤ total_volume J → length (woken J S) ≡ total_volume J - workable J S
  unfolding woken
  woken_count S e k v =
      let full = woken_full S e k v in
      let each = woken_workable J J.horizon S in
      omega arith
