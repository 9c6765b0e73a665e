-- From the cursor on.
use Prim.Native.Nat.{ℕ, zero, suc, ◌+◌, ◌-◌, ◌≤◌, ◌<◌}
use Rattle.std.specs.Prelude.{◌≡◌, ◌||◌, ◌⊎◌, length, ltb}
use Rattle.std.proofs.Math.Path.{refl, ap}
use Rattle.std.proofs.Common.{sym, ◌∙◌, inl, inr, suc-add, zero-add, add-zero, arith, length-set, get_or-set_same, get_or-set_other}
use Rattle.std.proofs.Math.Bool.{Bool, true, false}
use mathlib.Core.List.{List, [], ◌∷◌}
use Rattle.std.proofs.Math.Option.{Option, none, some}
use Rattle.std.proofs.Math.Decide.{ℕ_discrete}
use Rattle.sched.specs.Bounded.{least_from}
use Rattle.sched.proofs.Bounded.Laws.{by_bool, true_not_false, or_true, or_left, or_right, least_some}
use Rattle.sched.specs.Jobs.{Jobs, total_volume}
use Rattle.sched.specs.Slots.{awake, awake_before, touches, wake_slot}
use Rattle.steps.specs.Workable.{workable}
use Rattle.steps.specs.Extension.{helps, wakeable, next_wake, woken_in}
use Rattle.laws_extension.proofs.Waking.Turns.{awake_stays, wakes_parts, next_turn}
use Rattle.laws_extension.specs.Waking.Cursor.{NoneBefore, StaysIdle, cursor_after, next_from, woken_from}
use Rattle.laws_extension.proofs.Waking.Cursor.Laws.{next_from_lem, none_before_next, cursor_moves, none_before_after}

module _ (J : Jobs) (stays : StaysIdle J) where
  -- so the cursor wakes the slots that step 3 wakes, in its order
  pub woken_from_lem : (n : ℕ) (S : List Bool) (t : ℕ) → length S ≡ J.horizon → t ≤ J.horizon → NoneBefore J S t → woken_from n J S t ≡ woken_in n J S
  unfolding woken_from woken_in
  woken_from_lem zero S t e l b = refl
  woken_from_lem (suc n) S t e l b =
      ap (λ (o : Option ℕ). turn (ltb (workable J S) (total_volume J)) o) (next_from_lem J S t l b)
      ∙ go (ltb (workable J S) (total_volume J)) (next_wake J S) refl (λ x. woken_from_lem n (wake_slot S x) (cursor_after S x))
    where
      turn : Bool → Option ℕ → List ℕ
      turn short o = elim short [ false ↦ [] | true ↦ elim o [ none ↦ [] | some x ↦ x ∷ woken_from n J (wake_slot S x) (cursor_after S x) ] ]

      go : (short : Bool) (o : Option ℕ) → next_wake J S ≡ o
          → ((x : ℕ) → length (wake_slot S x) ≡ J.horizon → cursor_after S x ≤ J.horizon → NoneBefore J (wake_slot S x) (cursor_after S x) → woken_from n J (wake_slot S x) (cursor_after S x) ≡ woken_in n J (wake_slot S x))
          → turn short o ≡ elim short [ false ↦ [] | true ↦ elim o [ none ↦ [] | some x ↦ x ∷ woken_in n J (wake_slot S x) ] ]
      go false o q ih = refl
      go true none q ih = refl
      go true (some x) q ih =
          let w = next_turn J S x q in
          let k = (none_before_after J stays) S x e w.below w.sleeps (none_before_next J S x q) in
          ap (λ (l : List ℕ). x ∷ l) (ih x (length-set S x true ∙ e) (omega (arith, cursor_moves S x, w.below)) k)
