-- The cursor passes over no slot that step 3 would wake, if a slot that does not help never helps later.
use Prim.Native.Nat.{ℕ, zero, suc, ◌+◌, ◌-◌, ◌≤◌, ◌<◌}
use Rattle.std.specs.Prelude.{◌≡◌, ◌||◌, ◌⊎◌, length, ltb}
use Rattle.std.proofs.Math.Path.{refl, ap}
use Rattle.std.proofs.Common.{sym, ◌∙◌, inl, inr, suc-add, zero-add, add-zero, arith, length-set, get_or-set_same, get_or-set_other}
use Rattle.std.proofs.Math.Bool.{Bool, true, false}
use mathlib.Core.List.{List, [], ◌∷◌}
use Rattle.std.proofs.Math.Option.{Option, none, some}
use Rattle.std.proofs.Math.Decide.{ℕ_discrete}
use Rattle.sched.specs.Bounded.{least_from}
use Rattle.sched.proofs.Bounded.Laws.{by_bool, true_not_false, or_true, or_left, or_right, least_some}
use Rattle.sched.specs.Jobs.{Jobs, total_volume}
use Rattle.sched.specs.Slots.{awake, awake_before, touches, wake_slot}
use Rattle.steps.specs.Workable.{workable}
use Rattle.steps.specs.Extension.{helps, wakeable, next_wake, woken_in}
use Rattle.laws_extension.proofs.Waking.Turns.{awake_stays, wakes_parts, next_turn}
use Rattle.laws_extension.specs.Waking.Cursor.{NoneBefore, StaysIdle, cursor_after, next_from, woken_from}

-- a search goes on behind numbers of which f does not hold
least_skip : (h k s : ℕ) (f : ℕ → Bool) → ((i : ℕ) → s ≤ i → i < s + h → f i ≡ false) → least_from (h + k) s f ≡ least_from k (s + h) f
unfolding least_from
least_skip zero k s f n = rw (zero-add, add-zero)
least_skip (suc h) k s f n =
    ap (λ (m : ℕ). least_from m s f) (suc-add h k)
    ∙ ap (λ (b : Bool). elim b [ true ↦ some s | false ↦ least_from (h + k) (suc s) f ]) (n s (omega arith) (omega arith))
    ∙ least_skip h k (suc s) f (λ i l m. n i (omega arith) (omega arith))
    ∙ ap (λ (m : ℕ). least_from k m f) (let e : suc s + h ≡ s + suc h = omega arith in e)

-- nothing is missed by a search from the cursor on
pub next_from_lem : (J : Jobs) (S : List Bool) (t : ℕ) → t ≤ J.horizon → NoneBefore J S t → next_from J S t ≡ next_wake J S
unfolding next_from next_wake
next_from_lem J S t l n =
    sym (
    ap (λ (m : ℕ). least_from m 0 (wakeable J S)) (let e : J.horizon ≡ t + (J.horizon - t) = omega arith in e)
    ∙ least_skip t (J.horizon - t) 0 (wakeable J S) (λ i l m. n i (omega arith))
    ∙ ap (λ (m : ℕ). least_from (J.horizon - t) m (wakeable J S)) (zero-add t))

pub none_before_next : (J : Jobs) (S : List Bool) (x : ℕ) → next_wake J S ≡ some x → NoneBefore J S x
unfolding next_wake
none_before_next J S x e i l = (least_some J.horizon 0 (wakeable J S) x e).first i (omega arith) l

-- neighbours of another slot than i leave it touching as it did
touches_same : (S : List Bool) (x i : ℕ) → i < x → (suc i ≡ x → ⊥) → touches (wake_slot S x) i ≡ touches S i
touches_same S x zero l n = rw (get_or-set_other S x 1 true false n)
touches_same S x (suc i) l n = rw (get_or-set_other S x i true false (λ e. omega arith), get_or-set_other S x (suc (suc i)) true false n)

pub touches_stays : (S : List Bool) (x i : ℕ) → touches S i ≡ true → touches (wake_slot S x) i ≡ true
touches_stays S x i t = go i (or_true (awake_before S i) (awake S (suc i)) t)
  where
    go : (i : ℕ) → (awake_before S i ≡ true) ⊎ (awake S (suc i) ≡ true) → touches (wake_slot S x) i ≡ true
    go zero (inl e) = true_not_false false e refl
    go zero (inr e) = awake_stays S x 1 e
    go (suc i) (inl e) = or_left (awake (wake_slot S x) i) (awake (wake_slot S x) (suc (suc i))) (awake_stays S x i e)
    go (suc i) (inr e) = or_right (awake (wake_slot S x) i) (awake (wake_slot S x) (suc (suc i))) (awake_stays S x (suc (suc i)) e)

asleep_before_waking : (S : List Bool) (x i : ℕ) → awake (wake_slot S x) i ≡ false → awake S i ≡ false
asleep_before_waking S x i a = by_bool (awake S i) (λ b. true_not_false (awake (wake_slot S x) i) (awake_stays S x i b) a) (λ b. b)

idle : (J : Jobs) (S : List Bool) (i : ℕ) → awake S i ≡ false → touches S i ≡ true → wakeable J S i ≡ false → helps J S i ≡ false
unfolding wakeable
idle J S i a t w = by_bool (helps J S i) (λ h. true_not_false (wakeable J S i) (rw (a, t, h)) w) (λ h. h)

-- a slot before the new cursor is x itself, or no neighbour of x, or one that touched the set already
before_cursor : (S : List Bool) (x i : ℕ) → i < cursor_after S x → (i ≡ x) ⊎ ((i < x) × ((suc i ≡ x → ⊥) ⊎ (awake S i || touches S i ≡ true)))
unfolding cursor_after
before_cursor S zero i m = inl (omega arith)
before_cursor S (suc y) i m = go (awake S y || touches S y) refl m
  where
    go : (b : Bool) → awake S y || touches S y ≡ b → i < elim b [ true ↦ suc (suc y) | false ↦ y ] → (i ≡ suc y) ⊎ ((i < suc y) × ((suc i ≡ suc y → ⊥) ⊎ (awake S i || touches S i ≡ true)))
    go true e m = here (ℕ_discrete i (suc y)) (ℕ_discrete i y)
      where
        here : Dec (i ≡ suc y) → Dec (i ≡ y) → (i ≡ suc y) ⊎ ((i < suc y) × ((suc i ≡ suc y → ⊥) ⊎ (awake S i || touches S i ≡ true)))
        here (yes q) d = inl q
        here (no q) (yes d) = inr (omega arith, inr (rw d e))
        here (no q) (no d) = inr (omega arith, inl (λ z. omega arith))
    go false e m = inr (omega arith, inl (λ z. omega arith))

-- the cursor moves by one slot, back or on
pub cursor_moves : (S : List Bool) (x : ℕ) → (x ≤ suc (cursor_after S x)) × (cursor_after S x ≤ suc x)
unfolding cursor_after
cursor_moves S zero = omega arith
cursor_moves S (suc y) = go (awake S y || touches S y)
  where
    go : (b : Bool) → (suc y ≤ suc (elim b [ true ↦ suc (suc y) | false ↦ y ])) × (elim b [ true ↦ suc (suc y) | false ↦ y ] ≤ suc (suc y))
    go true = omega arith
    go false = omega arith

module _ (J : Jobs) (stays : StaysIdle J) where
  -- a slot before x that touched the set when x was woken is still of no use
  stays_off : (S : List Bool) (x i : ℕ) → length S ≡ J.horizon → x < J.horizon → awake S x ≡ false → i < x → wakeable J S i ≡ false → touches S i ≡ true → wakeable J (wake_slot S x) i ≡ true → ⊥
  stays_off S x i e l a m w t u =
      let p = wakes_parts J (wake_slot S x) i u in
      let b = asleep_before_waking S x i p.0 in
      true_not_false (helps J (wake_slot S x) i) p.2 (stays S i x e (omega arith) l b a (idle J S i b t w))

  -- after x was woken, none can be woken before the new cursor
  pub none_before_after : (S : List Bool) (x : ℕ) → length S ≡ J.horizon → x < J.horizon → awake S x ≡ false → NoneBefore J S x → NoneBefore J (wake_slot S x) (cursor_after S x)
  none_before_after S x e l a n i m = by_bool (wakeable J (wake_slot S x) i) (λ u. absurd (go u (before_cursor S x i m))) (λ u. u)
    where
      go : wakeable J (wake_slot S x) i ≡ true → (i ≡ x) ⊎ ((i < x) × ((suc i ≡ x → ⊥) ⊎ (awake S i || touches S i ≡ true))) → ⊥
      go u (inl q) =
          true_not_false (awake (wake_slot S x) i) (rw q (get_or-set_same S x true false (omega arith))) (wakes_parts J (wake_slot S x) i u).0
      go u (inr (b, inl d)) =
          stays_off S x i e l a b (n i b) (sym (touches_same S x i b d) ∙ (wakes_parts J (wake_slot S x) i u).1) u
      go u (inr (b, inr d)) = stays_off S x i e l a b (n i b) (rw (asleep_before_waking S x i (wakes_parts J (wake_slot S x) i u).0) at d) u
