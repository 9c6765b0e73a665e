-- The cursor tries no slot twice: a slot that was tried is awake, or it touches the set and lies before the cursor.
use Prim.Native.Nat.{ℕ, zero, suc, ◌+◌, ◌-◌, ◌≤◌, ◌<◌}
use Rattle.std.specs.Prelude.{◌≡◌, Bool, true, false, not, ◌&&◌, ◌||◌, ◌⊎◌, length, ltb, eqb}
use Rattle.std.proofs.Math.Path.{refl}
use Rattle.std.proofs.Common.{ap, sym, ◌∙◌, inl, inr, eqb-true, length-set, get_or-set_same}
use mathlib.Core.List.{List, [], ◌∷◌, ◌++◌}
use Rattle.std.proofs.Math.Option.{Option, none, some}
use Rattle.std.proofs.Math.Decide.{ℕ_discrete}
use native.Mathlib.Omega.{arith}
use Rattle.std.proofs.lemmas.Bool.{eqb-false, not-true}
use Rattle.sched.proofs.Bounded.Laws.{true_not_false, and_true, or_false, least_some}
use Rattle.sched.specs.Jobs.{Jobs, total_volume}
use Rattle.sched.specs.Slots.{awake, touches, wake_slot, times}
use Rattle.steps.specs.Workable.{workable}
use Rattle.sched.proofs.Slots.Laws.{times_same, times_other, times_append}
use Rattle.steps.specs.Extension.{wakeable}
use Rattle.laws_extension.proofs.Waking.Turns.{awake_stays}
use Rattle.laws_extension.specs.Waking.Cursor.{cursor_after, next_from, tries, tried_from}
use Rattle.laws_extension.proofs.Waking.Cursor.Laws.{touches_stays}

-- a slot of the k from t on that sleeps and touches the set
record Tried (S : List Bool) (k t i : ℕ) : Type 0 where
  from : t ≤ i
  below : i < t + k
  sleeps : awake S i ≡ false
  near : touches S i ≡ true

wider : (S : List Bool) (k t i : ℕ) → Tried S k (suc t) i → Tried S (suc k) t i
wider S k t i r = record { from = omega (arith, r.from); below = omega (arith, r.below); sleeps = r.sleeps; near = r.near }

-- one search tries a slot not at all, or once
tries_in : (S : List Bool) (k t i : ℕ) → (times i (tries S k t) ≡ 0) ⊎ ((times i (tries S k t) ≡ 1) × Tried S k t i)
unfolding times tries
tries_in S zero t i = inl refl
tries_in S (suc k) t i = go (not (awake S t) && touches S t) refl (eqb t i) refl (tries_in S k (suc t) i)
  where
    rest : List ℕ
    rest = tries S k (suc t)

    go : (b : Bool) → not (awake S t) && touches S t ≡ b → (c : Bool) → eqb t i ≡ c → (times i rest ≡ 0) ⊎ ((times i rest ≡ 1) × Tried S k (suc t) i) → (times i (elim b [ true ↦ t ∷ rest | false ↦ rest ]) ≡ 0) ⊎ ((times i (elim b [ true ↦ t ∷ rest | false ↦ rest ]) ≡ 1) × Tried S (suc k) t i)
    go false e c f (inl z) = inl z
    go false e c f (inr (z, r)) = inr (z, wider S k t i r)
    go true e true f (inl z) =
        let q : t ≡ i = eqb-true t i f in
        let p = and_true (not (awake S t)) (touches S t) e in
        inr (
          times_same i t rest (eqb-true t i f) ∙ ap suc z,
          record {
            from = omega arith;
            below = omega arith;
            sleeps = ap (awake S) (sym q) ∙ not-true (awake S t) p.0;
            near = ap (touches S) (sym q) ∙ p.1;
          },
        )
    go true e true f (inr (z, r)) = absurd (omega (arith, r.from, eqb-true t i f))
    go true e false f (inl z) = inl (times_other i t rest (eqb-false t i f) ∙ z)
    go true e false f (inr (z, r)) = inr (times_other i t rest (eqb-false t i f) ∙ z, wider S k t i r)

-- slot i needs no try any more
Done : List Bool → ℕ → ℕ → Type 0
Done S t i = (awake S i ≡ true) ⊎ ((i < t) × (touches S i ≡ true))

not_done : (S : List Bool) (k t i : ℕ) → Tried S k t i → Done S t i → ⊥
unfolding Done
not_done S k t i r (inl a) = true_not_false (awake S i) a r.sleeps
not_done S k t i r (inr (l, n)) = omega (arith, r.from)

-- the cursor stays behind the slots that touched the set before
cursor_past : (S : List Bool) (x i : ℕ) → i < x → touches S i ≡ true → i < cursor_after S x
unfolding cursor_after
cursor_past S zero i l n = absurd (omega arith)
cursor_past S (suc y) i l n = go (awake S y || touches S y) refl
  where
    go : (b : Bool) → awake S y || touches S y ≡ b → i < elim b [ true ↦ suc (suc y) | false ↦ y ]
    go true e = omega arith
    go false e = here (ℕ_discrete i y)
      where
        here : Dec (i ≡ y) → i < y
        here (yes q) = true_not_false (touches S y) (rw q at n) (or_false (awake S y) (touches S y) e).1
        here (no q) = omega arith

done_stays : (S : List Bool) (x t i : ℕ) → t ≤ x → Done S t i → Done (wake_slot S x) (cursor_after S x) i
unfolding Done
done_stays S x t i l (inl a) = inl (awake_stays S x i a)
done_stays S x t i l (inr (m, n)) = inr (cursor_past S x i (omega arith) n, touches_stays S x i n)

-- what was tried in a search that ends with x is done when x is awake
tried_done : (S : List Bool) (x t i : ℕ) → x < length S → t ≤ x → Tried S (suc x - t) t i → Done (wake_slot S x) (cursor_after S x) i
unfolding Done
tried_done S x t i l m r = go (ℕ_discrete i x)
  where
    go : Dec (i ≡ x) → (awake (wake_slot S x) i ≡ true) ⊎ ((i < cursor_after S x) × (touches (wake_slot S x) i ≡ true))
    go (yes q) = inl (rw q (get_or-set_same S x true false l))
    go (no q) = inr (cursor_past S x i (omega (arith, r.below)) r.near, touches_stays S x i r.near)

module _ (J : Jobs) where
  next_range : (S : List Bool) (t x : ℕ) → next_from J S t ≡ some x → (t ≤ x) × (x < J.horizon)
  unfolding next_from
  next_range S t x e = let r = least_some (J.horizon - t) t (wakeable J S) x e in omega (arith, r.from, r.below)

  -- in all turns a slot is tried at most once, and not at all where it is done
  tried_once_in : (n : ℕ) (S : List Bool) (t i : ℕ) → length S ≡ J.horizon → (times i (tried_from n J S t) ≤ 1) × (Done S t i → times i (tried_from n J S t) ≡ 0)
  unfolding tried_from times
  tried_once_in zero S t i e = (omega arith, λ d. refl)
  tried_once_in (suc n) S t i e = go (ltb (workable J S) (total_volume J)) (next_from J S t) refl (λ x. tried_once_in n (wake_slot S x) (cursor_after S x) i)
    where
      goal : List ℕ → Type 0
      goal l = (times i l ≤ 1) × (Done S t i → times i l ≡ 0)

      go : (short : Bool) (o : Option ℕ) → next_from J S t ≡ o
          → ((x : ℕ) → length (wake_slot S x) ≡ J.horizon → (times i (tried_from n J (wake_slot S x) (cursor_after S x)) ≤ 1) × (Done (wake_slot S x) (cursor_after S x) i → times i (tried_from n J (wake_slot S x) (cursor_after S x)) ≡ 0))
          → goal (elim short [ false ↦ [] | true ↦ elim o [ none ↦ tries S (J.horizon - t) t | some x ↦ tries S (suc x - t) t ++ tried_from n J (wake_slot S x) (cursor_after S x) ] ])
      go false o q ih = (omega arith, λ d. refl)
      go true none q ih = last (tries_in S (J.horizon - t) t i)
        where
          last : (times i (tries S (J.horizon - t) t) ≡ 0) ⊎ ((times i (tries S (J.horizon - t) t) ≡ 1) × Tried S (J.horizon - t) t i) → goal (tries S (J.horizon - t) t)
          last (inl z) = (omega arith, λ d. z)
          last (inr (z, r)) = (omega arith, λ d. absurd (not_done S (J.horizon - t) t i r d))
      go true (some x) q ih =
          both (tries_in S (suc x - t) t i) (ih x (length-set S x true ∙ e))
        where
          range : (t ≤ x) × (x < J.horizon)
          range = next_range S t x q

          rest : List ℕ
          rest = tried_from n J (wake_slot S x) (cursor_after S x)

          both : (times i (tries S (suc x - t) t) ≡ 0) ⊎ ((times i (tries S (suc x - t) t) ≡ 1) × Tried S (suc x - t) t i) → (times i rest ≤ 1) × (Done (wake_slot S x) (cursor_after S x) i → times i rest ≡ 0) → goal (tries S (suc x - t) t ++ rest)
          both (inl z) r =
              let sum = times_append i (tries S (suc x - t) t) rest in
              (omega (arith, r.0), λ d. omega (arith, r.1 (done_stays S x t i range.0 d)))
          both (inr (z, w)) r =
              let sum = times_append i (tries S (suc x - t) t) rest in
              let none = r.1 (tried_done S x t i (omega (arith, range.1)) range.0 w) in
              (omega arith, λ d. absurd (not_done S (suc x - t) t i w d))

  pub tried_once : (n : ℕ) (S : List Bool) (t i : ℕ) → length S ≡ J.horizon → times i (tried_from n J S t) ≤ 1
  tried_once n S t i e = (tried_once_in n S t i e).0
