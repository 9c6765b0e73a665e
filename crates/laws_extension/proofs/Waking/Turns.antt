-- What waking slot after slot does.
use Prim.Native.Nat.{ℕ, zero, suc, ◌+◌, ◌-◌, ◌≤◌, ◌<◌}
use Rattle.std.specs.Prelude.{◌≡◌, Bool, ◌&&◌, ◌||◌, not}
use Rattle.std.proofs.Math.Path.{refl}
use Rattle.std.proofs.Common.{ap, ◌∙◌, true≢false, le_refl, mul-le-mul, not-suc-le-zero, length-set}
use Rattle.std.proofs.Math.Bool.{true, false}
use Rattle.std.proofs.lemmas.Bool.{false≢true}
use mathlib.Core.List.{List, [], ◌∷◌}
use Rattle.std.proofs.Math.Option.{Option, none, some}
use native.Mathlib.Omega.{arith}
use Rattle.std.proofs.Math.Decide.{dec_lt}
use borrow.Author.Tests.{ltb-true, ltb-false, eqb-true, not-true}
use Rattle.std.proofs.Math.ListN.{length}
use Rattle.std.proofs.Math.Dec.{ltb}
use Rattle.sched.specs.Bounded.{any_below}
use Rattle.sched.proofs.Bounded.Laws.{and_true, true_not_false, all_intro, all_elim, any_intro, any_elim, least_some, least_none}
use Rattle.sched.specs.Jobs.{Jobs, count, total_volume}
use Rattle.sched.specs.Slots.{awake, touches, wake_slot}
use Rattle.sched.proofs.Energy.Laws.{awake_at_most}
use Rattle.sched.specs.Energy.{awake_slots, runs_from, energy}
use Rattle.steps.specs.Skeleton.{is_skeleton, in_window}
use Rattle.steps.specs.Workable.{workable}
use Rattle.steps.specs.Extension.{helps, wakeable, next_wake, woken_in, woken, wake_all}
use Rattle.laws_extension.specs.Waking.{Turn, Turns, AlwaysOne}
use Rattle.laws_extension.proofs.Waking.Laws.{wake_adds_one}
use Rattle.laws_extension.proofs.Waking.Energy.{wake_energy}

-- a skeleton stays one

pub awake_stays : (S : List Bool) (x t : ℕ) → awake S t ≡ true → awake (wake_slot S x) t ≡ true
awake_stays [] x t a = a
awake_stays (b ∷ S) zero zero a = refl
awake_stays (b ∷ S) zero (suc t) a = a
awake_stays (b ∷ S) (suc x) zero a = a
awake_stays (b ∷ S) (suc x) (suc t) a = awake_stays S x t a

pub wake_skeleton : (J : Jobs) (S : List Bool) (x : ℕ) → is_skeleton J S ≡ true → is_skeleton J (wake_slot S x) ≡ true
unfolding is_skeleton
wake_skeleton J S x k = all_intro (count J) _ (λ j l. go j (any_elim J.horizon _ (all_elim (count J) _ k j l)))
  where
    go : (j : ℕ) → (t : ℕ) × (t < J.horizon) × (awake S t && in_window J j t ≡ true) → any_below J.horizon (λ t. awake (wake_slot S x) t && in_window J j t) ≡ true
    go j (t, l, w) =
        let w2 = and_true (awake S t) (in_window J j t) w in
        any_intro J.horizon _ t l (rw (awake_stays S x t w2.0) w2.1)

-- several turns

pub all_length : (S : List Bool) (ts : List ℕ) → length (wake_all S ts) ≡ length S
unfolding wake_all
all_length S [] = refl
all_length S (t ∷ ts) = all_length (wake_slot S t) ts ∙ length-set S t true

module _ (J : Jobs) where
  pub turns_energy : (S : List Bool) (ts : List ℕ) → length S ≡ J.horizon → Turns J S ts → energy J (wake_all S ts) ≤ energy J S + length ts
  unfolding wake_all
  turns_energy S [] e w = omega arith
  turns_energy S (t ∷ ts) e (w, ws) =
      let rest = turns_energy (wake_slot S t) ts (length-set S t true ∙ e) ws in
      let one = wake_energy J S t (omega (arith, w.below)) w.sleeps w.near in
      omega arith

  pub turns_workable : (S : List Bool) (ts : List ℕ) → Turns J S ts → workable J (wake_all S ts) ≡ workable J S + length ts
  unfolding wake_all
  turns_workable S [] w = omega arith
  turns_workable S (t ∷ ts) (w, ws) =
      let rest = turns_workable (wake_slot S t) ts ws in
      let one = w.gains in
      omega arith

  -- step 3

  pub wakes_parts : (S : List Bool) (t : ℕ) → wakeable J S t ≡ true → (awake S t ≡ false) × (touches S t ≡ true) × (helps J S t ≡ true)
  unfolding wakeable
  wakes_parts S t w =
      let a = and_true (not (awake S t) && touches S t) (helps J S t) w in
      let b = and_true (not (awake S t)) (touches S t) a.0 in
      (not-true (awake S t) b.0, b.1, a.1)

  pub wakes_turn : (S : List Bool) (t : ℕ) → t < J.horizon → wakeable J S t ≡ true → Turn J S t
  unfolding helps
  wakes_turn S t l w = let a = wakes_parts S t w in record { below = l; sleeps = a.0; near = a.1; gains = eqb-true _ _ a.2 }

  -- the slot that step 3 wakes next
  pub next_turn : (S : List Bool) (t : ℕ) → next_wake J S ≡ some t → Turn J S t
  unfolding next_wake
  next_turn S t e = let f = least_some J.horizon 0 (wakeable J S) t e in wakes_turn S t (omega (arith, f.below)) f.holds

  pub woken_turns : (n : ℕ) (S : List Bool) → Turns J S (woken_in n J S)
  unfolding woken_in
  woken_turns zero S = tt
  woken_turns (suc n) S = go (ltb (workable J S) (total_volume J)) (next_wake J S) refl (λ t. woken_turns n (wake_slot S t))
    where
      go : (short : Bool) (o : Option ℕ) → next_wake J S ≡ o → ((t : ℕ) → Turns J (wake_slot S t) (woken_in n J (wake_slot S t))) → Turns J S (elim short [ false ↦ [] | true ↦ elim o [ none ↦ [] | some t ↦ t ∷ woken_in n J (wake_slot S t) ] ])
      go false o e ih = tt
      go true none e ih = tt
      go true (some t) e ih = (next_turn S t e, ih t)

  pub woken_energy : (n : ℕ) (S : List Bool) → length S ≡ J.horizon → energy J (wake_all S (woken_in n J S)) ≤ energy J S + length (woken_in n J S)
  woken_energy n S e = turns_energy S (woken_in n J S) e (woken_turns n S)

  pub woken_workable : (n : ℕ) (S : List Bool) → workable J (wake_all S (woken_in n J S)) ≡ workable J S + length (woken_in n J S)
  woken_workable n S = turns_workable S (woken_in n J S) (woken_turns n S)

-- step 3 to its end, from a skeleton S of all H slots

-- not all slots are awake where one sleeps
sleeper : (S : List Bool) (x : ℕ) → x < length S → awake S x ≡ false → awake_slots S < length S
sleeper S x l a =
    let m = wake_adds_one S x l a in
    let n = awake_at_most (wake_slot S x) in
    let e = length-set S x true in
    omega arith

module _ (J : Jobs) (one : AlwaysOne J) where
  next_found : (S : List Bool) → length S ≡ J.horizon → is_skeleton J S ≡ true → workable J S < total_volume J → next_wake J S ≡ none → ⊥
  unfolding next_wake
  next_found S e k v n =
      let x = one S e k v in
      true_not_false (wakeable J S x.0) x.2 (least_none J.horizon 0 (wakeable J S) n x.0 (omega arith) (omega (arith, x.1)))

  -- turns enough for all slots that sleep
  pub woken_in_full : (n : ℕ) (S : List Bool) → length S ≡ J.horizon → is_skeleton J S ≡ true → workable J S ≤ total_volume J → J.horizon ≤ awake_slots S + n → workable J (wake_all S (woken_in n J S)) ≡ total_volume J
  unfolding woken_in wake_all
  woken_in_full zero S e k v f = go (dec_lt (workable J S) (total_volume J))
    where
      go : Dec (workable J S < total_volume J) → workable J S ≡ total_volume J
      go (yes l) =
          let x = one S e k l in
          let w = wakes_turn J S x.0 x.1 x.2 in
          let m = sleeper S x.0 (omega (arith, w.below)) w.sleeps in
          absurd (omega arith)
      go (no l) = omega arith
  woken_in_full (suc n) S e k v f = go (ltb (workable J S) (total_volume J)) refl (next_wake J S) refl (woken_in_full n)
    where
      go : (short : Bool) → ltb (workable J S) (total_volume J) ≡ short → (o : Option ℕ) → next_wake J S ≡ o
          → ((R : List Bool) → length R ≡ J.horizon → is_skeleton J R ≡ true → workable J R ≤ total_volume J → J.horizon ≤ awake_slots R + n → workable J (wake_all R (woken_in n J R)) ≡ total_volume J)
          → workable J (wake_all S (elim short [ false ↦ [] | true ↦ elim o [ none ↦ [] | some t ↦ t ∷ woken_in n J (wake_slot S t) ] ])) ≡ total_volume J
      go false s o g ih = omega (arith, ltb-false (workable J S) (total_volume J) s)
      go true s none g ih = absurd (next_found S e k (ltb-true _ _ s) g)
      go true s (some t) g ih =
          let w = next_turn J S t g in
          let m = wake_adds_one S t (omega (arith, w.below)) w.sleeps in
          let short = ltb-true (workable J S) (total_volume J) s in
          ih (wake_slot S t) (length-set S t true ∙ e) (wake_skeleton J S t k) (omega (arith, w.gains)) (omega arith)
