-- Sets of slots given as lists: waking a slot, touching, skeletons.
use Rattle.std.specs.Prelude.{ℕ, suc, ◌<◌, ◌≡◌, Bool, true, false, ◌&&◌, List, leb, length, set}
use Rattle.std.proofs.Common.{ap, sym, ◌∙◌, inl, inr, get_or-set_same, get_or-set_other, leb-true}
use Rattle.std.proofs.lemmas.List.{set-get_or}
use Rattle.sched.specs.Bounded.{any_below}
use Rattle.sched.proofs.Bounded.Laws.{any_elim, all_elim, and_true, or_left, or_right}
use Rattle.sched.specs.Jobs.{Jobs, count, release, deadline}
use Rattle.sched.specs.Slots.{awake, awake_before, touches, wake_slot}
use Rattle.steps.specs.Skeleton.{in_window, is_skeleton}
use Rattle.laws_edf.specs.Run.{spans}
use Rattle.laws_edf.proofs.OneSlotMore.{Extra}
use Rattle.laws_edf.proofs.Touching.{NextToAwake, Window}

pub woken_extra : (S : List Bool) (x : ℕ) → x < length S → awake S x ≡ false → Extra (awake S) (awake (wake_slot S x)) x
woken_extra S x l e =
    record { asleep = e; awake = get_or-set_same S x true false l; same = λ t f. get_or-set_other S x t true false f }

pub wake_awake : (S : List Bool) (x : ℕ) → awake S x ≡ true → wake_slot S x ≡ S
wake_awake S x e = ap (λ (b : Bool). set S x b) (sym e) ∙ set-get_or S x false

pub touching : (S : List Bool) (x : ℕ) → NextToAwake (awake S) x → touches S x ≡ true
touching S x (inl (y, e, a)) = rw (← e) (or_left (awake S y) (awake S (suc (suc y))) a)
touching S x (inr a) = or_right (awake_before S x) (awake S (suc x)) a

pub skeleton_windows : (J : Jobs) (S : List Bool) → is_skeleton J S ≡ true → (j : ℕ) → j < count J → Window (spans J) (awake S) j
unfolding is_skeleton
skeleton_windows J S e j l =
    let (t, b, c) = any_elim J.horizon (λ t. awake S t && in_window J j t) (all_elim (count J) (λ j. any_below J.horizon (λ t. awake S t && in_window J j t)) e j l) in
    let (a, w) = and_true (awake S t) (in_window J j t) c in
    let (u, v) = and_true (leb (release J j) (suc t)) (leb t (deadline J j)) w in
    (t, a, leb-true _ _ u, leb-true _ _ v)
