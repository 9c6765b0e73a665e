-- Waking a slot of a set: what its run says about `helps`.
use Prim.Native.Nat.{ℕ, suc, ◌≤◌, ◌<◌}
use Rattle.std.specs.Prelude.{◌≡◌, Bool, List, ◌⊎◌, ◌≢◌, length}
use Rattle.std.proofs.Math.Path.{ap, sym}
use Rattle.std.proofs.Common.{◌∙◌, arith, length-set, get_or-set_same}
use Rattle.std.proofs.Math.Bool.{true, false}
use Rattle.std.proofs.Math.Decide.{ℕ_discrete}
use borrow.Author.Tests.{eqb-true, eq-eqb}
use Rattle.std.proofs.Math.Seq.{get_or-set_other}
use Rattle.sched.proofs.Bounded.Laws.{by_bool}
use Rattle.sched.specs.Jobs.{Jobs, count, deadline, volume}
use Rattle.sched.specs.Slots.{awake, wake_slot}
use Rattle.steps.specs.Workable.{workable}
use Rattle.steps.specs.Extension.{helps}
use Rattle.laws_edf.specs.Run.{spans, left, edf_volume}
use Rattle.laws_edf.specs.Lacking.{Carry, Lacking}
use Rattle.laws_edf.proofs.OneSlotMore.{Extra}
use Rattle.laws_edf.proofs.Helping.{extra_worth, helping_lacks, carried_helps, helps_before}
use Rattle.laws_edf.proofs.Whole.{search_finds_run}
use Rattle.laws_edf.proofs.Sets.{woken_extra, wake_awake}

-- the deadlines lie within the horizon
abbrev Within : Jobs → Type 0
Within J = (j : ℕ) → j < count J → deadline J j ≤ J.horizon

module _ (J : Jobs) (S : List Bool) (long : length S ≡ J.horizon) where
  woken_workable : (x : ℕ) → workable J (wake_slot S x) ≡ edf_volume J (wake_slot S x)
  woken_workable x = search_finds_run J (wake_slot S x) (length-set S x true ∙ long)

  helps_gains : (x : ℕ) → helps J S x ≡ true → edf_volume J (wake_slot S x) ≡ suc (edf_volume J S)
  unfolding helps
  helps_gains x e = sym (woken_workable x) ∙ eqb-true _ _ e ∙ ap suc (search_finds_run J S long)

  gains_helps : (x : ℕ) → edf_volume J (wake_slot S x) ≡ suc (edf_volume J S) → helps J S x ≡ true
  unfolding helps
  gains_helps x e = eq-eqb _ _ (woken_workable x ∙ e ∙ ap suc (sym (search_finds_run J S long)))

  module _ (x : ℕ) (l : x < J.horizon) (sleeps : awake S x ≡ false) where
    pub extra : Extra (awake S) (awake (wake_slot S x)) x
    extra = woken_extra S x (rw long l) sleeps

    pub woken_worth : (workable J (wake_slot S x) ≡ workable J S) ⊎ (workable J (wake_slot S x) ≡ suc (workable J S))
    unfolding edf_volume
    woken_worth =
        rw (woken_workable x, search_finds_run J S long)
        (extra_worth (spans J) (awake S) (awake (wake_slot S x)) (volume J) x J.horizon extra l)

    pub lacks_if_helps : Within J → helps J S x ≡ true → Lacking (spans J) (awake S) (volume J) J.horizon x
    unfolding edf_volume
    lacks_if_helps within e =
        helping_lacks (spans J) (awake S) (awake (wake_slot S x)) (volume J) x J.horizon extra l within (helps_gains x e)

    pub helps_if_carried : (e : ℕ) → x < e → e ≤ J.horizon →
        ((s : ℕ) → x < s → s ≤ e → Carry (spans J) e s (left (spans J) (awake S) (volume J) s)) → helps J S x ≡ true
    unfolding edf_volume
    helps_if_carried e b m c =
        gains_helps x (carried_helps (spans J) (awake S) (awake (wake_slot S x)) (volume J) x J.horizon extra e b m c)

-- where x helps after y was woken, it helped before
module _ (J : Jobs) (within : Within J) (S : List Bool) (long : length S ≡ J.horizon) (x y : ℕ) (l : x < J.horizon) (m : y < J.horizon) (sleeps : awake S x ≡ false) where
  long_y : length (wake_slot S y) ≡ J.horizon
  long_y = length-set S y true ∙ long

  helped_apart : x ≢ y → awake S y ≡ false → helps J (wake_slot S y) x ≡ true → helps J S x ≡ true
  unfolding edf_volume
  helped_apart f e q =
      let still : awake (wake_slot S y) x ≡ false = get_or-set_other S y x true false f ∙ sleeps in
      gains_helps J S long x
      (helps_before (spans J) (awake S) (awake (wake_slot S x)) (awake (wake_slot S y)) (awake (wake_slot (wake_slot S y) x)) (volume J) x y J.horizon
      (extra J S long x l sleeps) (extra J S long y m e) (extra J (wake_slot S y) long_y x l still) l within
      (helps_gains J (wake_slot S y) long_y x q))

  -- a slot that is awake is worth nothing more
  never_again : x ≡ y → helps J (wake_slot S y) x ≡ true → ⊥
  never_again e q =
      let w : awake (wake_slot S y) x ≡ true = rw e (get_or-set_same S y true false (rw long m)) in
      omega (arith, helps_gains J (wake_slot S y) long_y x q, ap (λ (T : List Bool). edf_volume J T) (wake_awake (wake_slot S y) x w))

  pub helped_before : helps J (wake_slot S y) x ≡ true → helps J S x ≡ true
  helped_before q = go (ℕ_discrete x y)
    where
      go : Dec (x ≡ y) → helps J S x ≡ true
      go (yes e) = absurd (never_again e q)
      go (no f) = by_bool (awake S y) (λ e. rw (wake_awake S y e) at q) (λ e. helped_apart f e q)
