-- Step 3 of 01, one turn and several: which slot may be woken, and which slots may be woken one after the other.
use Rattle.std.specs.Prelude.{ℕ, suc, ◌<◌, ◌≡◌, Bool, true, false, List, [], ◌∷◌, length}
use Rattle.sched.specs.Jobs.{Jobs, total_volume}
use Rattle.sched.specs.Slots.{awake, touches, wake_slot}
use Rattle.steps.specs.Workable.{workable}
use Rattle.steps.specs.Skeleton.{is_skeleton}
use Rattle.steps.specs.Extension.{wakeable}
pub mod Cursor

-- a turn that wakes slot t
pub record Turn (J : Jobs) (S : List Bool) (t : ℕ) : Type 0 where
  pub below : t < J.horizon
  pub sleeps : awake S t ≡ false
  pub near : touches S t ≡ true
  pub gains : workable J (wake_slot S t) ≡ suc (workable J S)

-- each slot of the list may be woken after those before it
abbrev pub Turns : Jobs → List Bool → List ℕ → Type 0
Turns J S [] = Unit {0}
Turns J S (t ∷ ts) = Turn J S t × Turns J (wake_slot S t) ts

-- while the workable volume of a skeleton is short of the sum of volumes, some slot may be woken
abbrev pub AlwaysOne : Jobs → Type 0
AlwaysOne J =
    (S : List Bool) → length S ≡ J.horizon → is_skeleton J S ≡ true → workable J S < total_volume J → (x : ℕ) × (x < J.horizon) × (wakeable J S x ≡ true)
