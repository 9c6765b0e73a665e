-- Step 3 with a cursor: the search for the next slot goes on where the last one stopped, one slot back at most.
use Rattle.std.specs.Prelude.{ℕ, zero, suc, ◌-◌, ◌<◌, ◌≡◌, Bool, true, false, not, ◌&&◌, ◌||◌, List, [], ◌∷◌, ◌++◌, length, ltb}
use Rattle.std.proofs.Math.Option.{Option, none, some}
use Rattle.sched.specs.Bounded.{least_from}
use Rattle.sched.specs.Jobs.{Jobs, total_volume}
use Rattle.sched.specs.Slots.{awake, touches, wake_slot}
use Rattle.steps.specs.Workable.{workable}
use Rattle.steps.specs.Extension.{helps, wakeable}

-- no slot before the cursor can be woken
abbrev pub NoneBefore : Jobs → List Bool → ℕ → Type 0
NoneBefore J S t = (i : ℕ) → i < t → wakeable J S i ≡ false

-- a slot that does not help does not help after another was woken
abbrev pub StaysIdle : Jobs → Type 0
StaysIdle J =
    (S : List Bool) (x y : ℕ) → length S ≡ J.horizon → x < J.horizon → y < J.horizon → awake S x ≡ false → awake S y ≡ false → helps J S x ≡ false → helps J (wake_slot S y) x ≡ false

-- where the search goes on after slot x was woken in S: at the slot before, if only now it lies next to an awake slot, else behind x
unfoldable pub cursor_after : List Bool → ℕ → ℕ
cursor_after S zero = 1
cursor_after S (suc y) = elim (awake S y || touches S y) [ true ↦ suc (suc y) | false ↦ y ]

-- the least slot that can be woken, from slot t on
unfoldable pub next_from : Jobs → List Bool → ℕ → Option ℕ
next_from J S t = least_from (J.horizon - t) t (wakeable J S)

-- the slots woken in at most n turns, the cursor at t
unfoldable pub woken_from : ℕ → Jobs → List Bool → ℕ → List ℕ
woken_from zero J S t = []
woken_from (suc n) J S t =
    elim (ltb (workable J S) (total_volume J)) [
      | false ↦ []
      | true ↦ elim (next_from J S t) [ none ↦ [] | some x ↦ x ∷ woken_from n J (wake_slot S x) (cursor_after S x) ]
    ]

-- of the k slots from t on those that a search tries: they sleep and touch the set, so whether they help is computed
unfoldable pub tries : List Bool → ℕ → ℕ → List ℕ
tries S zero t = []
tries S (suc k) t = elim (not (awake S t) && touches S t) [ true ↦ t ∷ tries S k (suc t) | false ↦ tries S k (suc t) ]

-- all slots tried in these turns
unfoldable pub tried_from : ℕ → Jobs → List Bool → ℕ → List ℕ
tried_from zero J S t = []
tried_from (suc n) J S t =
    elim (ltb (workable J S) (total_volume J)) [
      | false ↦ []
      | true ↦ elim (next_from J S t) [
        | none ↦ tries S (J.horizon - t) t
        | some x ↦ tries S (suc x - t) t ++ tried_from n J (wake_slot S x) (cursor_after S x)
      ]
    ]
