-- 01, "From list to table", step 3: the slots that are woken while volume is short.
use Rattle.std.specs.Prelude.{ℕ, zero, suc, Bool, true, false, not, ◌&&◌, List, [], ◌∷◌, ltb, eqb}
use Rattle.std.proofs.Math.Option.{Option, none, some}
use Rattle.sched.specs.Bounded.{least_from}
use Rattle.sched.specs.Jobs.{Jobs, total_volume}
use Rattle.sched.specs.Slots.{awake, touches, wake_slot}
use Rattle.steps.specs.Skeleton.{least_skeleton}
use Rattle.steps.specs.Workable.{workable}

-- "waking it raises the workable volume by one"
unfoldable pub helps : Jobs → List Bool → ℕ → Bool
helps J S t = eqb (workable J (wake_slot S t)) (suc (workable J S))

-- a "sleeping slot that touches the set and helps"; bound by `let`, the last test is computed only where the others hold
unfoldable pub wakeable : Jobs → List Bool → ℕ → Bool
wakeable J S t = let h = helps J S t in not (awake S t) && touches S t && h

-- the least such slot
unfoldable pub next_wake : Jobs → List Bool → Option ℕ
next_wake J S = least_from J.horizon 0 (wakeable J S)

-- the slots that step 3 wakes, in order, in at most n turns
unfoldable pub woken_in : ℕ → Jobs → List Bool → List ℕ
woken_in zero J S = []
woken_in (suc n) J S =
    elim (ltb (workable J S) (total_volume J)) [
      | false ↦ []
      | true ↦ elim (next_wake J S) [ none ↦ [] | some t ↦ t ∷ woken_in n J (wake_slot S t) ]
    ]

-- "While the workable volume is below the sum of volumes, wake ..": no more turns than there are slots
unfoldable pub woken : Jobs → List Bool → List ℕ
woken J S = woken_in J.horizon J S

unfoldable pub wake_all : List Bool → List ℕ → List Bool
wake_all S [] = S
wake_all S (t ∷ ts) = wake_all (wake_slot S t) ts

-- the set that step 3 ends with, from that of step 2
unfoldable pub extended : Jobs → List Bool
extended J = wake_all (least_skeleton J) (woken J (least_skeleton J))
