-- A rival's table is any feasible one: its awake slots are a skeleton, so the least skeleton costs no more than they do.
use Rattle.std.specs.Prelude.{ℕ, suc, ◌≤◌, ◌<◌, ◌≡◌, refl, Bool, true, false, ◌&&◌, List, [], ◌∷◌, length, get_or, leb, eqb}
use Rattle.std.proofs.Common.{◌∙◌, arith, eqb-true, ne_eqb, le-leb}
use Rattle.sched.specs.Bounded.{any_below}
use Rattle.sched.proofs.Bounded.Laws.{all_intro, any_intro}
use Rattle.sched.specs.Jobs.{Jobs, count, release, deadline}
use Rattle.sched.specs.Checks.{Passes}
use Rattle.sched.specs.Slots.{awake, awake_of, times, asleep}
use Rattle.sched.proofs.Slots.Laws.{awake_of_length, awake_of_lem}
use Rattle.sched.specs.Feasible.{OwnSlot, Feasible}
use Rattle.steps.specs.Skeleton.{is_skeleton, in_window}
pub mod Skeleton

-- a byte that stands in a table stands in some slot of it
pub slot_of : (j : ℕ) (table : List ℕ) → 1 ≤ times j table → (t : ℕ) × (t < length table) × (get_or table t 0 ≡ j)
unfolding times
slot_of j [] l = absurd (omega arith)
slot_of j (x ∷ table) l = go (eqb x j) refl l (slot_of j table)
  where
    go : (b : Bool) → eqb x j ≡ b → 1 ≤ elim b [ true ↦ suc (times j table) | false ↦ times j table ] → (1 ≤ times j table → (t : ℕ) × (t < length table) × (get_or table t 0 ≡ j)) → (t : ℕ) × (t < suc (length table)) × (get_or (x ∷ table) t 0 ≡ j)
    go true e m ih = (0, omega arith, eqb-true x j e)
    go false e m ih = let r = ih m in (suc r.0, omega (arith, r.1), r.2)
