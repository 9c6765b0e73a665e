-- The awake slots of a feasible table are a skeleton.
use Rattle.std.specs.Prelude.{ℕ, suc, ◌≤◌, ◌<◌, ◌≡◌, refl, Bool, true, false, ◌&&◌, List, [], ◌∷◌, length, get_or, leb, eqb}
use Rattle.std.proofs.Common.{◌∙◌, arith, eqb-true, ne_eqb, le-leb}
use Rattle.sched.specs.Bounded.{any_below}
use Rattle.sched.proofs.Bounded.Laws.{all_intro, any_intro}
use Rattle.sched.specs.Jobs.{Jobs, count, release, deadline}
use Rattle.sched.specs.Checks.{Passes}
use Rattle.sched.specs.Slots.{awake, awake_of, times, asleep}
use Rattle.sched.proofs.Slots.Laws.{awake_of_length, awake_of_lem}
use Rattle.sched.specs.Feasible.{OwnSlot, Feasible}
use Rattle.steps.specs.Skeleton.{is_skeleton, in_window}
use Rattle.laws_skeleton.proofs.Rival.{slot_of}

pub rival_length : (J : Jobs) (table : List ℕ) → Feasible J table → length (awake_of table) ≡ J.horizon
rival_length J table f = awake_of_length table ∙ f.long

pub rival_skeleton : (J : Jobs) (table : List ℕ) → Passes J → Feasible J table → is_skeleton J (awake_of table) ≡ true
unfolding is_skeleton
rival_skeleton J table p f = all_intro (count J) _ (λ j l. go j l (slot_of j table (omega (arith, f.exact j l, (p.good j l).some))))
  where
    go : (j : ℕ) → j < count J → (t : ℕ) × (t < length table) × (get_or table t 0 ≡ j) → any_below J.horizon (λ t. awake (awake_of table) t && in_window J j t) ≡ true
    go j l (t, m, e) =
        let h : t < J.horizon = omega (arith, f.long) in
        let few : get_or table t 0 < count J = omega arith in
        let own : OwnSlot J j t = rw e at (f.own t h few) in
        let runs : eqb (get_or table t 0) asleep ≡ false = ne_eqb (get_or table t 0) asleep (λ q. omega (arith, p.few)) in
        let from : leb (release J j) (suc t) ≡ true = le-leb (release J j) (suc t) (omega (arith, own.released)) in
        let to : leb t (deadline J j) ≡ true = le-leb t (deadline J j) (omega (arith, own.before)) in
        any_intro J.horizon _ t h (rw (awake_of_lem table t m, runs, from, to))
