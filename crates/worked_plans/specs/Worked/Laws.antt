-- A row is right where tests that compute say so; and what the steps give of a list whose row is planned.
use Rattle.std.specs.Prelude.{◌≡◌, Bool, true, ◌&&◌, ◌⊎◌, length, drop, ltb, eqb}
use Rattle.std.proofs.Common.{sym, ap, ◌∙◌, inl, inr, ltb-true, eqb-true}
use mathlib.Core.List.Memᴰ.{cases_cons as apart}
use mathlib.Core.List.Memᴰ.{not-nil as nowhere}
use mathlib.Core.List.{List, [], ◌∷◌, ◌++◌, map, Memᴰ}
use Rattle.std.proofs.Math.Option.{Option, none, some}
use Rattle.sched.proofs.Bounded.Laws.{and_true}
use Rattle.sched.specs.Jobs.{Jobs}
use Rattle.sched.specs.Slots.{awake_of}
use Rattle.sched.specs.Energy.{runs, energy}
use Rattle.sched.proofs.Feasible.Laws.{feasible_test, test_feasible}
use Rattle.steps.specs.Skeleton.{least_skeleton}
use Rattle.steps.specs.Extension.{woken}
use Rattle.steps.specs.Steps.{plan_table}
use Rattle.steps.specs.Outcomes.{Plan, early_answer, planned, plan}
use Rattle.steps.proofs.Outcomes.Laws.{plan_goes_on}
use Rattle.worked_plans.specs.Worked.{Worked, Rival, Row, order_for, sevens, found, Cheaper, Right}

unfoldable pub cheaper_test : Worked → Option Rival → Bool
cheaper_test w none = true
cheaper_test w (some r) =
    feasible_test w.list r.table
    && (eqb (runs (awake_of r.table)) r.runs
    && (eqb (energy w.list (awake_of r.table)) r.energy && ltb r.energy (energy w.list (awake_of w.table))))

test_cheaper : (w : Worked) (r : Rival) → cheaper_test w (some r) ≡ true → Cheaper w r
unfolding cheaper_test
test_cheaper w r e =
    let costs = energy w.list (awake_of r.table) in
    let plan_costs = energy w.list (awake_of w.table) in
    let some = runs (awake_of r.table) in
    let (feasible, behind) =
    and_true (feasible_test w.list r.table) (eqb some r.runs && (eqb costs r.energy && ltb r.energy plan_costs)) e in
    let (separate, rest) = and_true (eqb some r.runs) (eqb costs r.energy && ltb r.energy plan_costs) behind in
    let (same, less) = and_true (eqb costs r.energy) (ltb r.energy plan_costs) rest in
    record {
      feasible = test_feasible w.list r.table feasible;
      separate = eqb-true some r.runs separate;
      costs = eqb-true costs r.energy same;
      less = ltb-true r.energy plan_costs less;
    }

unfoldable pub all_cheaper : List Row → Bool
all_cheaper [] = true
all_cheaper (row ∷ rows) = cheaper_test row.worked row.rival && all_cheaper rows

pub all_right :
    (rows : List Row) → map (λ row. found row.worked.list) rows ≡ map (λ row. row.worked) rows → all_cheaper rows ≡ true →
    (row : Row) → Memᴰ row rows → Right row
unfolding all_cheaper
all_right [] same cheaper row m = absurd (nowhere m)
all_right (x ∷ rows) same cheaper row m =
    let (first, later) = and_true (cheaper_test x.worked x.rival) (all_cheaper rows) cheaper in
    let tail : map (λ row. found row.worked.list) rows ≡ map (λ row. row.worked) rows = cc in
    go first (apart m) (all_right rows tail later row)
  where
    here : cheaper_test x.worked x.rival ≡ true → Right x
    here first = record { gives = cc; beats = λ r e. test_cheaper x.worked r (rw e at first) }

    go : cheaper_test x.worked x.rival ≡ true → (row ≡ x) ⊎ Memᴰ row rows → (Memᴰ row rows → Right row) → Right row
    go first (inl q) ih = rw q (here first)
    go first (inr i) ih = ih i

-- of a list that comes to the steps
pub row_steps : (J : Jobs) (w : Worked) → found J ≡ w → early_answer J (length (sevens J)) ≡ none →
    (plan_table J ++ drop J.horizon (sevens J) ≡ w.table) × (woken J (least_skeleton J) ≡ w.order)
unfolding found order_for plan planned
row_steps J w e unanswered =
    let on = plan_goes_on planned J (sevens J) unanswered in (
      ap (λ (x : Plan). x.table) (sym on) ∙ ap (λ (x : Worked). x.table) e,
      ap (λ (x : Plan). order_for J x.answer) (sym on) ∙ ap (λ (x : Worked). x.order) e,
    )
