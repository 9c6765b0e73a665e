-- From the table of step 4 to the plan.
use Rattle.std.specs.Prelude.{ℕ, ◌≡◌, refl, Bool, List, ◌++◌, length, drop}
use Rattle.std.proofs.Common.{sym, ap, subst, ◌∙◌, drop_at}
use Rattle.std.proofs.Math.Option.{Option, none, some}
use Rattle.std.proofs.lemmas.List.{length-map}
use Rattle.sched.specs.Jobs.{Jobs, count, deadline}
use Rattle.sched.specs.Checks.{Passes}
use Rattle.sched.specs.Slots.{wakeful, awake_of, works, working_of}
use Rattle.sched.proofs.Slots.Laws.{map_append}
use Rattle.sched.specs.Energy.{awake_slots, runs, energy}
use Rattle.steps.specs.Skeleton.{least_skeleton}
use Rattle.steps.specs.Extension.{woken, extended}
use Rattle.steps.specs.Table.{Rule, runnable, earliest, choice, fill_by, table_of}
use Rattle.steps.specs.Sleep.{sleep_rule}
use Rattle.steps.proofs.Sleep.Laws.{working_stays, slept_alike}
use Rattle.steps.specs.Steps.{table_from, plan_table}
use Rattle.steps.specs.Outcomes.{Plan, figures_of, early_answer, plan_by, planned, plan}
use Rattle.sched.specs.Answers.{outcome_number}
use Rattle.steps.proofs.Outcomes.Laws.{early_open, plan_ended, plan_goes_on}
use Rattle.sched.specs.declared.Outcome.{Outcome}
use Rattle.sched.specs.declared.Outcome.TheVariants.{Planned}
use Rattle.laws_edf.specs.Rules.{EarliestRule}
use Rattle.laws_edf.proofs.GoesOn.{earliest_one}
use Rattle.laws_edf.proofs.Table.{choice_earliest}
use Rattle.laws_edf.proofs.Theorems.{any_rules_work_alike}
use Rattle.laws_rivals.proofs.Steps.{plan_length}
use Rattle.laws_rivals.specs.TieRule.{choice_before, table_of_before, plan_table_before, planned_before, plan_before, SameSlots, AsBefore}
use Rattle.laws_rivals.proofs.TieRule.{same_work}

pub same_slots : (J : Jobs) → Passes J → SameSlots J (plan_table_before J) (plan_table J)
unfolding plan_table table_from
same_slots J p =
    let S = extended J in
    let work = same_work J S p in
    let awake = slept_alike J.wake J.start (table_of J S) (table_of_before J S) work in
    record {
      working_slots = working_stays J.wake J.start (table_of J S) ∙ work ∙ sym (working_stays J.wake J.start (table_of_before J S));
      same_awake_slots = awake;
      same_number = ap awake_slots awake;
      same_runs = ap runs awake;
      same_energy = ap (energy J) awake;
    }

unchanged : (J : Jobs) (p : Plan) → AsBefore J p p
unchanged J p = record { same_answer = refl; same_working = refl; same_awake = refl; same_behind = refl; same_unplanned = λ _. refl }

figures_alike : (J : Jobs) (before after : List ℕ) (added : ℕ) → awake_of after ≡ awake_of before → figures_of J after added ≡ figures_of J before added
unfolding figures_of
figures_alike J before after added a =
    ap (λ (S : List Bool). (record { energy = energy J S; awake = awake_slots S; runs = runs S; added = added })) a

-- once the steps are taken
steps_as_before : (J : Jobs) (lent : List ℕ) → Passes J → AsBefore J (planned_before J lent) (planned J lent)
unfolding planned
steps_as_before J lent p =
    let s = same_slots J p in
    let rest = drop J.horizon lent in
    let added = length (woken J (least_skeleton J)) in
    record {
      same_answer = ap Planned (figures_alike J (plan_table_before J) (plan_table J) added s.same_awake_slots);
      same_working = map_append works (plan_table J) rest ∙ ap (λ (W : List Bool). W ++ working_of rest) s.working_slots ∙ sym (map_append works (plan_table_before J) rest);
      same_awake = map_append wakeful (plan_table J) rest ∙ ap (λ (S : List Bool). S ++ awake_of rest) s.same_awake_slots ∙ sym (map_append wakeful (plan_table_before J) rest);
      same_behind = drop_at (plan_table J) rest J.horizon long ∙ sym (drop_at (plan_table_before J) rest J.horizon (same_long s ∙ long));
      same_unplanned = λ n. absurd (n refl);
    }
  where
    long : length (plan_table J) ≡ J.horizon
    long = plan_length J p

    same_long : SameSlots J (plan_table_before J) (plan_table J) → length (plan_table_before J) ≡ length (plan_table J)
    same_long s = sym (length-map (plan_table_before J) works) ∙ sym (ap length s.working_slots) ∙ length-map (plan_table J) works

-- "as before for every list": for every list, with its wake cost, and every lent table
pub ties_as_before : (J : Jobs) (lent : List ℕ) → AsBefore J (plan_before J lent) (plan J lent)
unfolding plan
ties_as_before J lent = by_early (early_answer J (length lent)) refl
  where
    by_early : (o : Option Outcome) → early_answer J (length lent) ≡ o → AsBefore J (plan_before J lent) (plan J lent)
    by_early (some answer) e =
        let same : plan J lent ≡ plan_before J lent = plan_ended planned J lent answer e ∙ sym (plan_ended planned_before J lent answer e) in
        subst (λ (x : Plan). AsBefore J (plan_before J lent) x) (sym same) (unchanged J (plan_before J lent))
    by_early none e =
        subst (λ (x : Plan). AsBefore J x (plan J lent)) (sym (plan_goes_on planned_before J lent e))
        (subst (λ (x : Plan). AsBefore J (planned_before J lent) x) (sym (plan_goes_on planned J lent e))
        (steps_as_before J lent (early_open J (length lent) e).0))
