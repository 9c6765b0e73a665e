-- 02, card 6: what the tie rule leaves as it was, in the words of `specs/TieRule`.
use Rattle.std.specs.Prelude.{ℕ, ◌≡◌, refl, Bool, List, ◌++◌, length, drop}
use Rattle.std.proofs.Common.{sym, ap, subst, ◌∙◌, drop_at}
use Rattle.std.proofs.Math.Option.{Option, none, some}
use Rattle.std.proofs.lemmas.List.{length-map}
use Rattle.sched.specs.Jobs.{Jobs, count, deadline}
use Rattle.sched.specs.Checks.{Passes}
use Rattle.sched.specs.Slots.{wakeful, awake_of, works, working_of}
use Rattle.sched.proofs.Slots.Laws.{map_append}
use Rattle.sched.specs.Energy.{awake_slots, runs, energy}
use Rattle.steps.specs.Skeleton.{least_skeleton}
use Rattle.steps.specs.Extension.{woken, extended}
use Rattle.steps.specs.Table.{Rule, runnable, earliest, choice, fill_by, table_of}
use Rattle.steps.specs.Sleep.{sleep_rule}
use Rattle.steps.proofs.Sleep.Laws.{working_stays, slept_alike}
use Rattle.steps.specs.Steps.{table_from, plan_table}
use Rattle.steps.specs.Outcomes.{Plan, figures_of, early_answer, plan_by, planned, plan}
use Rattle.sched.specs.Answers.{outcome_number}
use Rattle.steps.proofs.Outcomes.Laws.{early_open, plan_ended, plan_goes_on}
use Rattle.sched.specs.declared.Outcome.{Outcome}
use Rattle.sched.specs.declared.Outcome.TheVariants.{Planned}
use Rattle.laws_edf.specs.Rules.{EarliestRule}
use Rattle.laws_edf.proofs.GoesOn.{earliest_one}
use Rattle.laws_edf.proofs.Table.{choice_earliest}
use Rattle.laws_edf.proofs.Theorems.{any_rules_work_alike}
use Rattle.laws_rivals.proofs.Steps.{plan_length}
use Rattle.laws_rivals.specs.TieRule.{choice_before, table_of_before, plan_table_before, planned_before, plan_before, SameSlots, AsBefore}
pub mod WholePlan

before_earliest : (J : Jobs) → EarliestRule J (choice_before J)
before_earliest J t left latest = earliest_one (deadline J) (runnable J t left) (count J)

-- Step 4's table: the same slots work, for every set of slots.
pub same_work : (J : Jobs) (S : List Bool) → Passes J → working_of (table_of J S) ≡ working_of (table_of_before J S)
unfolding table_of
same_work J S p = any_rules_work_alike J (choice J) (choice_before J) S p (choice_earliest J) (before_earliest J)
