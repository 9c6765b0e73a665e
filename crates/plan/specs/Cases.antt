-- 01, "Plans worked by hand": what is printed of the third list in hex, and of an empty input. Closed cases, so that an edit of a definition is
-- refused here. The plan of the third list follows from its row (`worked_plans/specs/Starred`).
use Rattle.std.specs.Prelude.{ℕ, ◌≡◌, refl, List, [], ◌++◌, length, take, drop}
use Rattle.std.proofs.Common.{ap, ap₂, ◌∙◌}
use Rattle.std.proofs.Math.Option.{none}
use Rattle.sched.specs.Bounded.{total, any_below, sum_below, least_from}
use Rattle.sched.specs.Checks.{check_from}
use Rattle.sched.specs.Energy.{awake_slots, runs_from}
use Rattle.sched.specs.Runs.{leading, run_list_from}
use Rattle.sched.proofs.Cases.{third}
use Rattle.sched.specs.declared.Outcome.TheVariants.{Planned}
use Rattle.steps.specs.Overload.{volume_if, volume_inside, overloaded, overload_ending_at, shown_overload}
use Rattle.steps.specs.Outcomes.{Plan, figures_of, early_answer, planned, plan}
use Rattle.steps.proofs.Outcomes.Laws.{plan_goes_on}
use Rattle.worked_plans.proofs.Third.{third_steps}
use Rattle.joblist.proofs.Cases.{third_bytes, third_list, third_passes}
use Rattle.decimal.specs.Decimal.{digits_in, digits}
use Rattle.report.specs.Report.{numbers, lines_of, text_of}
use Rattle.report.specs.Cases.{third_text, truncated_text}
use Rattle.plan.specs.Program.{lent_table, printed_plan, printed_after, printed}
use Rattle.sched.specs.Refusals.{Checked}

third_read : printed third_bytes ≡ printed_plan third
unfolding printed
third_read = ap (λ (c : Checked). printed_after c third_bytes) third_passes ∙ ap printed_plan third_list

third_open : early_answer third (length lent_table) ≡ none
unfolding total any_below sum_below least_from check_from volume_if volume_inside overloaded overload_ending_at shown_overload early_answer
third_open = refl

-- what is printed of a plan of the third list with this table and this order
abbrev text_from : List ℕ → List ℕ → List ℕ
text_from table order = text_of (Planned (figures_of third table (length order))) (take 10 (table ++ drop 10 lent_table))

third_text_lem : printed_plan third ≡ third_text
unfolding plan planned figures_of awake_slots runs_from leading run_list_from digits digits_in numbers lines_of
third_text_lem =
    ap (λ (x : Plan). text_of x.answer (take 10 x.table)) (plan_goes_on planned third lent_table third_open)
    ∙ ap₂ text_from third_steps.0 third_steps.1

pub third_printed : printed third_bytes ≡ third_text
third_printed = third_read ∙ third_text_lem

pub empty_printed : printed [] ≡ truncated_text
unfolding printed digits digits_in numbers
empty_printed = refl
