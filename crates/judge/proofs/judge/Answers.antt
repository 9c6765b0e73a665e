-- `judge` meets its contract: the list checks decide, then the table's length, then its first h bytes.
use Rattle.std.proofs.Common.{◌≡◌, ◌∙◌, refl, rules, sym, Err}
use Rattle.sched.specs.Jobs.{jobs_from}
use Rattle.judge.proofs.Answers.{list_refused, table_refused, slots_judged}
use Rattle.judge.proofs.judge.Goals as goal

pub returns-in_err-check_list : goal.returns-in_err-check_list
returns-in_err-check_list c =
    let told : c.from_residual.result ≡ Err c.in_err-check_list.field-0.0 = search rules in
    rw told (list_refused _ _ _ (sym c.check_list.ensures.same ∙ c.in_err-check_list.was))

pub returns-in_err-check_length : goal.returns-in_err-check_length
returns-in_err-check_length c =
    let told : c.from_residual-in_err-check_length.result ≡ Err c.in_err-check_length.field-0.0 = search rules in
    rw told (table_refused _ _ (sym c.check_list.ensures.same ∙ c.in_ok-check_list.was) _
    (sym c.check_length.ensures.same ∙ c.in_err-check_length.was))

pub returns : goal.returns
returns c =
    let args = c.args in
    let J = jobs_from args.h args.q args.start args.releases.now args.deadlines.now args.volumes.now in
    slots_judged J _ (sym c.check_list.ensures.same ∙ c.in_ok-check_list.was) _
    (sym c.check_length.ensures.same ∙ c.in_ok-check_length.was) (c.judge_slots.ensures J refl refl)
