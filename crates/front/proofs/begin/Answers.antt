-- `begin` meets its contract: the list checks decide, then the table's length, then step 1.
use Rattle.std.proofs.Common.{rules, ◌≡◌, sym, subst, ◌∙◌, Err}
use Rattle.sched.specs.declared.Outcome.TheVariants.{Refused}
use Rattle.front.proofs.Answers.{Answered, list_refused, table_refused, checked, shown_ends, nothing_opens}
use Rattle.front.proofs.begin.Goals as goal

pub returns-in_err-check_list : goal.returns-in_err-check_list
returns-in_err-check_list c =
    let told : c.from_residual.result ≡ Err (Refused c.in_err-check_list.field-0.0) = search rules in
    subst (Answered _ _ _ _ _ _ _) (sym told) (list_refused _ _ _ _ _ _ _ _ (sym c.check_list.ensures.same ∙ c.in_err-check_list.was))

pub returns-in_err-check_length : goal.returns-in_err-check_length
returns-in_err-check_length c =
    let told : c.from_residual-in_err-check_length.result ≡ Err (Refused c.in_err-check_length.field-0.0) = search rules in
    subst (Answered _ _ _ _ _ _ _) (sym told)
    (table_refused _ _ _ _ _ _ _ (sym c.check_list.ensures.same ∙ c.in_ok-check_list.was) _ (sym c.check_length.ensures.same ∙ c.in_err-check_length.was))

pub order_and_find-requires : goal.order_and_find-requires
order_and_find-requires c = (
  checked c.args.h c.args.releases.now c.args.deadlines.now c.args.volumes.now c.args.have c.args.ranks.now c.args.arrivals.now
      (sym c.check_list.ensures.same ∙ c.in_ok-check_list.was),
  c.requires,
)

pub returns-in-Some : goal.returns-in-Some
returns-in-Some c =
    shown_ends _ _ _ _ _ _ _ (sym c.check_list.ensures.same ∙ c.in_ok-check_list.was)
    (sym c.check_length.ensures.same ∙ c.in_ok-check_length.was) _ c.order_and_find.ensures _ c.in-Some.is

pub returns-in-None : goal.returns-in-None
returns-in-None c =
    nothing_opens _ _ _ _ _ _ _ (sym c.check_list.ensures.same ∙ c.in_ok-check_list.was)
    (sym c.check_length.ensures.same ∙ c.in_ok-check_length.was) _ c.order_and_find.ensures c.in-None.is
