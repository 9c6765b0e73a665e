-- `find` meets its contract: the list checks decide, then 34, then the search.
use Rattle.std.proofs.Common.{rules, ◌≡◌, sym, subst, ◌∙◌, Err}
use Rattle.tightest.proofs.Answering.{Reports, refuse_list, refuse_empty, searchable, report_found}
use Rattle.tightest.proofs.find.Goals as goal

pub returns-in_err-check_list : goal.returns-in_err-check_list
returns-in_err-check_list c =
    let told : c.from_residual.result ≡ Err c.in_err-check_list.field-0.0 = search rules in
    subst (Reports _ _ _ _) (sym told) (refuse_list _ _ _ _ _ (sym c.check_list.ensures.same ∙ c.in_err-check_list.was))

pub returns-in_err-check_some : goal.returns-in_err-check_some
returns-in_err-check_some c =
    let told : c.from_residual-in_err-check_some.result ≡ Err c.in_err-check_some.field-0.0 = search rules in
    subst (Reports _ _ _ _) (sym told)
    (refuse_empty _ _ _ _ (sym c.check_list.ensures.same ∙ c.in_ok-check_list.was) _ (sym c.check_some.ensures.same ∙ c.in_err-check_some.was))

pub search-requires : goal.search-requires
search-requires c =
    searchable c.args.h _ _ _ (sym c.check_list.ensures.same ∙ c.in_ok-check_list.was) (sym c.check_some.ensures.same ∙ c.in_ok-check_some.was)

pub returns : goal.returns
returns c =
    report_found _ _ _ _ (sym c.check_list.ensures.same ∙ c.in_ok-check_list.was) (sym c.check_some.ensures.same ∙ c.in_ok-check_some.was) _
    c.search.ensures
