-- `check_each` meets its contract: a turn is a byte of the walk.
use Rattle.std.specs.Prelude.{Err}
use Rattle.std.proofs.Common.{rules, sym, ◌≡◌, ◌∙◌}
use Rattle.sched.proofs.Checks.Bytes.{byte_passed, byte_refused, bytes_passed}
use Rattle.sched.proofs.walks.check_each.Goals as goal

pub loop-t-preserved : goal.loop-t-preserved
loop-t-preserved g c by f =
    byte_passed by _ _ _ _ (c.loop-t.invariant by f) c.loop-t-test.true (sym (f _ _ _ c.check.ensures) ∙ c.in_ok-check.was)

pub returns-in_err-check : goal.returns-in_err-check
returns-in_err-check g c by f =
    let told : c.from_residual.result ≡ Err c.in_err-check.field-0.0 = search rules in
    told ∙ byte_refused by _ _ _ _ (c.loop-t.invariant by f) _ c.loop-t-test.true (sym (f _ _ _ c.check.ensures) ∙ c.in_err-check.was)

pub returns : goal.returns
returns g c by f = bytes_passed by _ _ _ _ (c.loop-t.invariant by f) c.loop-t-test.false
