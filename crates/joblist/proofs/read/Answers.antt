-- `read` meets its contract: the checks before the entries decide, then what fills the three lists.
use Rattle.std.proofs.Common.{◌≡◌, Err, rules}
use Rattle.joblist.proofs.Promises.{read_accepted, read_refused, front_refused}
use Rattle.joblist.proofs.read.Goals as goal

pub returns-in_err-check : goal.returns-in_err-check
returns-in_err-check c =
    let a = c.args in
    let told : c.from_residual.result ≡ Err c.in_err-check.field-0.0 = search rules in
    rw told
    (front_refused a.bytes.now a.releases.now a.deadlines.now a.volumes.now c.check.result c.check.ensures _ c.in_err-check.was)

pub returns-in_err-fill : goal.returns-in_err-fill
returns-in_err-fill c =
    let a = c.args in
    let told : c.from_residual-in_err-fill.result ≡ Err c.in_err-fill.field-0.0 = search rules in
    rw told
    (read_refused a.bytes.now a.releases.now a.deadlines.now a.volumes.now c.check.result c.check.ensures c.in_ok-check.was
    c.header-list.result c.header-list.ensures _ _ _ c.fill.result c.fill.ensures _ c.in_err-fill.was)

pub returns : goal.returns
returns c =
    let a = c.args in
    read_accepted a.bytes.now a.releases.now a.deadlines.now a.volumes.now c.check.result c.check.ensures c.in_ok-check.was
    c.header-list.result c.header-list.ensures _ _ _ c.fill.result c.fill.ensures c.in_ok-fill.was
