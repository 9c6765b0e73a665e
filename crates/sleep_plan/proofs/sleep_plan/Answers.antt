-- `sleep_plan` meets its contract: a short block, a list that is refused, a list that is planned.
use mathlib.Core.Path.{sym}
use native.Mathlib.Omega.{arith}
use lib.Seq.{length-take-le}
use Rattle.joblist.proofs.Theorems.Handed.{read_list, refused_list}
use Rattle.sleep_plan.proofs.Stores.{refused_puts}
use Rattle.sleep_plan.proofs.Promised.{promise_short, promise_refused, promise_planned}
use Rattle.sleep_plan.proofs.sleep_plan.Goals as goal

pub returns-then-block-lt16 : goal.returns-then-block-lt16
returns-then-block-lt16 c =
    let a = c.args in
    promise_short a.list.now a.table.now a.block.now c.if-block-lt16.true

pub returns-in_default : goal.returns-in_default
returns-in_default c =
    let a = c.args in
    let e = c.in_default.is in
    promise_refused a.list.now a.table.now a.block.now _ _ _ c.if-block-lt16.false
    (refused_list a.list.now _ _ _ _ _ _ _ c.read-read.ensures _ e)
    (refused_puts a.block.now _ _ _ _ e c.put_refused.ensures)

pub slice_bounds-releases-end : goal.slice_bounds-releases-end
slice_bounds-releases-end c = (read_list c.args.list.now _ _ _ _ _ _ _ c.read-read.ensures _ c.in-Ok.is).releases

pub slice_bounds-plan-end : goal.slice_bounds-plan-end
slice_bounds-plan-end c = sym (length-take-le _ _ (read_list c.args.list.now _ _ _ _ _ _ _ c.read-read.ensures _ c.in-Ok.is).releases)

pub slice_bounds-deadlines-end : goal.slice_bounds-deadlines-end
slice_bounds-deadlines-end c = (read_list c.args.list.now _ _ _ _ _ _ _ c.read-read.ensures _ c.in-Ok.is).deadlines

pub slice_bounds-plan-end-2 : goal.slice_bounds-plan-end-2
slice_bounds-plan-end-2 c = sym (length-take-le _ _ (read_list c.args.list.now _ _ _ _ _ _ _ c.read-read.ensures _ c.in-Ok.is).deadlines)

pub slice_bounds-volumes-end : goal.slice_bounds-volumes-end
slice_bounds-volumes-end c = (read_list c.args.list.now _ _ _ _ _ _ _ c.read-read.ensures _ c.in-Ok.is).volumes

pub slice_bounds-plan-end-3 : goal.slice_bounds-plan-end-3
slice_bounds-plan-end-3 c = sym (length-take-le _ _ (read_list c.args.list.now _ _ _ _ _ _ _ c.read-read.ensures _ c.in-Ok.is).volumes)

pub returns : goal.returns
returns c =
    let a = c.args in
    let l = read_list a.list.now _ _ _ _ _ _ _ c.read-read.ensures _ c.in-Ok.is in
    promise_planned a.list.now a.table.now a.block.now _ _ _ _ _
    (λ i. omega (arith, c.type_inv.list i)) c.if-block-lt16.false l.passed l.jobs
    c.plan-outcome.ensures c.put_outcome.ensures
