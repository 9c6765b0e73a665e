-- `main` prints what the definition says of what it read; the parts of the lists that it lends lie in them.
use Rattle.std.proofs.Common.{sym, arith, length-take-le}
use Rattle.joblist.proofs.Theorems.Handed.{read_list, refused_list}
use Rattle.plan.proofs.Printing.{prints_refused, prints_plan}
use Rattle.plan.proofs.main.Goals as goal

pub print-requires : goal.print-requires
print-requires c =
    let e = c.in_default.is in
    prints_refused _ _ _ _ (refused_list _ _ _ _ _ _ _ _ c.read-read.ensures _ e) (c.put_refused-size.ensures _ e)

pub slice_bounds-releases-end : goal.slice_bounds-releases-end
slice_bounds-releases-end c = (read_list _ _ _ _ _ _ _ _ c.read-read.ensures _ c.in-Ok.is).releases

pub slice_bounds-plan-end : goal.slice_bounds-plan-end
slice_bounds-plan-end c = sym (length-take-le _ _ (read_list _ _ _ _ _ _ _ _ c.read-read.ensures _ c.in-Ok.is).releases)

pub slice_bounds-deadlines-end : goal.slice_bounds-deadlines-end
slice_bounds-deadlines-end c = (read_list _ _ _ _ _ _ _ _ c.read-read.ensures _ c.in-Ok.is).deadlines

pub slice_bounds-plan-end-2 : goal.slice_bounds-plan-end-2
slice_bounds-plan-end-2 c = sym (length-take-le _ _ (read_list _ _ _ _ _ _ _ _ c.read-read.ensures _ c.in-Ok.is).deadlines)

pub slice_bounds-volumes-end : goal.slice_bounds-volumes-end
slice_bounds-volumes-end c = (read_list _ _ _ _ _ _ _ _ c.read-read.ensures _ c.in-Ok.is).volumes

pub slice_bounds-plan-end-3 : goal.slice_bounds-plan-end-3
slice_bounds-plan-end-3 c = sym (length-take-le _ _ (read_list _ _ _ _ _ _ _ _ c.read-read.ensures _ c.in-Ok.is).volumes)

pub put_text-size-requires : goal.put_text-size-requires
put_text-size-requires c =
    let list = read_list _ _ _ _ _ _ _ _ c.read-read.ensures _ c.in-Ok.is in
    (list.high, omega (arith, c.large_buffer-text.ensures))

pub print-requires-2 : goal.print-requires-2
print-requires-2 c =
    let list = read_list _ _ _ _ _ _ _ _ c.read-read.ensures _ c.in-Ok.is in
    prints_plan _ _ _ _ _ _ list.passed list.jobs c.plan-outcome.ensures c.put_text-size.ensures
