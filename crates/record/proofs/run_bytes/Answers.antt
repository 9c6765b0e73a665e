-- `run_bytes` meets its contract: the part that `find_run` tells of, or none.
use Rattle.std.proofs.Common.{sym, ◌∙◌, arith}
use Rattle.record.proofs.OneRun.Laws.{part_within, part_small}
use Rattle.record.proofs.run_bytes.Goals as goal

pub overflow_add-result : goal.overflow_add-result
overflow_add-result c =
    omega (arith, part_small c.args.bytes.now c.args.k c.in-Ok.part (λ i. omega (arith, c.type_inv.bytes i)) (sym c.find_run.ensures.same ∙ c.in-Ok.is))

pub slice_bounds-result-end : goal.slice_bounds-result-end
slice_bounds-result-end c =
    omega (arith, part_within c.args.bytes.now c.args.k c.in-Ok.part (λ i. omega (arith, c.type_inv.bytes i)) (sym c.find_run.ensures.same ∙ c.in-Ok.is))
