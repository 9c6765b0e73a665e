-- `step3_extend::extend` meets its contract: with the run over the skeleton made and kept, what is left to do is to wake slots.
use Rattle.std.proofs.Common.{refl}
use Rattle.step3_extend.proofs.Beginning.{begin_runnable, begin_small, begin_done}
use Rattle.step3_extend.proofs.extend.Goals as goal

pub run-requires : goal.run-requires
run-requires c = begin_runnable c.requires.1 c.units-lost.ensures c.args.jobs.now refl

pub ends_of-ends-requires : goal.ends_of-ends-requires
ends_of-ends-requires c = begin_small c.requires.1 c.run.new.table c.run.auto.table

pub grow_by_rank-requires : goal.grow_by_rank-requires
grow_by_rank-requires c =
    let p = c.requires in
    (p.0, begin_done p.1 c.units-lost.ensures c.run.ensures c.ends_of-ends.ensures.long c.ends_of-ends.ensures.each c.lost_in_all-added.ensures)

pub returns : goal.returns
returns c =
    λ J g.
    c.grow_by_rank.ensures J
    (begin_done g c.units-lost.ensures c.run.ensures c.ends_of-ends.ensures.long c.ends_of-ends.ensures.each c.lost_in_all-added.ensures)
