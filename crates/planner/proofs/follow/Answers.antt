-- `follow` meets its contract: each step hands the next what it asks for.
use Rattle.planner.proofs.Stepping.{markable, extendable, stepped}
use Rattle.planner.proofs.follow.Goals as goal

pub mark-requires : goal.mark-requires
mark-requires c = let a = c.args in (_, markable a.jobs.now a.h a.q a.start a.volumes.now _ c.requires)

pub extend-added-requires : goal.extend-added-requires
extend-added-requires c =
    let a = c.args in
    let m = c.mark.ensures _ (markable a.jobs.now a.h a.q a.start a.volumes.now _ c.requires) in
    (_, extendable a.jobs.now a.h a.q a.start a.volumes.now _ c.requires m)

pub returns : goal.returns
returns c =
    let a = c.args in
    let m = c.mark.ensures _ (markable a.jobs.now a.h a.q a.start a.volumes.now _ c.requires) in
    let x = c.extend-added.ensures _ (extendable a.jobs.now a.h a.q a.start a.volumes.now _ c.requires m) in
    stepped a.jobs.now a.h a.q a.start a.volumes.now _ c.requires x c.finish-cost.ensures
