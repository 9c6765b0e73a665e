-- `JobWindows::mark` meets its contract: the runs of the priced windows are those of the least skeleton.
use Rattle.std.proofs.Common.{arith}
use Rattle.step2_skeleton.proofs.Marking.{zero_at, all_frontable, front_fits, all_marked}
use Rattle.step2_skeleton.proofs.JobWindows.mark.Goals as goal

pub price_all-requires : goal.price_all-requires
price_all-requires c = zero_at 64

pub front_end-front-requires : goal.front_end-front-requires
front_end-front-requires c = all_frontable c.args.self.now.placed _ _ _ c.price_all.ensures

pub fill-requires : goal.fill-requires
fill-requires c = (omega arith, front_fits c.args.self.now.placed _ _ _ c.price_all.ensures c.args.start c.front_end-front.ensures _ c.requires)

pub returns : goal.returns
returns c = all_marked c.args.self.now.placed _ _ _ c.price_all.ensures c.args.start c.front_end-front.ensures c.draw.new.table c.draw.ensures
