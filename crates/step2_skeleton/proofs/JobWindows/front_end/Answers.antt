-- `JobWindows::front_end` meets its contract: a run from before slot 0 may end at once, and else ends where any run is best ended.
use Rattle.step2_skeleton.proofs.Pricing.{front_none, front_some}
use Rattle.step2_skeleton.proofs.JobWindows.front_end.Goals as goal

pub returns-then-start : goal.returns-then-start
returns-then-start c =
    front_some c.args.self.now.q c.args.start c.args.self.now.starts.now c.args.prices.now.values c.args.prices.now.rests c.sleep_cost-asleep.result
    c.best_end-best.result.end c.best_end-best.result.through c.if-start.true c.sleep_cost-asleep.ensures c.best_end-best.ensures

pub returns : goal.returns
returns c = front_none c.args.self.now.q c.args.start c.args.self.now.starts.now c.args.prices.now.values c.args.prices.now.rests c.if-start.false
