-- `JobWindows::price` meets its contract: what is paid from the end of the window on is what its best end costs.
use Rattle.std.proofs.Common.{arith}
use Rattle.step2_skeleton.proofs.Pricing.{last_small, numbers_small, cost_small, rests_small, paid_behind, paid_most, priced_step}
use Rattle.step2_skeleton.proofs.JobWindows.price.Goals as goal

pub overflow_add-low : goal.overflow_add-low
overflow_add-low c = omega (arith, last_small c.requires.within c.requires.done c.args.self.now.placed)

pub sleep_cost-asleep-requires : goal.sleep_cost-asleep-requires
sleep_cost-asleep-requires c =
    numbers_small c.requires.within c.requires.done c.args.self.now.placed

pub overflow_add-low-2 : goal.overflow_add-low-2
overflow_add-low-2 c =
    let placed = c.args.self.now.placed in
    omega (arith, last_small c.requires.within c.requires.done placed, cost_small c.requires.within c.requires.done placed _ c.sleep_cost-asleep.ensures)

pub best_end-best-requires : goal.best_end-best-requires
best_end-best-requires c =
    rests_small c.requires.within c.requires.done c.args.self.now.placed

pub overflow_sub-value : goal.overflow_sub-value
overflow_sub-value c =
    omega (arith, paid_behind c.requires.within c.requires.done c.args.self.now.placed _ c.sleep_cost-asleep.ensures _ _ c.best_end-best.ensures)

pub overflow_add-self : goal.overflow_add-self
overflow_add-self c =
    omega (arith, paid_most c.requires.within c.requires.done c.args.self.now.placed _ c.sleep_cost-asleep.ensures _ _ c.best_end-best.ensures)

pub returns : goal.returns
returns c = priced_step c.requires.within c.requires.done _ c.sleep_cost-asleep.ensures _ _ c.best_end-best.ensures _ (omega (arith, c.args.self.now.few, c.args.prices.now.sized.0))
    (omega (arith, c.args.self.now.few, c.args.prices.now.sized.2)) c.wake_for.ensures.waked
