-- `JobWindows::price_all` meets its contract: a turn prices one place more, from the last to the first.
use Rattle.std.proofs.Common.{arith}
use Rattle.step2_skeleton.proofs.Pricing.{none_priced}
use Rattle.step2_skeleton.proofs.JobWindows.price_all.Goals as goal

pub loop-i-init : goal.loop-i-init
loop-i-init c = none_priced _ _ _ (omega (arith, c.args.self.now.few, c.args.prices.now.sized.0)) c.requires
