-- `JobWindows::price_all` meets its contract: a turn prices one place more, from the last to the first.
use Rattle.step2_skeleton.specs.Places.{PricedFrom}
use Rattle.step2_skeleton.proofs.JobWindows.price_all.Given as goal

abbrev pub invariant-loop-i : goal.invariant-loop-i
invariant-loop-i l = PricedFrom l.self.h l.self.q l.self.starts.now l.self.ends.now l.prices.values l.prices.rests l.prices.untils l.i
