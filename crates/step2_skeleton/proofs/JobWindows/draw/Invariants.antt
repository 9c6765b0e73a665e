-- `JobWindows::draw` meets its contract: what is drawn so far and the runs still to come are the whole set.
use Rattle.step2_skeleton.proofs.Drawing.{Drawing}
use Rattle.step2_skeleton.proofs.JobWindows.draw.Given as goal

abbrev pub invariant-loop-i : goal.invariant-loop-i
invariant-loop-i l = Drawing l.front l.self.h l.self.q l.self.starts.now l.self.ends.now l.initial.table l.table l.s l.i
