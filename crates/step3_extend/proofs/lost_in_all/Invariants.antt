-- `step3_extend::lost_in_all` meets its contract: 64 numbers of 16 bits add up to fewer than 32.
use Rattle.std.proofs.Common.{◌≡◌, ◌*◌, ◌≤◌, take, sum}
use Rattle.step3_extend.proofs.lost_in_all.Given as goal

abbrev pub invariant-loop-units : goal.invariant-loop-units
invariant-loop-units l = (l.all ≡ sum (take l.units-index l.lost)) × (l.all ≤ 65535 * l.units-index)
