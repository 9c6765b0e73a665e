-- `size` meets its contract: one digit more than the logarithm, which is known of few digits without asking for it.
use Rattle.std.proofs.Common.{arith, sym}
use Rattle.decimal.specs.Decimal.Laws.{length_low, length_by_log}
use Rattle.decimal.proofs.size.Goals as goal

pub returns-in-0-to-9 : goal.returns-in-0-to-9
returns-in-0-to-9 c = sym (length_low _ (omega (arith, c.in-0-to-9)))

pub returns-in-10-to-99 : goal.returns-in-10-to-99
returns-in-10-to-99 c = length_by_log 1 _ (omega (arith, c.in-10-to-99)) (omega (arith, c.in-10-to-99)) c.ranges.x.fits

pub returns-in-100-to-999 : goal.returns-in-100-to-999
returns-in-100-to-999 c = length_by_log 2 _ (omega (arith, c.in-100-to-999)) (omega (arith, c.in-100-to-999)) c.ranges.x.fits

pub returns-in-1000-to-9999 : goal.returns-in-1000-to-9999
returns-in-1000-to-9999 c = length_by_log 3 _ (omega (arith, c.in-1000-to-9999)) (omega (arith, c.in-1000-to-9999)) c.ranges.x.fits

pub returns-in_default : goal.returns-in_default
returns-in_default c =
    let log = c.ilog10.ensures in
    length_by_log _ _ log.power_le log.next_power_gt c.ranges.x.fits
