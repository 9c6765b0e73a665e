-- `check_each` meets its contract: a turn is a byte of the walk.
use Rattle.std.proofs.Common.{ℕ, ◌≡◌, ◌-◌}
use Rattle.sched.specs.Refusals.{Checked}
use Rattle.sched.specs.Checks.{ByteCheck, bytes_by}
use Rattle.sched.proofs.walks.check_each.Given as goal

abbrev pub invariant-loop-t : goal.invariant-loop-t
invariant-loop-t g l =
    (by : ByteCheck) → ((t byte : ℕ) (r : Checked) → goal.F-post g l.check t byte r → r ≡ by t byte) →
    bytes_by by (l.to - l.from) l.from l.bytes ≡ bytes_by by (l.to - l.t) l.t l.bytes
