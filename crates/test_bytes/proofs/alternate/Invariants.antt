-- `test_bytes::alternate` meets its contract: before slot i all slots are as they should be.
use Rattle.std.proofs.Common.{◌≡◌, ◌-◌, ◌++◌, length, take}
use Rattle.test_bytes.specs.Bytes.{turns_from}
use Rattle.test_bytes.proofs.alternate.Given as goal

abbrev pub invariant-loop-i : goal.invariant-loop-i
invariant-loop-i l = take l.i l.t ++ turns_from (length l.t - l.i) l.i ≡ turns_from (length l.initial.t) 0
