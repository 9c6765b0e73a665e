-- `writer::Lists::size` meets its contract. The invariant: the sum so far, with the length of what is left, is the length of all.
use Prim.Native.Nat.{◌+◌, ◌*◌, ◌≤◌}
use mathlib.Core.Path.{◌≡◌}
use lib.ListN.{length, drop}
use Rattle.list_parts.specs.Header.{header_length}
use Rattle.joblist.specs.Bytes.{entries_bytes}
use Rattle.joblist.proofs.writer.Lists.size.Given as goal

abbrev pub invariant-loop-job : goal.invariant-loop-job
invariant-loop-job l = (l.n ≤ 5 + 7 * l.job) ×
    (l.n + length (entries_bytes l.self.h (drop l.job l.self.releases.now) (drop l.job l.self.deadlines.now) (drop l.job l.self.volumes.now)) ≡
    header_length + length (entries_bytes l.self.h l.self.releases.now l.self.deadlines.now l.self.volumes.now))
