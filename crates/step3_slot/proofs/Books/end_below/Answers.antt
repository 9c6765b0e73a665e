-- `end_below` meets its contract: it scans downwards as `end_below` does, and a slot that holds the byte stays below.
use Rattle.laws_extension.specs.Chain.Ends.{scan_turn, scan_found, scan_above}
use Rattle.step3_slot.specs.Books.{Stops}
use lib.ListN.{get_or}
use Prim.Native.Nat.{ℕ, ◌-◌, ◌<◌}
use native.Mathlib.Omega.{arith}
use mathlib.Core.List.{List}
use mathlib.Core.Logic.{◌≢◌}
use mathlib.Core.Path.{sym}
use Rattle.step3_slot.proofs.Books.end_below.Goals as goal

some_left : {j s : ℕ} {table : List ℕ} → Stops j s table → 0 < s
some_left c = omega (arith, c.lower)

stops_lower : {j s : ℕ} {table : List ℕ} → Stops j s table → get_or table (s - 1) 0 ≢ j → Stops j (s - 1) table
stops_lower {j} {s} {table} c f =
    record {
      within = omega (arith, c.within);
      slot = c.slot;
      lower = scan_above j table s c.slot c.lower c.holds f;
      holds = c.holds;
    }

pub loop-s-preserved : goal.loop-s-preserved
loop-s-preserved c =
    let inv = c.loop-s.invariant in
    (stops_lower inv.0 c.loop-s-test.true, scan_turn _ _ _ _ (some_left inv.0) c.loop-s-test.true inv.1)

pub returns : goal.returns
returns c =
    let inv = c.loop-s.invariant in
    sym (scan_found _ _ _ _ (some_left inv.0) c.loop-s-test.false inv.1)
