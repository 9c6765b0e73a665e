-- `read_table` meets its contract: 17 for the table, then map and slot bytes are lent to the pass that fills its first h bytes.
use Rattle.std.specs.Prelude.{Ok}
use mathlib.Core.Path.{◌≡◌, sym, ◌∙◌}
use native.Mathlib.Omega.{arith}
use lib.ListN.{length}
use Rattle.sched.specs.Checks.{length_check}
use Rattle.record.proofs.ReadAnswers.{fits}
use Rattle.record.proofs.read_table.Goals as goal

pub fill_table-requires : goal.fill_table-requires
fill_table-requires c =
    let room : length_check (length c.args.table.now) c.horizon-h.result ≡ (Ok tt) = sym c.check_length.ensures.same ∙ c.in_ok-check_length.was in
    fits c.args.bytes.now c.args.table.now c.requires _ c.horizon-h.ensures _ c.behind_map-behind.ensures room
    (λ i. omega (arith, c.type_inv.bytes i))
