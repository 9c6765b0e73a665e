-- `check_body` meets its contract: behind a whole map without padding it asks for the slot bytes.
use native.Mathlib.Omega.{arith}
use Rattle.record_parts.proofs.Checking.{count_few, body_rest}
use Rattle.record_parts.proofs.reader.check_body.Goals as goal

pub check_slot_bytes-requires : goal.check_slot_bytes-requires
check_slot_bytes-requires c = (
  omega (arith, c.behind_map-behind.ensures, c.requires),
  count_few c.args.h _ c.args.bytes.now c.behind_map-behind.ensures c.if-bytes-behind.false _ c.has_padding.ensures _ c.count.ensures c.requires
      (λ i. omega (arith, c.type_inv.bytes i)),
)

pub returns : goal.returns
returns c =
    let a = c.args in
    body_rest a.h _ a.bytes.now c.behind_map-behind.ensures c.if-bytes-behind.false _ c.has_padding.ensures _ c.count.ensures c.if-has_padding.false
    _ c.check_slot_bytes.ensures
