-- `has_padding` meets its contract: the bits passed are all 0.
use Prim.Native.Nat.{ℕ, ◌*◌, ◌<◌}
use mathlib.Core.Path.{sym, ◌∙◌}
use mathlib.Core.List.{List}
use native.Mathlib.Omega.{arith}
use lib.ListN.{length}
use Rattle.record_map.specs.MapBits.{bits_of}
use Rattle.record_map.proofs.MapBits.Laws.{length_bits}
use Rattle.record_map.proofs.MapRead.{padding_clear, padding_stands, padding_end}
use Rattle.record_map.proofs.reader.has_padding.Goals as goal

within : (bits : List ℕ) (t : ℕ) → t < 8 * length bits → t < length (bits_of bits)
within bits t l = omega (arith, length_bits bits)

pub returns-then-is_awake : goal.returns-then-is_awake
returns-then-is_awake c =
    let bits = c.args.bits.now in
    sym (c.loop-t.invariant ∙ padding_stands (bits_of bits) c.loop-t.t (within bits _ c.loop-t-test.true) (sym c.is_awake.ensures ∙ c.if-is_awake.true))

pub loop-t-preserved : goal.loop-t-preserved
loop-t-preserved c =
    let bits = c.args.bits.now in
    c.loop-t.invariant ∙ padding_clear (bits_of bits) c.loop-t.t (within bits _ c.loop-t-test.true) (sym c.is_awake.ensures ∙ c.if-is_awake.false)

pub returns : goal.returns
returns c =
    let bits = c.args.bits.now in
    sym (c.loop-t.invariant ∙ padding_end (bits_of bits) c.loop-t.t (omega (arith, length_bits bits, c.loop-t-test.false)))
