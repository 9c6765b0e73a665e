-- `least_end` meets its contract: each turn is one event further, until the slot behind every other.
use native.Mathlib.Omega.{arith}
use Rattle.step1_overload.proofs.Passing.{passes_start, pass_end}
use Rattle.step1_overload.proofs.least_end.Goals as goal

pub loop-pass-init : goal.loop-pass-init
loop-pass-init c = passes_start c.requires c.units-left.ensures c.comes_at.ensures (λ j. omega (arith, c.type_inv.volumes j))

pub returns : goal.returns
returns c J p = pass_end (c.loop-pass.invariant J p) c.loop-pass-test.false
