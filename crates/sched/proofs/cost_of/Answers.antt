-- `sched::cost_of` meets its contract: each turn counts one slot more, and nothing overflows since there are few slots and runs.
use Prim.Native.Nat.{◌≤◌}
use native.Mathlib.Omega.{arith}
use Rattle.std.proofs.Common.{rules}
use Rattle.sched.proofs.Tally.{tally_asleep, tally_goes_on, tally_begins, tally_awake_few, tally_runs_few, tally_end, wakes_few, cost_fits, figures_are}
use Rattle.sched.proofs.cost_of.Goals as goal
use Rattle.sched.proofs.cost_of.Goals.{then-byte, else-byte+then-on, else-byte+else-on}

pub overflow_add-awake : goal.overflow_add-awake
overflow_add-awake c = omega (arith, tally_awake_few _ _ _ _ _ c.loop-byte.invariant c.requires)

pub overflow_add-awake-else-on : goal.overflow_add-awake-else-on
overflow_add-awake-else-on c = omega (arith, tally_awake_few _ _ _ _ _ c.loop-byte.invariant c.requires)

pub overflow_add-runs : goal.overflow_add-runs
overflow_add-runs c = omega (arith, tally_runs_few _ _ _ _ _ c.loop-byte.invariant c.requires)

pub loop-byte-preserved : goal.loop-byte-preserved
loop-byte-preserved c =
    let far = c.loop-byte.invariant in
    let here = c.loop-byte-test.true in
    elim c.if-byte.branch [
      | then-byte w ↦ rw (w.awake-is, w.runs-is, w.on-is) (tally_asleep _ _ _ _ _ far here w.if-byte.true)
      | else-byte+then-on w ↦ rw (w.awake-is, w.runs-is, w.on-is) (tally_goes_on _ _ _ _ _ far here w.if-byte.false w.if-on.true)
      | else-byte+else-on w ↦ rw (w.awake-is, w.runs-is, w.on-is) (tally_begins _ _ _ _ _ far here w.if-byte.false w.if-on.false)
    ]

pub paid-wakes-requires : goal.paid-wakes-requires
paid-wakes-requires c = (tally_end _ _ _ _ _ c.loop-byte.invariant c.loop-byte-test.false).1

pub overflow_mul-result : goal.overflow_mul-result
overflow_mul-result c =
    let few_wakes : c.paid-wakes.result ≤ 2048 = let a = c.args in omega (arith, c.paid-wakes.ensures, wakes_few a.start a.table.now c.requires) in
    omega (arith, cost_fits c.args.q c.paid-wakes.result (search rules) (few_wakes))

pub overflow_add-result : goal.overflow_add-result
overflow_add-result c =
    let few_wakes : c.paid-wakes.result ≤ 2048 = let a = c.args in omega (arith, c.paid-wakes.ensures, wakes_few a.start a.table.now c.requires) in
    omega (arith, cost_fits c.args.q c.paid-wakes.result (search rules) (few_wakes), tally_awake_few _ _ _ _ _ c.loop-byte.invariant c.requires)

pub returns : goal.returns
returns c =
    λ J w s.
    let a = c.args in
    let counted = c.loop-byte in
    figures_are J a.table.now a.q counted.awake counted.runs c.paid-wakes.result a.start (tally_end _ _ _ _ _ counted.invariant c.loop-byte-test.false) c.paid-wakes.ensures w s
