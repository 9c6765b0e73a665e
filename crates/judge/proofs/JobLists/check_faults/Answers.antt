-- `JobLists::check_faults` meets its contract: the pass keeps `Walk`, and the counters are what 24 asks for.
use Rattle.std.proofs.Common.{◌≡◌, ◌∙◌, arith, rules, sym, Err}
use Rattle.judge.proofs.Walk.{walk_start, walk_job, walk_other, walk_stop, walk_fits, walk_end}
use Rattle.judge.proofs.JobLists.check_faults.Goals as goal
use Rattle.judge.proofs.JobLists.check_faults.Goals.{then-job-self, else-job-self}

pub loop-t-init : goal.loop-t-init
loop-t-init c = walk_start _ _ _ _ c.args.self.now.sized

pub returns-in_err-check_slot : goal.returns-in_err-check_slot
returns-in_err-check_slot c =
    let told : c.from_residual.result ≡ Err c.in_err-check_slot.field-0.0 = search rules in
    told
    ∙ walk_stop _ _ _ _ _ _ c.loop-t.invariant _ c.loop-t-test.true (sym c.check_slot.ensures ∙ c.in_err-check_slot.was)

pub overflow_add-named : goal.overflow_add-named
overflow_add-named c = omega (arith, walk_fits _ _ _ _ _ _ c.loop-t.invariant c.loop-t-test.true c.if-job-self.true)

pub loop-t-preserved : goal.loop-t-preserved
loop-t-preserved c =
    let passed = sym c.check_slot.ensures ∙ c.in_ok-check_slot.was in
    let walk = c.loop-t.invariant in
    elim c.if-job-self.branch [
      | then-job-self w ↦ rw w.named-is (walk_job _ _ _ _ _ _ walk c.args.self.now.sized c.loop-t-test.true w.if-job-self.true passed)
      | else-job-self w ↦ rw w.named-is (walk_other _ _ _ _ _ _ walk c.loop-t-test.true w.if-job-self.false passed)
    ]

pub returns : goal.returns
returns c = c.check_named.ensures ∙ walk_end _ _ _ _ _ _ c.loop-t.invariant c.args.self.now.sized c.loop-t-test.false
