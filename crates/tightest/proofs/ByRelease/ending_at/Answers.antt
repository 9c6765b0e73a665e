-- `ending_at` meets its contract: a turn visits the last of the jobs that are left, and 64 volumes are far within 31 bits.
use mathlib.Core.Path.{sym, subst}
use lib.IntN.{ℤ}
use Rattle.tightest.specs.Search.{TightestTo}
use Rattle.tightest.proofs.Machine.{result_is}
use Rattle.tightest.proofs.Walking.{startable, known_at, due_at, volume_at, walking_start, walking_sum, walking_until, walking_place, walking_visit, walking_end}
use Rattle.std.proofs.Common.{rules}
use Rattle.tightest.proofs.ByRelease.ending_at.Goals as goal

pub count_before-n-requires : goal.count_before-n-requires
count_before-n-requires c = startable c.args.self.now.arranged c.requires

pub loop-at-init : goal.loop-at-init
loop-at-init c = walking_start c.args.self.now.arranged c.requires c.count_before-n.ensures c.release_at-last.ensures

pub bounds-self-job : goal.bounds-self-job
bounds-self-job c = known_at c.args.self.now.arranged _ (walking_place c.loop-at.invariant c.loop-at-test.true)

pub bounds-self-job-in-loop-at : goal.bounds-self-job-in-loop-at
bounds-self-job-in-loop-at c = due_at c.args.self.now.arranged _ (walking_place c.loop-at.invariant c.loop-at-test.true)

pub bounds-self-job-in-loop-at-2 : goal.bounds-self-job-in-loop-at-2
bounds-self-job-in-loop-at-2 c = volume_at c.args.self.now.arranged _ (walking_place c.loop-at.invariant c.loop-at-test.true)

pub visit-far-requires : goal.visit-far-requires
visit-far-requires c = walking_sum c.loop-at.invariant

pub loop-at-preserved : goal.loop-at-preserved
loop-at-preserved c =
    walking_visit c.loop-at.invariant c.loop-at-test.true (search rules) c.visit-far.ensures

pub slack_of-requires : goal.slack_of-requires
slack_of-requires c = walking_until c.loop-at.invariant

pub returns : goal.returns
returns c J p =
    let args = c.args in
    subst (λ (z : ℤ). TightestTo J args.b (record { slack = z; a = c.loop-at.far.a; b = args.b }))
    (sym (result_is c.slack_of.result _ c.slack_of.type_inv c.slack_of.ensures)) (walking_end c.loop-at.invariant c.loop-at-test.false J p)
