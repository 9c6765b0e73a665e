-- The pass from its start to its end.
use Prim.Native.Nat.{ℕ, zero, suc, ◌*◌, ◌≤◌, ◌<◌}
use mathlib.Core.Path.{◌≡◌, refl, sym, ap, subst}
use mathlib.Core.Bool.{Bool}
use mathlib.Core.List.{List}
use native.Mathlib.Omega.{arith}
use lib.ListN.{get_or}
use Rattle.sched.specs.Bounded.{any_below, sum_below}
use Rattle.sched.specs.Jobs.{Jobs, count, volume}
use Rattle.sched.specs.Checks.{Passes}
use Rattle.laws_edf.specs.Run.{State}
use Rattle.laws_edf.specs.Search.{state_of}
use Rattle.laws_edf.specs.Orders.{job_at}
use Rattle.laws_edf.specs.Overload.Late.{Ran}
use Rattle.laws_edf.proofs.Overload.Late.Laws.{ran_start, ran_through}
use Rattle.queue.specs.Arrivals.{waits}
use Rattle.queue.specs.Mask.Laws.{mask_none}
use Rattle.queue.specs.Runs.{Units}
use Rattle.orders.specs.declared.ordered_jobs.OrderedJobs.{OrderedJobs}
use Rattle.step1_overload.specs.declared.Pass.{Pass}
use Rattle.step1_overload.proofs.ToCome.{list_of}
use Rattle.step1_overload.specs.Search.{Asked}
use Rattle.step1_overload.specs.Pass.{never, NextComes, PassAt, Passing, LeastEnd}

sum_most : (n : ℕ) (f : ℕ → ℕ) → ((j : ℕ) → f j < 65536) → sum_below n f ≤ n * 65535
unfolding sum_below
sum_most zero f h = omega arith
sum_most (suc n) f h = omega (arith, sum_most n f h, h n)

-- before slot 0 no rank has come
pass_start :
    {jobs : OrderedJobs} (h q : ℕ) (start : Bool) {volumes left : List ℕ} {coming : ℕ} → Passes (list_of jobs h q start volumes) →
    Units volumes left → NextComes jobs 0 coming → ((j : ℕ) → get_or volumes j 0 < 65536) →
    PassAt (list_of jobs h q start volumes) jobs left (record { t = 0; waiting = 0; next = 0; coming = coming; end = 65535 })
unfolding any_below
pass_start {jobs = jobs} h q start {volumes = volumes} {left = left} p u c small =
    let J = list_of jobs h q start volumes in
    record {
      passes = p;
      long = u.long;
      came = record {
        most = omega arith;
        bits_are = sym (mask_none (waits jobs.ranks.now jobs.arrivals.now 0 0 (state_of left)) (count J) (λ k. refl));
        by_now = λ i l. absurd (omega arith);
      };
      coming_is = c;
      ahead = omega arith;
      fresh = λ i l m.
          let j = jobs.orders.by_deadline.known (get_or jobs.arrivals.now i 0) (jobs.orders.by_release.known i m) in
          omega (arith, ap (λ (f : State). f (job_at jobs.ranks.now (get_or jobs.arrivals.now i 0))) u.same, (p.good _ j).some);
      ran = subst (λ (L : State). Ran J L 0 65535) (sym u.same) (ran_start J 65535 (omega (arith, p.high)));
      small = λ l. omega (arith, ap (sum_below (count J)) u.same);
      few = omega (arith, sum_most (count J) (volume J) small, p.few);
      done = λ l. absurd (omega arith);
    }

module _ {jobs : OrderedJobs} {volumes : List ℕ} (asked : Asked jobs volumes) where
  pub passes_start :
      {left : List ℕ} {coming : ℕ} → Units volumes left → NextComes jobs 0 coming → ((j : ℕ) → get_or volumes j 0 < 65536) →
      Passing jobs volumes left (record { t = 0; waiting = 0; next = 0; coming = coming; end = 65535 })
  passes_start {left = left} {coming = coming} u c small J p =
      let same : list_of jobs J.horizon J.wake J.start volumes ≡ J =
      λ i. record { horizon = J.horizon; wake = J.wake; start = J.start; releases = sym p.releases_are i; deadlines = sym p.deadlines_are i; volumes = sym p.volumes_are i } in
      subst (λ (K : Jobs). PassAt K jobs left (record { t = 0; waiting = 0; next = 0; coming = coming; end = 65535 })) same
      (pass_start J.horizon J.wake J.start (subst Passes (sym same) p.passes) u c small)

pub pass_end : {J : Jobs} {jobs : OrderedJobs} {left : List ℕ} {pass : Pass} → PassAt J jobs left pass → never ≤ pass.t → LeastEnd J pass.end
pass_end s l = record { none = ran_through _ _ _ _ s.ran (s.done l); some = s.ran.late }
