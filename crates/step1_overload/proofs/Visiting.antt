-- The visits, one by one: the start for an end is the one from the jobs still to be visited and the volumes so far.
use Prim.Native.Nat.{ℕ, ◌+◌, ◌-◌, ◌*◌, ◌≤◌, ◌<◌}
use mathlib.Core.Path.{◌≡◌, sym, ap, ◌∙◌}
use mathlib.Core.List.{List, ◌∷◌}
use native.Mathlib.Omega.{arith}
use lib.ListN.{length, get_or, take}
use Rattle.sched.specs.Jobs.{Jobs}
use Rattle.laws_edf.specs.Orders.{job_at}
use Rattle.laws_edf.specs.Overload.Search.{start_for, start_or}
use Rattle.orders.specs.declared.ordered_jobs.OrderedJobs.{OrderedJobs}
use Rattle.orders.specs.Lists.{ListsOf, release_is, deadline_is, volume_is}
use Rattle.step1_overload.specs.Search.{falling, Asked, StartFor}
use Rattle.step1_overload.proofs.Starts.{start_late, start_found, start_next, next_falling}

-- the first `at` ranks by release are still to be visited
pub record Visiting (jobs : OrderedJobs) (volumes : List ℕ) (b sum at : ℕ) : Type 0 where
  pub asked : Asked jobs volumes
  pub within : at ≤ length jobs.arrivals.now
  pub small : sum ≤ 65535 * (length jobs.arrivals.now - at)
  pub rest :
      (J : Jobs) → ListsOf J jobs.releases.now jobs.deadlines.now volumes →
      start_for J b (falling jobs.ranks.now jobs.arrivals.now) 0 ≡ start_for J b (falling jobs.ranks.now (take at jobs.arrivals.now)) sum

module _
    {jobs : OrderedJobs} {volumes : List ℕ} {b sum at : ℕ} (v : Visiting jobs volumes b sum at) where
  pub visit_end : at ≤ 0 → StartFor b jobs volumes 0
  unfolding start_for
  visit_end m J p = let z : at ≡ 0 = omega arith in sym (ap (start_or 0) (rw z at (v.rest J p)))

  module _ (more : 0 < at) where
    abbrev job : ℕ
    job = job_at jobs.ranks.now (get_or jobs.arrivals.now (at - 1) 0)

    first :
        (J : Jobs) → ListsOf J jobs.releases.now jobs.deadlines.now volumes →
        start_for J b (falling jobs.ranks.now jobs.arrivals.now) 0 ≡ start_for J b (job ∷ falling jobs.ranks.now (take (at - 1) jobs.arrivals.now)) sum
    first J p = v.rest J p ∙ ap (λ (l : List ℕ). start_for J b l sum) (next_falling jobs.ranks.now jobs.arrivals.now at more v.within)

    pub visit_late : b < get_or jobs.deadlines.now job 0 → Visiting jobs volumes b sum (at - 1)
    visit_late l =
        record {
          asked = v.asked;
          within = omega (arith, v.within);
          small = omega (arith, v.small, v.within);
          rest = λ J p. first J p ∙ start_late J b job (falling jobs.ranks.now (take (at - 1) jobs.arrivals.now)) sum (omega (arith, deadline_is p job));
        }

    pub visit_next :
        get_or jobs.deadlines.now job 0 ≤ b → get_or volumes job 0 < 65536 → sum + get_or volumes job 0 ≤ b - get_or jobs.releases.now job 0 →
        Visiting jobs volumes b (sum + get_or volumes job 0) (at - 1)
    visit_next l w m =
        record {
          asked = v.asked;
          within = omega (arith, v.within);
          small = omega (arith, v.small, v.within);
          rest = λ J p.
              first J p
              ∙ start_next J b job (falling jobs.ranks.now (take (at - 1) jobs.arrivals.now)) sum (omega (arith, deadline_is p job))
              (omega (arith, release_is p job, volume_is p job))
              ∙ ap (λ (x : ℕ). start_for J b (falling jobs.ranks.now (take (at - 1) jobs.arrivals.now)) (sum + x)) (volume_is p job);
        }

    pub visit_found :
        get_or jobs.deadlines.now job 0 ≤ b → b - get_or jobs.releases.now job 0 < sum + get_or volumes job 0 →
        StartFor b jobs volumes (get_or jobs.releases.now job 0)
    visit_found l m J p =
        sym (release_is p job)
        ∙ sym (ap (start_or 0) (first J p
        ∙ start_found J b job (falling jobs.ranks.now (take (at - 1) jobs.arrivals.now)) sum (omega (arith, deadline_is p job))
        (omega (arith, release_is p job, volume_is p job))))
