-- What both orders say of the jobs still to come, and of those with units left.
use Prim.Native.Nat.{ℕ, ◌≤◌, ◌<◌}
use mathlib.Core.Path.{◌≡◌, ap, ◌∙◌}
use mathlib.Core.Bool.{Bool, true}
use mathlib.Core.List.{List}
use mathlib.Core.Logic.{◌⊎◌, inl, inr}
use native.Mathlib.Decide.{dec_lt}
use native.Mathlib.Omega.{arith}
use lib.ListN.{length, get_or}
use Rattle.sched.specs.Jobs.{Jobs, jobs_from, count, release}
use Rattle.laws_edf.specs.Search.{state_of}
use Rattle.laws_edf.specs.Orders.{job_at}
use Rattle.queue.specs.Arrivals.{comes_at, waits}
use Rattle.step1_overload.specs.Pass.{NextComes, PassAt}
use Rattle.step1_overload.proofs.Waiting.{waits_if}
use Rattle.orders.specs.declared.ordered_jobs.OrderedJobs.{OrderedJobs}
use Rattle.step1_overload.specs.declared.Pass.{Pass}

-- a list with these lists
abbrev pub list_of : OrderedJobs → ℕ → ℕ → Bool → List ℕ → Jobs
list_of jobs h q start volumes = jobs_from h q start jobs.releases.now jobs.deadlines.now volumes

module _ {jobs : OrderedJobs} where
  -- the next release is not behind a later one
  coming_first :
      (next coming i : ℕ) → NextComes jobs next coming → next ≤ i → i < length jobs.releases.now →
      coming ≤ comes_at jobs.releases.now jobs.ranks.now jobs.arrivals.now i
  coming_first next coming i c l m = go (dec_lt next i)
    where
      go : Dec (next < i) → coming ≤ comes_at jobs.releases.now jobs.ranks.now jobs.arrivals.now i
      go (yes a) = omega (arith, c.here (omega arith), (jobs.orders.by_release.rising next i a m).sooner)
      go (no a) =
          let e : next ≡ i = omega arith in
          omega (arith, c.here (omega arith), ap (comes_at jobs.releases.now jobs.ranks.now jobs.arrivals.now) e)

-- job j has a rank that waits
pub record Waits (J : Jobs) (jobs : OrderedJobs) (left : List ℕ) (next j : ℕ) : Type 0 where
  pub rank : ℕ
  pub below : rank < count J
  pub job : job_at jobs.ranks.now rank ≡ j
  pub now : waits jobs.ranks.now jobs.arrivals.now next 0 (state_of left) rank ≡ true

module _ {jobs : OrderedJobs} {h q : ℕ} {start : Bool} {volumes left : List ℕ} {p : Pass} (s : PassAt (list_of jobs h q start volumes) jobs left p) where
  abbrev J : Jobs
  J = list_of jobs h q start volumes

  -- a job with units left waits, or comes later
  pub still : (j : ℕ) → j < count J → 0 < get_or left j 0 → Waits J jobs left p.next j ⊎ (p.coming ≤ release J j)
  still j l u = ranked (jobs.orders.by_deadline.all j l)
    where
      ranked : (i : ℕ) × (i < count J) × (job_at jobs.ranks.now i ≡ j) → Waits J jobs left p.next j ⊎ (p.coming ≤ release J j)
      ranked (i, m, q) = placed (jobs.orders.by_release.all i m)
        where
          placed : (at : ℕ) × (at < count J) × (get_or jobs.arrivals.now at 0 ≡ i) → Waits J jobs left p.next j ⊎ (p.coming ≤ release J j)
          placed (at, b, e) = go (dec_lt at p.next)
            where
              go : Dec (at < p.next) → Waits J jobs left p.next j ⊎ (p.coming ≤ release J j)
              go (yes h) = inl (record { rank = i; below = m; job = q; now = waits_if jobs.ranks.now jobs.arrivals.now p.next (state_of left) i at h e (rw q u) })
              go (no h) =
                  let later = coming_first p.next p.coming at s.coming_is (omega arith) b in
                  inr (omega (arith, later, ap (release J) (ap (job_at jobs.ranks.now) e ∙ q)))
