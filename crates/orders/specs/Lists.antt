-- A list of jobs that passes the checks, known by its three lists. A function that sees only these promises for every list that has them.
use Rattle.std.specs.Prelude.{ℕ, ◌≡◌, List, get_or}
use Rattle.std.proofs.Common.{sym, ap, subst}
use Rattle.sched.specs.Jobs.{Jobs, release, deadline, volume}
use Rattle.sched.specs.Checks.{Passes}
use Rattle.laws_edf.specs.Orders.{Orders}

pub record ListsOf (J : Jobs) (releases deadlines volumes : List ℕ) : Type 0 where
  pub passes : Passes J
  pub releases_are : J.releases ≡ releases
  pub deadlines_are : J.deadlines ≡ deadlines
  pub volumes_are : J.volumes ≡ volumes

pub orders_of :
    {J : Jobs} {releases deadlines volumes ranks arrivals : List ℕ} → ListsOf J releases deadlines volumes →
    Orders releases deadlines ranks arrivals → Orders J.releases J.deadlines ranks arrivals
orders_of {J = J} {releases = releases} {ranks = ranks} {arrivals = arrivals} p o =
    subst (λ (l : List ℕ). Orders l J.deadlines ranks arrivals) (sym p.releases_are)
    (subst (λ (l : List ℕ). Orders releases l ranks arrivals) (sym p.deadlines_are) o)

module _ {J : Jobs} {releases deadlines volumes : List ℕ} (p : ListsOf J releases deadlines volumes) (j : ℕ) where
  pub release_is : release J j ≡ get_or releases j 0
  release_is = ap (λ (l : List ℕ). get_or l j 0) p.releases_are

  pub deadline_is : deadline J j ≡ get_or deadlines j 0
  deadline_is = ap (λ (l : List ℕ). get_or l j 0) p.deadlines_are

  pub volume_is : volume J j ≡ get_or volumes j 0
  volume_is = ap (λ (l : List ℕ). get_or l j 0) p.volumes_are
