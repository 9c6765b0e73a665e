-- The least end and the greatest start for it are what is shown.
use Rattle.std.specs.Prelude.{None, Some}
use Prim.Native.Nat.{ℕ, ◌≤◌, ◌<◌}
use mathlib.Core.Path.{ap, ◌∙◌}
use mathlib.Core.List.{List}
use native.Mathlib.Omega.{arith}
use Rattle.sched.specs.Jobs.{Jobs}
use Rattle.sched.specs.declared.Interval.{Interval}
use Rattle.laws_edf.proofs.Overload.Search.Laws.{least_end_shown, no_end_shown}
use Rattle.orders.specs.declared.ordered_jobs.OrderedJobs.{OrderedJobs}
use Rattle.orders.specs.Lists.{ListsOf, orders_of}
use Rattle.orders.specs.Views.{by_falling_release}
use Rattle.step1_overload.specs.Search.{as_shown, falling, Answers, StartFor}
use Rattle.step1_overload.specs.Search.Laws.{shown_same}
use Rattle.step1_overload.specs.Pass.{LeastEnd}

module _
    (h : ℕ) (jobs : OrderedJobs) {volumes : List ℕ} {end : ℕ}
    (least : (J : Jobs) → ListsOf J jobs.releases.now jobs.deadlines.now volumes → LeastEnd J end) where
  pub shows_nothing : h < end → Answers h jobs.releases.now jobs.deadlines.now volumes None
  shows_nothing l J p e = shown_same (ap as_shown (no_end_shown J (λ a b o. (least J p).none a b (omega (arith, o.within)) o)))

  pub shows_at :
      end ≤ h → (start : ℕ) → StartFor end jobs volumes start → Answers h jobs.releases.now jobs.deadlines.now volumes (Some (record { a = start; b = end }))
  shows_at l start s J p e =
      let ends = least J p in
      let over = ends.some (omega arith) in
      let orders = orders_of p jobs.orders in
      let order = falling jobs.ranks.now jobs.arrivals.now in
      shown_same
      (ap (λ (a : ℕ). Some (shown a)) (s J p)
      ∙ ap as_shown (least_end_shown J p.passes order (by_falling_release J jobs.ranks.now jobs.arrivals.now orders) over.0 end over.1 ends.none))
    where
      shown : ℕ → Interval
      shown a = record { a = a; b = end }
