-- What the two orders of a list are for: windows that end one behind the other, and falling releases from the back.
use Rattle.std.specs.Prelude.{ℕ, List, map, reverse}
use Rattle.std.proofs.Common.{sym, subst}
use Rattle.sched.specs.Jobs.{Jobs, count, release, deadline}
use Rattle.laws_edf.specs.Orders.{Orders, job_at}
use Rattle.laws_edf.proofs.Orders.Laws.{sorted_one}
use Rattle.laws_edf.specs.Overload.Order.{InOrder}
use Rattle.laws_skeleton.specs.Order.{Order}
use Rattle.orders.specs.Rising.Members.{rising_sorted}
use Rattle.orders.specs.Views.Falling.{in_order}
use Rattle.orders.specs.Views.Windows.{by_window_end}
pub mod Falling
pub mod Windows

module _ (J : Jobs) (ranks arrivals : List ℕ) (o : Orders J.releases J.deadlines ranks arrivals) where
  pub by_windows : Order J ranks
  by_windows = subst (Order J) (sym (sorted_one o.by_deadline (rising_sorted (deadline J) (count J)))) (by_window_end J)

  -- the jobs from the last release to the first
  pub by_falling_release : InOrder (release J) (count J) (reverse (map (job_at ranks) arrivals))
  by_falling_release =
      in_order (release J) (deadline J) (count J) ranks (sorted_one o.by_deadline (rising_sorted (deadline J) (count J))) arrivals
      (sorted_one o.by_release (rising_sorted (λ k. release J (job_at ranks k)) (count J)))
