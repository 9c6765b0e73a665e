-- By deadline, the jobs are in an order that the skeleton's runs can take: a window that ends later has no earlier deadline.
use Rattle.std.specs.Prelude.{ℕ, List, [], ◌∷◌}
use Rattle.std.proofs.Common.{arith}
use Rattle.sched.specs.Jobs.{Jobs, count, deadline}
use Rattle.laws_skeleton.specs.Order.{Order, Rising}
use Rattle.laws_edf.specs.Orders.{Before}
use Rattle.orders.specs.Rising.{rising_by}
use Rattle.orders.specs.Rising.Laws.{Rises, rising_rises}
use Rattle.orders.specs.Rising.Members.{each_among, rising_all, rising_listed}

module _ (J : Jobs) where
  rises_rising : (l : List ℕ) → Rises (deadline J) l → Rising J l
  rises_rising [] r = tt
  rises_rising (x ∷ l) (f, r) =
      (λ k m. omega (arith, (each_among (Before (deadline J) x) l f k m).sooner), rises_rising l r)

  pub by_window_end : Order J (rising_by (deadline J) (count J))
  by_window_end =
      record {
        rising = rises_rising (rising_by (deadline J) (count J)) (rising_rises (deadline J) (count J));
        listed = rising_listed (deadline J) (count J);
        all = rising_all (deadline J) (count J);
      }
