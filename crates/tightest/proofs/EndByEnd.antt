-- The deadlines one by one, for every list with these lists.
use Prim.Native.Nat.{ℕ, ◌+◌}
use mathlib.Core.Path.{◌≡◌, sym, subst}
use mathlib.Core.List.{List}
use lib.ListN.{get_or}
use Rattle.sched.specs.Jobs.{Jobs}
use Rattle.orders.specs.Lists.{ListsOf, deadline_is}
use Rattle.tightest.specs.declared.Tight.{Tight}
use Rattle.tightest.specs.Search.{rather, Arranged, TightestTo}
use Rattle.tightest.proofs.Choosing.{BestTo, next_end}

-- the first j deadlines are done
pub record EndByEnd (releases deadlines volumes order : List ℕ) (x : Tight) (j : ℕ) : Type 0 where
  pub arranged : Arranged releases deadlines volumes order
  pub best : (J : Jobs) → ListsOf J releases deadlines volumes → BestTo J j x

module _ {releases deadlines volumes order : List ℕ} where
  pub ends_turn : {x y r : Tight} {j : ℕ} → EndByEnd releases deadlines volumes order x j →
      ((J : Jobs) → ListsOf J releases deadlines volumes → TightestTo J (get_or deadlines j 0) y) → r ≡ rather x y →
      EndByEnd releases deadlines volumes order r (j + 1)
  ends_turn {x = x} {y = y} {j = j} w t e =
      record {
        arranged = w.arranged;
        best = λ J p.
            subst (BestTo J (j + 1)) (sym e) (next_end J j x y (w.best J p) (subst (λ (b : ℕ). TightestTo J b y) (sym (deadline_is p j)) (t J p)));
      }
