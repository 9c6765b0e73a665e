-- The fronts of the two arrays, lent to be filled and read again.
use Rattle.std.specs.Prelude.{Option}
use Prim.Native.Nat.{ℕ, ◌≤◌}
use mathlib.Core.Path.{◌≡◌, refl, sym, subst}
use mathlib.Core.Bool.{Bool, false}
use mathlib.Core.List.{List, ◌++◌}
use native.Mathlib.Omega.{arith}
use lib.ListN.{length, take, drop}
use Rattle.sched.specs.Jobs.{jobs_from}
use Rattle.laws_edf.specs.Orders.{Orders}
use Rattle.orders.specs.Fronts.{front_length, front_filled}
use Rattle.orders.specs.Placing.{Places}
use Rattle.orders.specs.Lists.{ListsOf}
use Rattle.step1_overload.specs.Search.{Asked, Answers}
use Rattle.front.specs.Early.{Room, AllPass, InFront, Found}
use Rattle.sched.specs.declared.Interval.{Interval}
use Rattle.orders.specs.declared.ordered_jobs.OrderedJobs.{OrderedJobs}

module _ {h : ℕ} {rs ds ps : List ℕ} (p : AllPass h rs ds ps) where
  pub lists : (q : ℕ) (start : Bool) → ListsOf (jobs_from h q start rs ds ps) rs ds ps
  lists q start = record { passes = p q start; releases_are = refl; deadlines_are = refl; volumes_are = refl }

  module _ {ranks arrivals : List ℕ} (room : Room ranks arrivals) where
    pub few : length rs ≤ 64
    few = (p 0 false).few

    pub ranks_fit : length rs ≤ length ranks
    ranks_fit = omega (arith, few, room.ranks_long)

    pub arrivals_fit : length rs ≤ length arrivals
    arrivals_fit = omega (arith, few, room.arrivals_long)

    pub places : Places rs ds (take (length rs) ranks) (take (length rs) arrivals)
    places = record {
      few = few;
      same = (p 0 false).same_deadlines;
      ranks_long = sym (front_length (length rs) ranks ranks_fit);
      arrivals_long = sym (front_length (length rs) arrivals arrivals_fit);
    }

    -- the fronts are filled
    module _ {ranks' arrivals' : List ℕ} (a : length ranks' ≡ length (take (length rs) ranks)) (b : length arrivals' ≡ length (take (length rs) arrivals))
        (o : Orders rs ds ranks' arrivals') where
      pub in_front : Orders rs ds (take (length rs) (ranks' ++ drop (length rs) ranks)) (take (length rs) (arrivals' ++ drop (length rs) arrivals))
      in_front =
          subst (λ (l : List ℕ). Orders rs ds (take (length rs) (ranks' ++ drop (length rs) ranks)) l)
          (sym (front_filled (length rs) arrivals arrivals' arrivals_fit b))
          (subst (λ (l : List ℕ). Orders rs ds l arrivals') (sym (front_filled (length rs) ranks ranks' ranks_fit a)) o)

  pub asked : {jobs : OrderedJobs} → jobs.releases.now ≡ rs → jobs.deadlines.now ≡ ds → Asked jobs ps
  asked r d = record { J = jobs_from h 0 false rs ds ps; lists = record { passes = p 0 false; releases_are = sym r; deadlines_are = sym d; volumes_are = refl } }

  pub found : {ranks arrivals : List ℕ} {answer : Option Interval} → Answers h rs ds ps answer → InFront rs ds ranks arrivals → Found h rs ds ps answer ranks arrivals
  found answers o = record { shown = λ q start. (answers (jobs_from h q start rs ds ps) (lists q start) refl).same; orders = o }
