-- The arrays of 64 numbers, lent as far as there are jobs, and what joins the parts.
use Prim.Native.Nat.{ℕ, zero, suc, ◌-◌, ◌≤◌, min}
use mathlib.Core.Path.{◌≡◌, refl, sym, ap, ◌∙◌}
use mathlib.Core.Bool.{Bool, true, false}
use mathlib.Core.List.{List, ◌++◌, map}
use native.Mathlib.Nat.{sub-zero}
use native.Mathlib.Omega.{arith}
use lib.ListN.{length, get_or, take, drop, replicate, length-replicate}
use lib.Seq.{take_at}
use Rattle.sched.specs.Jobs.{Jobs, deadline}
use Rattle.steps.specs.Skeleton.{least_skeleton}
use Rattle.sched.specs.Checks.{Passes}
use Rattle.sched.specs.Buffers.{poured}
use Rattle.sched.specs.Slots.{idle}
use Rattle.laws_skeleton.specs.Order.{Order}
use Rattle.laws_skeleton.proofs.Order.Laws.{order_behind}
use Rattle.laws_skeleton.specs.Runs.{values, runs_of, first_end, run_up_to, runs_from_start, spread}
use Rattle.laws_skeleton.proofs.Runs.Clauses.{first_none, first_some}
use Rattle.laws_skeleton.proofs.Runs.Values.{run_end_inside}
use Rattle.laws_skeleton.proofs.Theorems.{start_runs_are_least}
use Rattle.step2_skeleton.specs.Marks.{marked}
use Rattle.step2_skeleton.specs.Places.{Windows, Placed, Source, PricedFrom, Frontable, FrontFrom, Drawable, Drawn, Markable, MarkedWindows}
use Rattle.orders.specs.Fronts.{blank, front_filled}
use Rattle.std.proofs.Math.Logic.{∥∥₁_elim}
use Rattle.std.proofs.Math.Bridge.{le_prop}
use Rattle.step2_skeleton.proofs.Sleeping.{starts_many}
use Rattle.step2_skeleton.proofs.Pricing.{ends_many, numbers_most, rests_most}

pub zero_at : (m k : ℕ) → ◌≡◌ {A = ℕ} (get_or (replicate m 0) k 0) 0
zero_at zero k = refl
zero_at (suc m) zero = refl
zero_at (suc m) (suc k) = zero_at m k

-- what stands in the first places of an array after a call that was lent them
abbrev pub filled_front : ℕ → List ℕ → List ℕ
filled_front n last = take n (last ++ drop n blank)

-- the run in front ends inside the horizon
first_inside : (J : Jobs) (b : Bool) (ranks : List ℕ) → Passes J → Order J ranks → first_end J b ranks (values J ranks) ≤ J.horizon
first_inside J false ranks p o = omega (arith, first_none J ranks (values J ranks))
first_inside J true ranks p o =
    omega (arith, first_some J ranks (values J ranks), run_end_inside J p ranks (values J ranks) 0 (order_behind J ranks o 0) (omega arith))

-- from the windows to the table
module _ {h q : ℕ} {starts ends : List ℕ} (source : ∥ Source h q starts ends ∥₁) (numbers rests untils : List ℕ)
    (u : PricedFrom h q starts ends numbers rests untils 0) where
  pub all_frontable : Frontable starts numbers rests
  all_frontable =
      record {
        numbers_small = λ k f l. ∥∥₁_elim source le_prop (λ o. numbers_most o.placed.windows o.placed.wake o.small 0 (u o.J o.ranks o.placed) k f l);
        rests_small = λ k f l. ∥∥₁_elim source le_prop (λ o. rests_most o.placed.windows o.placed.wake o.small 0 (u o.J o.ranks o.placed) k f l);
      }

  module _ (start : Bool) {first : ℕ} (f : FrontFrom q start starts numbers rests first) where
    first_is : (J : Jobs) (ranks : List ℕ) → Placed h q starts ends J ranks → first ≡ first_end J start ranks (values J ranks)
    first_is J ranks e =
        let d = u J ranks e in
        f J ranks e.wake e.windows.firsts d.behind d.asleep

    module _ (table : List ℕ) (long : length table ≡ h) where
      pub front_fits : first ≤ length table
      front_fits =
          ∥∥₁_elim source le_prop (λ o. let w = o.placed.windows in
          omega (arith, first_is o.J o.ranks o.placed, first_inside o.J start o.ranks w.passes w.serves, o.placed.horizon))

      pub all_drawable : (table' : List ℕ) → length table' ≡ length table → table' ≡ poured 0 first idle table
          → Drawable first h q starts ends untils table'
      all_drawable table' kept e = record {
        until = λ J ranks o. (u J ranks o).until;
        long = kept ∙ long;
        room = omega (arith, front_fits);
        drawn = ap (take first) (e ∙ ap (λ (n : ℕ). replicate n idle ++ drop first table) (sub-zero first))
            ∙ take_at (replicate first idle) (drop first table) first (length-replicate first idle);
      }

    pub all_marked : (table' : List ℕ) → Drawn first h q starts ends table' → MarkedWindows h q start starts ends table'
    all_marked table' d J ranks e begins =
        d J ranks e
        ∙ ap (λ (n : ℕ). marked (spread J.horizon 0 (run_up_to n (runs_of J n ranks (values J ranks))))) (first_is J ranks e)
        ∙ ap (λ (b : Bool). marked (spread J.horizon 0 (runs_from_start J b ranks (values J ranks)))) (sym begins)
        ∙ ap marked (start_runs_are_least J ranks e.windows.passes e.windows.serves)

-- from the lists to the windows
module _ {J : Jobs} {h q : ℕ} {start : Bool} {releases deadlines ranks table : List ℕ} (p : Markable J h q start releases deadlines ranks table) where
  pub ranks_few : length ranks ≤ 64
  ranks_few = omega (arith, p.many, p.passes.few)

-- the windows stand in the fronts of two arrays
module _ {h : ℕ} {releases deadlines ranks starts ends : List ℕ}
    (starts_kept : length starts ≡ length (take (length ranks) blank)) (ends_kept : length ends ≡ length (take (length ranks) blank))
    (s : starts ≡ map (λ j. get_or releases j 0 - 1) ranks) (e : ends ≡ map (λ j. min (get_or deadlines j 0) (h - 1)) ranks)
    {J : Jobs} {q : ℕ} {start : Bool} {table : List ℕ} (p : Markable J h q start releases deadlines ranks table) where
  windows : Windows (filled_front (length ranks) starts) (filled_front (length ranks) ends) J ranks
  windows =
      record {
        passes = p.passes;
        serves = p.serves;
        many = p.many;
        firsts = front_filled (length ranks) blank starts (ranks_few p) starts_kept ∙ s
            ∙ ap (λ (l : List ℕ). map (λ j. get_or l j 0 - 1) ranks) (sym p.releases_are);
        lasts = front_filled (length ranks) blank ends (ranks_few p) ends_kept ∙ e
            ∙ ap (λ (l : List ℕ). map (λ j. min (get_or l j 0) (h - 1)) ranks) (sym p.deadlines_are)
            ∙ ap (λ (n : ℕ). map (λ j. min (deadline J j) (n - 1)) ranks) (sym p.horizon_is);
      }

  placed : Placed h q (filled_front (length ranks) starts) (filled_front (length ranks) ends) J ranks
  placed = record { horizon = p.horizon_is; wake = p.wake_is; windows = windows }

  pub placed_few : length (filled_front (length ranks) starts) ≤ 64
  placed_few = omega (arith, starts_many J ranks (filled_front (length ranks) starts) windows.firsts, ranks_few p)

  pub placed_same : length (filled_front (length ranks) ends) ≡ length (filled_front (length ranks) starts)
  placed_same = ends_many (filled_front (length ranks) starts) (filled_front (length ranks) ends) J ranks windows

  pub all_placed : q ≤ 65535 → ∥ Source h q (filled_front (length ranks) starts) (filled_front (length ranks) ends) ∥₁
  all_placed small = ∣ record { small = small; J = J; ranks = ranks; placed = placed } ∣₁

  pub mark_ends : (table' : List ℕ) → MarkedWindows h q start (filled_front (length ranks) starts) (filled_front (length ranks) ends) table'
      → table' ≡ marked (least_skeleton J)
  mark_ends table' m = m J ranks placed p.start_is
