-- The books by rank, gathered from those by job.
use Prim.Native.Nat.{ℕ, ◌+◌, ◌≤◌, ◌<◌}
use mathlib.Core.Path.{◌≡◌, ap, sym, subst, ◌∙◌}
use mathlib.Core.List.{List}
use native.Mathlib.Omega.{arith}
use native.Mathlib.Decide.{ℕ_discrete}
use lib.ListN.{length, get_or, set, take, length-set}
use lib.Seq.{get_or-set_same, get_or-set_other, get_or-take, length-take-le}
use Rattle.sched.specs.Jobs.{Jobs, count}
use Rattle.laws_edf.specs.Orders.{job_at}
use Rattle.laws_extension.specs.Chain.Start.{reach_of, by_rank_start}
use Rattle.orders.specs.Placing.{ByPlace}
use Rattle.step3_extend.specs.Turns.{Growing}
use Rattle.step3_extend.specs.Beginning.{Begun, ReachOf}

-- the reaches of the first k ranks are written
pub record Reaching (deadlines lost ends reach : List ℕ) (k : ℕ) : Type 0 where
  pub within : k ≤ 64
  pub done : ReachOf deadlines lost ends reach k

module _ (deadlines lost ends reach : List ℕ) where
  pub reaching_start : length reach ≡ 64 → Reaching deadlines lost ends reach 0
  reaching_start c = record { within = omega arith; done = record { long = c; each = λ i l. absurd (omega arith) } }

  module _ (k v : ℕ) (l : k < 64) (e : v ≡ reach_of (get_or lost k 0) (get_or ends k 0) (get_or deadlines k 0))
      (r : Reaching deadlines lost ends reach k) where
    pub reaching_turn : Reaching deadlines lost ends (set reach k v) (k + 1)
    reaching_turn =
        record {
          within = omega arith;
          done = record { long = length-set reach k v ∙ r.done.long; each = λ i m. go i m (ℕ_discrete i k) };
        }
      where
        go : (i : ℕ) → i < k + 1 → Dec (i ≡ k) → get_or (set reach k v) i 0 ≡ reach_of (get_or lost i 0) (get_or ends i 0) (get_or deadlines i 0)
        go i m (yes q) = rw q (get_or-set_same reach k v 0 (omega (arith, r.done.long)) ∙ e)
        go i m (no q) = get_or-set_other reach k i v 0 q ∙ r.done.each i (omega arith)

  pub reaching_end : (k : ℕ) → 64 ≤ k → Reaching deadlines lost ends reach k → ReachOf deadlines lost ends reach 64
  reaching_end k l r = let q : k ≡ 64 = omega (arith, r.within) in rw (← q) r.done

module _ {J : Jobs} {releases deadlines ranks lost ends table : List ℕ} {short : ℕ} (b : Begun J releases deadlines ranks lost ends table short) where
  -- what is asked before a list is gathered
  pub room : length ranks ≤ 64
  room = omega (arith, b.many, b.way.passes.few)

-- the five arrays, with the numbers of the ranks in front
module _ {releases deadlines ranks lost ends : List ℕ} {n : ℕ}
    (n_is : n ≡ length ranks) {rank_releases rank_deadlines rank_lost rank_ends reach : List ℕ}
    (releases_by : ByPlace releases ranks rank_releases) (deadlines_by : ByPlace deadlines ranks rank_deadlines)
    (lost_by : ByPlace lost ranks rank_lost) (ends_by : ByPlace ends ranks rank_ends) (reach_is : ReachOf rank_deadlines rank_lost rank_ends reach 64)
    {J : Jobs} {table : List ℕ} {short : ℕ} (b : Begun J releases deadlines ranks lost ends table short) where
  front : (values out : List ℕ) → ByPlace values ranks out → (k : ℕ) → k < count J → get_or (take n out) k 0 ≡ get_or values (job_at ranks k) 0
  front values out e k l = get_or-take n out k 0 (omega (arith, n_is, b.many)) ∙ e.each k (omega (arith, b.many))

  front_long : (values out : List ℕ) → ByPlace values ranks out → length (take n out) ≡ count J
  front_long values out e = length-take-le n out (omega (arith, n_is, room b, e.long)) ∙ n_is ∙ b.many

  releases_of : ByPlace J.releases ranks rank_releases
  releases_of = subst (λ (l : List ℕ). ByPlace l ranks rank_releases) (sym b.releases_are) releases_by

  deadlines_of : ByPlace J.deadlines ranks rank_deadlines
  deadlines_of = subst (λ (l : List ℕ). ByPlace l ranks rank_deadlines) (sym b.deadlines_are) deadlines_by

  pub gathered : Growing J (take n rank_releases) (take n rank_deadlines) ranks rank_lost reach rank_ends table short 0 0
  gathered =
      record {
        way = b.way;
        ranked = b.ranked;
        kept =
            by_rank_start b.kept b.ranked
            (omega (arith, b.many, room b, lost_by.long)) (omega (arith, b.many, room b, reach_is.long))
            (omega (arith, b.many, room b, ends_by.long))
            (front J.releases rank_releases releases_of)
            (λ k l. lost_by.each k (omega (arith, b.many)))
            (λ k l. ends_by.each k (omega (arith, b.many)))
            (λ k l. reach_is.each k (omega (arith, b.many, room b)) ∙ ap (reach_of (get_or rank_lost k 0) (get_or rank_ends k 0))
            (deadlines_of.each k (omega (arith, b.many))));
        releases_long = front_long J.releases rank_releases releases_of;
        deadlines_long = front_long J.deadlines rank_deadlines deadlines_of;
        deadlines_are = front J.deadlines rank_deadlines deadlines_of;
      }
