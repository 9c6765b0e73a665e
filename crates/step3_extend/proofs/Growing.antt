-- A turn of the search and of step 3, with the books by rank: for one list, then for every list that the lent numbers may belong to.
use Prim.Native.Nat.{ℕ, ◌+◌, ◌-◌, ◌≤◌, ◌<◌}
use mathlib.Core.Path.{◌≡◌, refl, ap, sym, subst, ◌∙◌}
use mathlib.Core.Bool.{Bool, true, false, not, ◌&&◌}
use mathlib.Core.List.{List}
use native.Mathlib.Omega.{arith}
use native.Mathlib.Decide.{ℕ_discrete}
use lib.Dec.{eqb}
use lib.ListN.{length, get_or, set, length-set}
use lib.Seq.{set-set, set-get_or}
use borrow.Author.Tests.{not-true, not-false, eqb-true}
use Rattle.sched.proofs.Bounded.Laws.{and_true}
use Rattle.sched.specs.Jobs.{Jobs, count, deadline}
use Rattle.sched.specs.Slots.{awake, awake_of, touches, wake_slot}
use Rattle.sched.proofs.Slots.Laws.{awake_of_lem}
use Rattle.steps.specs.Extension.{helps, wakeable}
use Rattle.laws_edf.specs.Orders.{job_at}
use Rattle.laws_extension.specs.Chain.{KeptByRank, tried}
use Rattle.laws_extension.proofs.Chain.Ahead.{ranks_differ}
use Rattle.laws_extension.specs.Chain.Keeping.{run_long, rank_in_time, rank_holds, reach_in}
use Rattle.laws_extension.proofs.Chain.Missing.{kept_set}
use Rattle.laws_extension.proofs.Chain.Theorems.{rank_tests, rank_updates}
use Rattle.laws_extension.specs.Waking.Cursor.{cursor_after}
use Rattle.step3_slot.specs.declared.Books.{Books}
use Rattle.step3_slot.specs.Books.{Tryable, attempt, Attempted, SameLists}
use Rattle.step3_extend.specs.Turns.{Alone, Extending, Growing, EndedBefore, Extended}
use Rattle.step3_extend.proofs.Waking.{way_from, way_inside, way_pass, way_turn, way_end}

module _ {J : Jobs} {releases deadlines ranks lost reach ends table : List ℕ} {short added cursor : ℕ}
    (g : Growing J releases deadlines ranks lost reach ends table short added cursor) where
  table_long : length table ≡ J.horizon
  table_long = run_long J (awake_of table) g.kept.table_is

  pub growing_inside : 0 < short → cursor < length table
  growing_inside l = omega (arith, way_inside g.way l, table_long)

  pub growing_small : 0 < short → cursor < 4096
  growing_small l = omega (arith, growing_inside l, table_long, g.way.passes.high)

  pub growing_long : {lost' reach' ends' table' : List ℕ} {short' added' cursor' : ℕ}
      → Growing J releases deadlines ranks lost' reach' ends' table' short' added' cursor' → length table' ≡ length table
  growing_long {table'} k = run_long J (awake_of table') k.kept.table_is ∙ sym table_long

  -- another state of the run, with its books
  renewed : {lost' reach' ends' table' : List ℕ} {short' added' cursor' : ℕ} → Extending J (awake_of table') short' added' cursor'
      → KeptByRank J (awake_of table') ranks releases table' lost' reach' ends'
      → Growing J releases deadlines ranks lost' reach' ends' table' short' added' cursor'
  renewed w k =
      record {
        way = w;
        ranked = g.ranked;
        kept = k;
        releases_long = g.releases_long;
        deadlines_long = g.deadlines_long;
        deadlines_are = g.deadlines_are;
      }

  pub growing_from : {t : ℕ} → Alone (awake_of table) t → Growing J releases deadlines ranks lost reach ends table short added t
  growing_from a = renewed (way_from g.way a) g.kept

  asleep_byte : cursor < length table → awake (awake_of table) cursor ≡ false → get_or table cursor 0 ≡ 255
  asleep_byte l s = eqb-true _ _ (not-false (eqb (get_or table cursor 0) 255) (sym (awake_of_lem table cursor l) ∙ s))

  module _ {first : ℕ} (f : EndedBefore cursor deadlines first) where
    first_within : first ≤ count J
    first_within = omega (arith, f.within, g.deadlines_long)

    -- so the ranks before `first` do not reach the slot: they end before it
    low : (i : ℕ) → i < first → get_or reach i 0 ≤ cursor
    low i l =
        omega (
          arith,
          rank_in_time g.kept i (omega (arith, first_within)) g.way.passes g.ranked,
          sooner (ℕ_discrete i (first - 1)),
          g.deadlines_are (first - 1) (omega (arith, first_within)),
          f.over (omega arith),
        )
      where
        sooner : Dec (i ≡ first - 1) → deadline J (job_at ranks i) ≤ deadline J (job_at ranks (first - 1))
        sooner (yes q) = rw (← q) (omega arith)
        sooner (no q) = (g.ranked.sorted.rising i (first - 1) (omega arith) (omega (arith, first_within))).sooner

    module _ (l : 0 < short) where
      module _ (b : Bool) (next : b ≡ not (awake (awake_of table) cursor) && touches (awake_of table) cursor) (o : b ≡ true) where
        sleeps : awake (awake_of table) cursor ≡ false
        sleeps = not-true (awake (awake_of table) cursor)
            (and_true (not (awake (awake_of table) cursor)) (touches (awake_of table) cursor) (sym next ∙ o)).0

        pub growing_tryable : Tryable cursor first releases ranks lost reach ends table
        growing_tryable =
            record {
              few = omega (arith, g.releases_long, g.way.passes.few);
              ranks_long = omega (arith, g.releases_long, g.ranked.sorted.long);
              lost_long = omega (arith, g.releases_long, g.kept.ranked.lost_long);
              reach_long = omega (arith, g.releases_long, g.kept.ranked.reach_long);
              ends_long = omega (arith, g.releases_long, g.kept.ranked.ends_long);
              small = omega (arith, table_long, g.way.passes.high);
              inside = growing_inside l;
              within = omega (arith, first_within, g.releases_long);
              reach_in = λ k m. reach_in g.kept k (omega (arith, g.releases_long)) g.way.passes g.ranked;
              asleep = asleep_byte (growing_inside l) sleeps;
              last = λ k m. rank_holds g.kept k (omega (arith, g.releases_long));
              apart = λ i k a m. ranks_differ g.ranked i k a (omega (arith, g.releases_long));
              jobs = λ k m. omega (arith, g.ranked.sorted.known k (omega (arith, g.releases_long)), g.way.passes.few);
            }

        tells : helps J (awake_of table) cursor ≡ (attempt cursor first releases ranks lost reach ends table).helped
        tells =
            rank_tests g.way.passes g.way.long g.ranked g.kept (way_inside g.way l) sleeps first_within low
            ∙ ap (λ (n : ℕ). (tried releases ranks (n - first) first cursor table lost reach ends).helped) (sym g.releases_long)

        module _ {helped : Bool} {lost' reach' ends' table' : List ℕ}
            (a : Attempted cursor first releases ranks lost reach ends table helped lost' reach' ends' table') where
          wanted : wakeable J (awake_of table) cursor ≡ helped
          unfolding wakeable
          wanted = rw (sym next ∙ o) (tells ∙ sym a.helped_is)

          -- the slot does not help, and the books are as they were
          pub growing_vain : helped ≡ false → Growing J releases deadlines ranks lost' reach' ends' table' short added (cursor + 1)
          growing_vain v = let (t, u, r, e) = a.undone v in rw (t, u, r, e) (renewed (way_pass g.way (wanted ∙ v)) g.kept)

          module _ (h : helped ≡ true) where
            updated : KeptByRank J (wake_slot (awake_of table) cursor) ranks releases table' lost' reach' ends'
            updated =
                let booked = a.booked h in
                rw (booked.table_is, booked.lost_is, booked.reach_is, booked.ends_is, g.releases_long)
                (rank_updates g.way.passes g.way.long g.ranked g.kept (way_inside g.way l) sleeps first_within low
                (tells ∙ sym a.helped_is ∙ h))

            woken_set : awake_of table' ≡ wake_slot (awake_of table) cursor
            woken_set = kept_set g.way.passes (length-set (awake_of table) cursor true ∙ g.way.long) updated.table_is

            -- with the slot asleep again, the set is what it was
            before : set (awake_of table') cursor false ≡ (awake_of table)
            before =
                ap (λ (T : List Bool). set T cursor false) woken_set
                ∙ set-set (awake_of table) cursor true false
                ∙ ap (set (awake_of table) cursor) (sym sleeps)
                ∙ set-get_or (awake_of table) cursor false

            pub growing_turn : (after : ℕ) → after ≡ cursor_after (set (awake_of table') cursor false) cursor →
                Growing J releases deadlines ranks lost' reach' ends' table' (short - 1) (added + 1) after
            growing_turn after goes =
                renewed
                (subst (λ (T : List Bool). Extending J T (short - 1) (added + 1) after) (sym woken_set)
                (way_turn g.way l (wanted ∙ h) after (goes ∙ ap (λ (T : List Bool). cursor_after T cursor) before)))
                (subst (λ (T : List Bool). KeptByRank J T ranks releases table' lost' reach' ends') (sym woken_set) updated)

  -- a slot that is awake or alone is passed
  pub growing_pass : (b : Bool) → b ≡ not (awake (awake_of table) cursor) && touches (awake_of table) cursor → b ≡ false →
      Growing J releases deadlines ranks lost reach ends table short added (cursor + 1)
  unfolding wakeable
  growing_pass b next o = renewed (way_pass g.way (rw (sym next ∙ o))) g.kept

-- Between two turns of either loop: what is shown holds of every list for which the loop could begin, and one such list is at hand.
pub record Grown (releases deadlines ranks lost₀ reach₀ ends₀ table₀ : List ℕ) (short₀ added₀ cursor₀ : ℕ)
    (lost reach ends table : List ℕ) (short added cursor first : ℕ) : Type 0 where
  pub J : Jobs
  pub now : Growing J releases deadlines ranks lost reach ends table short added cursor
  pub every : (K : Jobs) → Growing K releases deadlines ranks lost₀ reach₀ ends₀ table₀ short₀ added₀ cursor₀
      → Growing K releases deadlines ranks lost reach ends table short added cursor
  pub first_in : first ≤ length deadlines
  pub same_table : length table ≡ length table₀

module _ {releases deadlines ranks lost₀ reach₀ ends₀ table₀ : List ℕ} {short₀ added₀ cursor₀ : ℕ} where
  pub grown_start : {short cursor first : ℕ} → short ≡ short₀ → ((J : Jobs) × Growing J releases deadlines ranks lost₀ reach₀ ends₀ table₀ short₀ added₀ cursor₀)
      → Alone (awake_of table₀) cursor → first ≤ length deadlines
      → Grown releases deadlines ranks lost₀ reach₀ ends₀ table₀ short₀ added₀ cursor₀ lost₀ reach₀ ends₀ table₀ short added₀ cursor first
  grown_start e (J, g) a f = rw e (record { J = J; now = growing_from g a; every = λ K k. growing_from k a; first_in = f; same_table = refl })

  module _ {lost reach ends table : List ℕ} {short added cursor first : ℕ}
      (g : Grown releases deadlines ranks lost₀ reach₀ ends₀ table₀ short₀ added₀ cursor₀ lost reach ends table short added cursor first) where
    -- an inner loop begins where the outer one stands
    pub grown_again : Grown releases deadlines ranks lost reach ends table short added cursor lost reach ends table short added cursor first
    grown_again = record { J = g.J; now = g.now; every = λ K k. k; first_in = g.first_in; same_table = refl }

    -- what a step does for any list
    pub grown_step : {lost' reach' ends' table' : List ℕ} {short' added' cursor' first' : ℕ}
        → ((K : Jobs) → Growing K releases deadlines ranks lost reach ends table short added cursor
        → Growing K releases deadlines ranks lost' reach' ends' table' short' added' cursor')
        → first' ≤ length deadlines
        → Grown releases deadlines ranks lost₀ reach₀ ends₀ table₀ short₀ added₀ cursor₀ lost' reach' ends' table' short' added' cursor' first'
    grown_step step f =
        record {
          J = g.J;
          now = step g.J g.now;
          every = λ K k. step K (g.every K k);
          first_in = f;
          same_table = growing_long g.now (step g.J g.now) ∙ g.same_table;
        }

    -- the inner loop goes on from there
    pub grown_through : {lost' reach' ends' table' : List ℕ} {short' added' cursor' first' : ℕ}
        → Grown releases deadlines ranks lost reach ends table short added cursor lost' reach' ends' table' short' added' cursor' first'
        → Grown releases deadlines ranks lost₀ reach₀ ends₀ table₀ short₀ added₀ cursor₀ lost' reach' ends' table' short' added' cursor' first'
    grown_through i = grown_step i.every i.first_in

    pub grown_end : short ≤ 0 → (K : Jobs) → Growing K releases deadlines ranks lost₀ reach₀ ends₀ table₀ short₀ added₀ cursor₀
        → Extended K table added
    grown_end l K k = let n = g.every K k in way_end table n.way l n.kept.table_is

-- the same lists all along
pub lists_along : {a b c : Books} → SameLists a b → SameLists b c → SameLists a c
lists_along p q = record { lost = q.lost ∙ p.lost; reach = q.reach ∙ p.reach; ends = q.ends ∙ p.ends; table = q.table ∙ p.table }

pub extended_along : {J : Jobs} {table table' : List ℕ} {added : ℕ} → Extended J table added → table' ≡ table → Extended J table' added
extended_along e q = rw q e
