-- The rank that goes on is that of the job which step 4's rule takes.
use Prim.Native.Nat.{ℕ, ◌≤◌, ◌<◌}
use mathlib.Core.Path.{◌≡◌, sym, ap, subst, ◌∙◌}
use mathlib.Core.Bool.{true}
use mathlib.Core.List.{List}
use mathlib.Core.Option.{Option, none, some}
use native.Mathlib.Decide.{dec_lt}
use native.Mathlib.Omega.{arith}
use borrow.Author.Tests.{eq-eqb, ne_eqb, lt-ltb, le-ltb, eqb-true, eqb-false, ltb-true, ltb-false}
use lib.ListN.{length, get_or}
use lib.Dec.{eqb, ltb}
use Rattle.sched.specs.Bits.{bit}
use Rattle.sched.proofs.Bounded.Laws.{by_bool}
use Rattle.steps.specs.Table.{earliest}
use Rattle.laws_edf.specs.Run.{Spans, servable, pick, chosen}
use Rattle.laws_edf.specs.Pick.{eligible, servable_if, chosen_is}
use Rattle.laws_edf.specs.Rules.{Soonest}
use Rattle.laws_edf.proofs.GoesOn.{on_none, goes_on, stops, goes_none, earliest_nobody}
use Rattle.laws_edf.specs.Search.{state_of}
use Rattle.laws_edf.specs.Orders.{Sorted, job_at}
use Rattle.queue.specs.Mask.{mask}
use Rattle.queue.specs.Mask.Laws.{mask_bit, mask_past}
use Rattle.queue.specs.Ranks.{spans_of, serves_rank}
use Rattle.queue.specs.Ranks.Chosen.{rank_first}
use Rattle.queue.specs.Arrivals.{goes_at}
use Rattle.queue.specs.Serving.{lowest, Waits}
use Rattle.queue.specs.Serving.Lowest.{Lowest, by_lowest}
use Rattle.step4_table.specs.Filling.{onward}
use Rattle.step4_table.specs.Going.{bit_at, going_rank, Stands}

-- what the code finds, case by case
module _ (deadlines ranks : List ℕ) (bits latest : ℕ) where
  pub latest_lowest : lowest bits ≡ latest → latest ≡ going_rank deadlines ranks bits latest
  unfolding going_rank
  latest_lowest e =
      by_bool (eqb (bit_at bits latest) 0)
      (λ off. rw (off, going_rank) (sym e))
      (λ on.
      by_bool (ltb (goes_at deadlines ranks (lowest bits)) (goes_at deadlines ranks latest))
      (λ less. rw (on, less, going_rank) (sym e)) (λ less. rw (on, less, going_rank)))

  pub latest_clear : bit_at bits latest ≡ 0 → lowest bits ≡ going_rank deadlines ranks bits latest
  unfolding going_rank
  latest_clear off = rw (eq-eqb (bit_at bits latest) 0 off, going_rank)

  pub lowest_due : (bit_at bits latest ≡ 0 → ⊥) → goes_at deadlines ranks (lowest bits) < goes_at deadlines ranks latest → lowest bits ≡ going_rank deadlines ranks bits latest
  unfolding going_rank
  lowest_due on less = rw (ne_eqb (bit_at bits latest) 0 on, lt-ltb (goes_at deadlines ranks (lowest bits)) (goes_at deadlines ranks latest) less, going_rank)

  pub latest_due : (bit_at bits latest ≡ 0 → ⊥) → goes_at deadlines ranks latest ≤ goes_at deadlines ranks (lowest bits) → latest ≡ going_rank deadlines ranks bits latest
  unfolding going_rank
  latest_due on most = rw (ne_eqb (bit_at bits latest) 0 on, le-ltb (goes_at deadlines ranks (lowest bits)) (goes_at deadlines ranks latest) most, going_rank)

module _
    (releases deadlines ranks left : List ℕ) (sorted : Sorted (length releases) (λ j. get_or deadlines j 0) ranks)
    (few : length releases ≤ 64) (room : length releases ≤ length left)
    (t bits : ℕ) (b : bits ≡ mask (serves_rank (spans_of releases deadlines) ranks t (state_of left)) (length releases)) (latest : ℕ) where
  abbrev F : Spans
  F = spans_of releases deadlines

  -- the bit of the latest rank

  set_below : (bit_at bits latest ≡ 0 → ⊥) → latest < F.n
  set_below on = go (dec_lt latest F.n)
    where
      go : Dec (latest < F.n) → latest < F.n
      go (yes l) = l
      go (no n) = absurd (on (ap (λ (x : ℕ). bit_at x latest) b ∙ mask_past (serves_rank F ranks t (state_of left)) F.n latest (omega arith)))

  bit_is : latest < F.n → bit_at bits latest ≡ bit (serves_rank F ranks t (state_of left) latest)
  bit_is l = ap (λ (x : ℕ). bit_at x latest) b ∙ mask_bit (serves_rank F ranks t (state_of left)) F.n latest l

  set_serves : (bit_at bits latest ≡ 0 → ⊥) → serves_rank F ranks t (state_of left) latest ≡ true
  set_serves on =
      by_bool (serves_rank F ranks t (state_of left) latest) (λ e. e) (λ e. absurd (on (bit_is (set_below on) ∙ ap bit e)))

  pub set_waits : (bit_at bits latest ≡ 0 → ⊥) → Waits F ranks t left latest
  set_waits on =
      let l = set_below on in
      record { below = l; able = eligible F t (state_of left) (job_at ranks latest) (sorted.known latest l) (set_serves on) }

  clear_stops : bit_at bits latest ≡ 0 → Soonest F.d (servable F t (state_of left)) F.n (job_at ranks latest) → latest < F.n → ⊥
  clear_stops off s l = let z = bit_is l ∙ ap bit s.holds in omega (arith, z, off)

  -- the job that the rule takes, by the latest one

  module _ (k : ℕ) (c : Lowest F ranks left sorted few room t bits b k) (job : Option ℕ) (s : Stands F.n ranks latest job) where
    Takes : ℕ → Type 0
    Takes r = Waits F ranks t left r × (onward F t left job ≡ some (job_at ranks r))

    first : earliest F.d (servable F t (state_of left)) F.n ≡ some (job_at ranks k)
    unfolding pick chosen
    first = chosen_is F t (state_of left) (job_at ranks k) c.served

    takes_lowest : onward F t left job ≡ earliest F.d (servable F t (state_of left)) F.n → Takes (lowest bits)
    unfolding Takes
    takes_lowest e =
        subst (λ (r : ℕ). Waits F ranks t left r × (onward F t left job ≡ some (job_at ranks r))) (sym c.zeros)
        (record { below = c.below; able = c.served.able }, e ∙ first)

    lower_is : bit_at bits latest ≡ 0 → Takes (lowest bits)
    lower_is off = go job s takes_lowest
      where
        go : (o : Option ℕ) → Stands F.n ranks latest o → (onward F t left o ≡ earliest F.d (servable F t (state_of left)) F.n → Takes (lowest bits)) → Takes (lowest bits)
        go none st next = next (on_none F.d (servable F t (state_of left)) F.n)
        go (some j) st next =
            next (stops F.d (servable F t (state_of left)) F.n j
            (λ x. clear_stops off (subst (Soonest F.d (servable F t (state_of left)) F.n) (sym st.1) x) st.0))

    due_first : F.d (job_at ranks k) < F.d (job_at ranks latest) → Takes (lowest bits)
    due_first less = go job s takes_lowest
      where
        go : (o : Option ℕ) → Stands F.n ranks latest o → (onward F t left o ≡ earliest F.d (servable F t (state_of left)) F.n → Takes (lowest bits)) → Takes (lowest bits)
        go none st next = next (on_none F.d (servable F t (state_of left)) F.n)
        go (some j) st next =
            next (stops F.d (servable F t (state_of left)) F.n j
            (λ x. let due = x.first (job_at ranks k) c.served.able.below (servable_if F t (state_of left) (job_at ranks k) c.served.able) in
            omega (arith, due, less, ap F.d st.1)))

    latest_is : (bit_at bits latest ≡ 0 → ⊥) → F.d (job_at ranks latest) ≤ F.d (job_at ranks k) → Takes latest
    unfolding Takes pick chosen
    latest_is on due = (set_waits on, go job s)
      where
        soonest : Soonest F.d (servable F t (state_of left)) F.n (job_at ranks latest)
        soonest =
            record {
              below = sorted.known latest (set_below on);
              holds = set_serves on;
              first = λ j l h. omega (arith, due, (c.served.first j (eligible F t (state_of left) j l h)).sooner);
            }

        go : (o : Option ℕ) → Stands F.n ranks latest o → onward F t left o ≡ some (job_at ranks latest)
        go none st =
            on_none F.d (servable F t (state_of left)) F.n
            ∙ chosen_is F t (state_of left) (job_at ranks latest) (rank_first F ranks sorted t (state_of left) latest (set_below on) (set_serves on) (λ i l. absurd (omega (arith, st))))
        go (some j) st =
            subst (λ (x : ℕ). onward F t left (some x) ≡ some (job_at ranks latest)) st.1
            (goes_on F.d (servable F t (state_of left)) F.n (job_at ranks latest) soonest)

    going : Takes (going_rank deadlines ranks bits latest)
    unfolding going_rank
    going =
        by_bool (eqb (bit_at bits latest) 0)
        (λ e. rw (e, going_rank) (lower_is (eqb-true _ _ e)))
        (λ e.
        by_bool (ltb (F.d (job_at ranks (lowest bits))) (F.d (job_at ranks latest)))
        (λ less. rw (e, less, going_rank) (due_first (rw c.zeros at (ltb-true (F.d (job_at ranks (lowest bits))) (F.d (job_at ranks latest)) less))))
        (λ less. rw (e, less, going_rank) (latest_is (eqb-false _ _ e) (rw c.zeros at (ltb-false (F.d (job_at ranks (lowest bits))) (F.d (job_at ranks latest)) less)))))

  -- where some rank waits, the rank that goes on waits, too, and its job is the rule's
  pub going_takes : (job : Option ℕ) → Stands (length releases) ranks latest job → (bits ≡ 0 → ⊥) →
      Waits (spans_of releases deadlines) ranks t left (going_rank deadlines ranks bits latest)
      × (onward (spans_of releases deadlines) t left job ≡ some (job_at ranks (going_rank deadlines ranks bits latest)))
  unfolding Takes
  going_takes job s some_wait =
      by_lowest F ranks left sorted few room t bits b _ (λ z _. absurd (some_wait z)) (λ k c. going k c job s)

  pub lowest_below : (bits ≡ 0 → ⊥) → lowest bits < length releases
  lowest_below some_wait = by_lowest F ranks left sorted few room t bits b _ (λ z _. absurd (some_wait z)) (λ k c. omega (arith, c.zeros, c.below))

  -- where none waits, the rule takes none
  pub none_goes : (job : Option ℕ) → bits ≡ 0 → onward (spans_of releases deadlines) t left job ≡ none
  unfolding pick chosen
  none_goes job z =
      by_lowest F ranks left sorted few room t bits b _
      (λ _ e. goes_none F.d (servable F t (state_of left)) F.n (earliest_nobody F.d (servable F t (state_of left)) F.n e) job)
      (λ k c. absurd (omega (arith, c.positive)))
