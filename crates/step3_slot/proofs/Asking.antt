-- The loop over ranks: what is left to ask gives what the whole chain does.
use Prim.Native.Nat.{ℕ, zero, suc, ◌+◌, ◌-◌, ◌≤◌, ◌<◌}
use mathlib.Core.Path.{◌≡◌, refl, ap, sym, ◌∙◌}
use mathlib.Core.Bool.{true, false, true≢false, false≢true}
use mathlib.Core.List.{List}
use native.Mathlib.Numerals.{add-one}
use native.Mathlib.Decide.{ℕ_discrete}
use native.Mathlib.Omega.{arith}
use mathlib.Core.Logic.{◌≢◌}
use lib.ListN.{length, get_or, set, take, length-set}
use lib.Seq.{get_or-set_same, get_or-set_other}
use Rattle.laws_edf.specs.Orders.{job_at}
use Rattle.laws_extension.specs.Chain.{end_below, RankBooks, rank_books, Tried, tried, reaches, gained_at}
use Rattle.laws_extension.specs.Chain.Ends.{ends_below}
use Rattle.laws_extension.proofs.Chain.Turns.{reaching, tried_closed, tried_lost, tried_on}
use Rattle.step3_slot.specs.Books.{Stops, Booked, Tryable, Attempted, attempt}
use Rattle.std.proofs.lemmas.List.{map-set}
use Rattle.step3_slot.specs.declared.Note.{Note}
use Rattle.step3_slot.specs.Notes.{takers_of, taken_of, Noteable, slot_held, Undoable, Undone}
use Rattle.step3_slot.proofs.Noting.{Noted, noted_start, noted_next, noted_undoable, noted_reach, noted_table}

tried_end : (releases ranks table lost reach ends : List ℕ) (k t : ℕ)
    → tried releases ranks 0 k t table lost reach ends ≡ record { helped = false; books = rank_books table lost reach ends }
unfolding tried
tried_end releases ranks table lost reach ends k t = refl

turns_left : (n k : ℕ) → k < n → n - k ≡ suc (n - suc k)
turns_left n k l = omega arith

-- the slot of the next note holds no job that is still to be asked
held_apart : {x first : ℕ} {releases ranks lost reach ends table : List ℕ} → Tryable x first releases ranks lost reach ends table →
    (takers : List ℕ) (k noted : ℕ) → ((i : ℕ) → i < noted → get_or takers i 0 < k) → (i : ℕ) → k ≤ i → i < length releases
    → slot_held noted takers ranks ≢ get_or ranks i 0
unfolding slot_held
held_apart can takers k zero lower i l m e = omega (arith, can.jobs i m)
held_apart can takers k (suc n) lower i l m e = can.apart (get_or takers n 0) i (omega (arith, lower n (omega arith))) m e

-- the ranks from k on are still to be asked, and the chain has come to slot at; nothing is gained yet
pub record Asking (x first : ℕ) (releases ranks lost₀ reach₀ ends₀ table₀ lost reach ends table takers taken : List ℕ)
    (noted at k : ℕ) : Type 0 where
  pub can : Tryable x first releases ranks lost₀ reach₀ ends₀ table₀
  pub within : k ≤ length releases
  pub few : noted ≤ k
  pub inside : at < length table
  pub same_lost : lost ≡ lost₀
  pub same_ends : ends ≡ ends₀
  pub same_reach : length reach ≡ length reach₀
  pub same_table : length table ≡ length table₀
  pub reach_in : (i : ℕ) → i < length releases → get_or reach i 0 ≤ length table
  pub lower : (i : ℕ) → i < noted → get_or takers i 0 < k
  pub last : (i : ℕ) → k ≤ i → i < length releases → get_or lost i 0 ≡ 0 → 0 < get_or reach i 0 → get_or table (get_or reach i 0 - 1) 0 ≡ get_or ranks i 0
  pub notes : Noted noted at takers taken ranks reach table reach₀ table₀
  pub rest : attempt x first releases ranks lost₀ reach₀ ends₀ table₀ ≡ tried releases ranks (length releases - k) k at table lost reach ends

module _ {x first : ℕ} {releases ranks lost₀ reach₀ ends₀ table₀ : List ℕ} where
  pub asking_start : {takers taken : List ℕ} → Tryable x first releases ranks lost₀ reach₀ ends₀ table₀ → Noteable takers taken →
      Asking x first releases ranks lost₀ reach₀ ends₀ table₀ lost₀ reach₀ ends₀ table₀ takers taken 0 x first
  asking_start {takers} {taken} can room =
      record {
        can = can;
        within = can.within;
        few = omega arith;
        inside = can.inside;
        same_lost = refl;
        same_ends = refl;
        same_reach = refl;
        same_table = refl;
        reach_in = can.reach_in;
        lower = λ i l. absurd (omega arith);
        last = λ i l. can.last i;
        notes = noted_start x takers taken ranks reach₀ table₀ room can.asleep;
        rest = refl;
      }

  module _ {lost reach ends table takers taken : List ℕ} {noted at k : ℕ}
      (a : Asking x first releases ranks lost₀ reach₀ ends₀ table₀ lost reach ends table takers taken noted at k) where
    pub asking_undoable : Undoable noted at (take noted takers) (take noted taken) ranks reach table
    asking_undoable =
        noted_undoable a.notes (omega (arith, a.few, a.within, a.can.few)) a.inside (omega (arith, a.same_table, a.can.small))
        (λ i l. omega (arith, a.lower i l, a.within, a.can.reach_long, a.same_reach))
        (λ i l. omega (arith, a.lower i l, a.within, a.can.ranks_long))

    pub asking_end : length releases ≤ k → (reach' table' : List ℕ) → Undone noted at (take noted takers) (take noted taken) ranks reach table reach' table' →
        Attempted x first releases ranks lost₀ reach₀ ends₀ table₀ false lost reach' ends table'
    asking_end l reach' table' u =
        let z : length releases - k ≡ 0 = omega arith in
        let e = (rw z at a.rest) ∙ tried_end releases ranks table lost reach ends k at in
        record {
          helped_is = sym (ap (λ (o : Tried). o.helped) e);
          booked = λ q. absurd (false≢true q);
          undone = λ q. (noted_table a.notes reach' table' u, a.same_lost, noted_reach a.notes reach' table' u, a.same_ends);
        }

    -- no rank still to be asked has its last slot where the chain has come to
    elsewhere : (i : ℕ) → k ≤ i → i < length releases → get_or lost i 0 ≡ 0 → 0 < get_or reach i 0 → get_or reach i 0 - 1 ≢ at
    elsewhere i m l z p e =
        held_apart a.can takers k noted a.lower i m l
        (sym a.notes.holds ∙ sym (ap (λ (s : ℕ). get_or table s 0) e) ∙ a.last i m l z p)

    module _ (l : k < length releases) where
      pub asking_in_reach : k < length reach
      asking_in_reach = omega (arith, a.can.reach_long, a.same_reach)

      pub asking_in_lost : k < length lost
      asking_in_lost = rw a.same_lost (omega (arith, a.can.lost_long))

      pub asking_skipped : reaches releases reach at k ≡ false →
          Asking x first releases ranks lost₀ reach₀ ends₀ table₀ lost reach ends table takers taken noted at (k + 1)
      asking_skipped e =
          record {
            can = a.can;
            within = omega arith;
            few = omega (arith, a.few);
            inside = a.inside;
            same_lost = a.same_lost;
            same_ends = a.same_ends;
            same_reach = a.same_reach;
            same_table = a.same_table;
            reach_in = a.reach_in;
            lower = λ i m. omega (arith, a.lower i m);
            last = λ i m. a.last i (omega arith);
            notes = a.notes;
            rest = rw add-one (rw (turns_left (length releases) k l) at a.rest ∙ tried_closed releases ranks table lost reach ends
                (length releases - suc k) k at e);
          }

      module _ (open_here : reaches releases reach at k ≡ true) where
        far : at < get_or reach k 0
        far = (reaching releases reach at k open_here).1

        pub asking_gained : 0 < get_or lost k 0 → (lost' reach' ends' table' : List ℕ)
            → Booked (gained_at ranks k at table lost reach ends) table' lost' reach' ends' →
            Attempted x first releases ranks lost₀ reach₀ ends₀ table₀ true lost' reach' ends' table'
        asking_gained unit lost' reach' ends' table' b =
            let e = (rw (turns_left (length releases) k l) at a.rest)
            ∙ tried_lost releases ranks table lost reach ends (length releases - suc k) k at open_here unit in
            record {
              helped_is = sym (ap (λ (o : Tried). o.helped) e);
              booked = λ q. booked_by (ap (λ (o : Tried). o.books) e);
              undone = λ q. absurd (true≢false q);
            }
          where
            booked_by : {books : RankBooks} → books ≡ gained_at ranks k at table lost reach ends → Booked books table' lost' reach' ends'
            booked_by e = rw e b

        module _ (none : get_or lost k 0 ≤ 0) where
          asking_room : noted < 64
          asking_room = omega (arith, a.few, a.can.few)

          onward : at < get_or reach k 0 - 1
          onward = omega (arith, far, elsewhere k (omega arith) l (omega arith) (omega (arith, far)))

          pub asking_stops : Stops (job_at ranks k) (get_or reach k 0 - 1) (set table at (job_at ranks k))
          asking_stops =
              record {
                within = rw (length-set table at (job_at ranks k)) (omega (arith, a.reach_in k l));
                slot = at;
                lower = onward;
                holds = get_or-set_same table at (job_at ranks k) 0 a.inside;
              }

          kept_on : (i : ℕ) → k ≤ i → i < length releases → get_or lost i 0 ≡ 0 → 0 < get_or reach i 0 →
              get_or (set table at (job_at ranks k)) (get_or reach i 0 - 1) 0 ≡ get_or ranks i 0
          kept_on i m b z p =
              get_or-set_other table at (get_or reach i 0 - 1) (job_at ranks k) 0 (elsewhere i m b z p) ∙ a.last i m b z p

          module _ (v : ℕ) (is : v ≡ end_below (job_at ranks k) (get_or reach k 0 - 1) (set table at (job_at ranks k))) where
            lower : v ≤ get_or reach k 0 - 1
            lower = rw is (ends_below (job_at ranks k) (get_or reach k 0 - 1) (set table at (job_at ranks k))).within

            pub asking_fits : v ≤ 4096
            asking_fits = omega (arith, lower, a.reach_in k l, a.same_table, a.can.small)

            reach_next : (i : ℕ) → i < length releases → Dec (i ≡ k) → get_or (set reach k v) i 0 ≤ length (set table at (job_at ranks k))
            reach_next i m (yes e) =
                rw (e, get_or-set_same reach k v 0 asking_in_reach, length-set table at (job_at ranks k)) (omega (arith, lower, a.reach_in k l))
            reach_next i m (no f) = rw (get_or-set_other reach k i v 0 f, length-set table at (job_at ranks k)) (a.reach_in i m)

            lower_next : (i : ℕ) → i < noted + 1 → Dec (i ≡ noted) → get_or (set takers noted k) i 0 < k + 1
            lower_next i m (yes e) = rw (e, get_or-set_same takers noted k 0 (omega (arith, asking_room, a.notes.room.takers_long))) (omega arith)
            lower_next i m (no f) = rw (get_or-set_other takers noted i k 0 f) (omega (arith, a.lower i (omega arith)))

            last_next : (i : ℕ) → k + 1 ≤ i → i < length releases → get_or lost i 0 ≡ 0 → 0 < get_or (set reach k v) i 0 →
                get_or (set table at (job_at ranks k)) (get_or (set reach k v) i 0 - 1) 0 ≡ get_or ranks i 0
            last_next i m b z =
                rw (get_or-set_other reach k i v 0 (omega arith)) (kept_on i (omega arith) b z)

            pub asking_on : Asking x first releases ranks lost₀ reach₀ ends₀ table₀ lost (set reach k v) ends
                (set table at (job_at ranks k)) (set takers noted k) (set taken noted at) (noted + 1) (get_or reach k 0 - 1) (k + 1)
            asking_on =
                record {
                  can = a.can;
                  within = omega arith;
                  few = omega (arith, a.few);
                  inside = rw (length-set table at (job_at ranks k)) (omega (arith, a.reach_in k l));
                  same_lost = a.same_lost;
                  same_ends = a.same_ends;
                  same_reach = length-set reach k v ∙ a.same_reach;
                  same_table = length-set table at (job_at ranks k) ∙ a.same_table;
                  reach_in = λ i m. reach_next i m (ℕ_discrete i k);
                  lower = λ i m. lower_next i m (ℕ_discrete i noted);
                  last = last_next;
                  notes = noted_next a.notes k v asking_room a.inside (omega (arith, far)) (kept_on k (omega arith) l (omega arith) (omega (arith, far)));
                  rest = rw (is, add-one) (rw (turns_left (length releases) k l) at a.rest ∙ tried_on releases ranks table lost reach ends
                      (length releases - suc k) k at open_here (omega arith));
                }

-- a note written, and the table as the code has it
pub asking_written : {x first : ℕ} {releases ranks lost₀ reach₀ ends₀ table₀ lost reach ends table table' : List ℕ} {noted at k : ℕ} (n : ℕ)
    (notes : List Note) (note : Note) →
    Asking x first releases ranks lost₀ reach₀ ends₀ table₀ lost reach ends table (set (takers_of notes) n note.taker) (set (taken_of notes) n note.slot) noted at k →
    table' ≡ table →
    Asking x first releases ranks lost₀ reach₀ ends₀ table₀ lost reach ends table' (takers_of (set notes n note)) (taken_of (set notes n note)) noted at k
asking_written n notes note a e = rw (e, map-set (λ (m : Note). m.taker) notes n note, map-set (λ (m : Note). m.slot) notes n note) a
