-- One note more: to put it back gives the lists from before its step.
use Prim.Native.Nat.{ℕ, zero, suc, ◌+◌, ◌-◌, ◌≤◌, ◌<◌}
use mathlib.Core.Path.{◌≡◌, refl, ap, sym, ◌∙◌}
use mathlib.Core.List.{List}
use native.Mathlib.Numerals.{add-one}
use native.Mathlib.Decide.{ℕ_discrete}
use native.Mathlib.Omega.{arith}
use lib.ListN.{length, get_or, set, take, length-set}
use lib.Seq.{get_or-set_same, get_or-set_other, set-get_or, set-set, length-take-le}
use Rattle.std.proofs.lemmas.List.{get_or-take, length-map, take-map}
use Rattle.step3_slot.specs.declared.Note.{Note}
use Rattle.step3_slot.specs.Notes.{takers_of, taken_of, Noteable, slot_held, undone_reach, undone_table, Undoable, Undone}

set_back : (l : List ℕ) (i v w : ℕ) → w ≡ get_or l i 0 → set (set l i v) i w ≡ l
set_back l i v w e = set-set l i v w ∙ ap (λ (u : ℕ). set l i u) e ∙ set-get_or l i 0

held_same : (takers takers' ranks : List ℕ) (i : ℕ) → ((j : ℕ) → j < i → get_or takers' j 0 ≡ get_or takers j 0) →
    slot_held i takers' ranks ≡ slot_held i takers ranks
unfolding slot_held
held_same takers takers' ranks zero e = refl
held_same takers takers' ranks (suc i) e = rw (e i (omega arith))

-- notes that are the same below i
module _ (takers taken takers' taken' : List ℕ) where
  reach_same : (i t : ℕ) (reach : List ℕ) → ((j : ℕ) → j < i → get_or takers' j 0 ≡ get_or takers j 0) →
      ((j : ℕ) → j < i → get_or taken' j 0 ≡ get_or taken j 0) → undone_reach i t takers' taken' reach ≡ undone_reach i t takers taken reach
  unfolding undone_reach
  reach_same zero t reach e f = refl
  reach_same (suc i) t reach e f =
      rw (e i (omega arith), f i (omega arith))
      (reach_same i (get_or taken i 0) (set reach (get_or takers i 0) (suc t)) (λ j l. e j (omega arith)) (λ j l. f j (omega arith)))

  table_same : (ranks : List ℕ) (i : ℕ) (table : List ℕ) → ((j : ℕ) → j < i → get_or takers' j 0 ≡ get_or takers j 0) →
      ((j : ℕ) → j < i → get_or taken' j 0 ≡ get_or taken j 0) →
      undone_table i takers' taken' ranks table ≡ undone_table i takers taken ranks table
  unfolding undone_table
  table_same ranks zero table e f = refl
  table_same ranks (suc i) table e f =
      rw (held_same takers takers' ranks i (λ j l. e j (omega arith)), f i (omega arith))
      (table_same ranks i (set table (get_or taken i 0) (slot_held i takers ranks)) (λ j l. e j (omega arith)) (λ j l. f j (omega arith)))

-- a note that is written behind the first i does not count for them
behind : (l : List ℕ) (n v i : ℕ) → i ≤ n → (j : ℕ) → j < i → get_or (set l n v) j 0 ≡ get_or l j 0
behind l n v i h j m = get_or-set_other l n j v 0 (omega arith)

reach_kept : (takers taken : List ℕ) (n a b i t : ℕ) (reach : List ℕ) → i ≤ n →
    undone_reach i t (set takers n a) (set taken n b) reach ≡ undone_reach i t takers taken reach
reach_kept takers taken n a b i t reach l =
    reach_same takers taken (set takers n a) (set taken n b) i t reach (behind takers n a i l) (behind taken n b i l)

held_kept : (takers ranks : List ℕ) (n a i : ℕ) → i ≤ n → slot_held i (set takers n a) ranks ≡ slot_held i takers ranks
held_kept takers ranks n a i l = held_same takers (set takers n a) ranks i (behind takers n a i l)

table_kept : (takers taken ranks : List ℕ) (n a b i : ℕ) (table : List ℕ) → i ≤ n →
    undone_table i (set takers n a) (set taken n b) ranks table ≡ undone_table i takers taken ranks table
table_kept takers taken ranks n a b i table l =
    table_same takers taken (set takers n a) (set taken n b) ranks i table (behind takers n a i l) (behind taken n b i l)

-- the first `noted` notes put the lists back; the last of them gave up slot t, and its byte is still there
pub record Noted (noted t : ℕ) (takers taken ranks reach table reach₀ table₀ : List ℕ) : Type 0 where
  pub room : Noteable takers taken
  pub slot_in : (i : ℕ) → i < noted → get_or taken i 0 < length table
  pub holds : get_or table t 0 ≡ slot_held noted takers ranks
  pub reach_back : undone_reach noted t takers taken reach ≡ reach₀
  pub table_back : undone_table noted takers taken ranks table ≡ table₀

pub noted_start : (t : ℕ) (takers taken ranks reach table : List ℕ) → Noteable takers taken → get_or table t 0 ≡ 255 →
    Noted 0 t takers taken ranks reach table reach table
unfolding slot_held undone_reach undone_table
noted_start t takers taken ranks reach table room asleep =
    record { room = room; slot_in = λ i l. absurd (omega arith); holds = asleep; reach_back = refl; table_back = refl }

module _ {noted t : ℕ} {takers taken ranks reach table reach₀ table₀ : List ℕ} (c : Noted noted t takers taken ranks reach table reach₀ table₀) where
  -- the notes that are made, without the room behind them
  cut : (l : List ℕ) (j : ℕ) → j < noted → get_or (take noted l) j 0 ≡ get_or l j 0
  cut l j m = get_or-take noted l j 0 m

  cut_long : (l : List ℕ) → noted ≤ length l → length (take noted l) ≡ noted
  cut_long l m = length-take-le noted l m

  pub noted_undoable : noted ≤ 64 → t < length table → length table ≤ 4096 →
      ((i : ℕ) → i < noted → get_or takers i 0 < length reach) → ((i : ℕ) → i < noted → get_or takers i 0 < length ranks) →
      Undoable noted t (take noted takers) (take noted taken) ranks reach table
  noted_undoable few inside small rank_in rank_known =
      record {
        takers_long = rw (cut_long takers (omega (arith, c.room.takers_long))) (omega arith);
        taken_long = rw (cut_long taken (omega (arith, c.room.taken_long))) (omega arith);
        small = small;
        last_in = omega arith;
        rank_in = λ i l. rw (cut takers i l) (rank_in i l);
        rank_known = λ i l. rw (cut takers i l) (rank_known i l);
        slot_in = λ i l. rw (cut taken i l) (c.slot_in i l);
      }

  pub noted_reach : (reach' table' : List ℕ) → Undone noted t (take noted takers) (take noted taken) ranks reach table reach' table' → reach' ≡ reach₀
  noted_reach reach' table' u =
      u.reach_is ∙ reach_same takers taken (take noted takers) (take noted taken) noted t reach (cut takers) (cut taken) ∙ c.reach_back

  pub noted_table : (reach' table' : List ℕ) → Undone noted t (take noted takers) (take noted taken) ranks reach table reach' table' → table' ≡ table₀
  noted_table reach' table' u =
      u.table_is ∙ table_same takers taken (take noted takers) (take noted taken) ranks noted table (cut takers) (cut taken) ∙ c.table_back

  module _ (k v : ℕ) (few : noted < 64) (in_table : t < length table) (some : 0 < get_or reach k 0)
      (held : get_or (set table t (get_or ranks k 0)) (get_or reach k 0 - 1) 0 ≡ get_or ranks k 0) where
    room_next : Noteable (set takers noted k) (set taken noted t)
    room_next =
        record {
          takers_long = rw (length-set takers noted k) c.room.takers_long;
          taken_long = rw (length-set taken noted t) c.room.taken_long;
        }

    slot_next : (i : ℕ) → i < noted + 1 → Dec (i ≡ noted) → get_or (set taken noted t) i 0 < length (set table t (get_or ranks k 0))
    slot_next i l (yes e) =
        rw (e, get_or-set_same taken noted t 0 (omega (arith, c.room.taken_long)), length-set table t (get_or ranks k 0)) in_table
    slot_next i l (no f) = rw (get_or-set_other taken noted i t 0 f, length-set table t (get_or ranks k 0)) (c.slot_in i (omega arith))

    held_next : get_or (set table t (get_or ranks k 0)) (get_or reach k 0 - 1) 0 ≡ slot_held (suc noted) (set takers noted k) ranks
    unfolding slot_held
    held_next = rw (get_or-set_same takers noted k 0 (omega (arith, c.room.takers_long))) held

    reach_next : undone_reach (suc noted) (get_or reach k 0 - 1) (set takers noted k) (set taken noted t) (set reach k v) ≡ reach₀
    unfolding undone_reach
    reach_next =
        rw (
          get_or-set_same takers noted k 0 (omega (arith, c.room.takers_long)),
          get_or-set_same taken noted t 0
              (omega (arith, c.room.taken_long)),
          set_back reach k v (suc (get_or reach k 0 - 1)) (omega arith),
        )
        (reach_kept takers taken noted k t noted t reach (omega arith) ∙ c.reach_back)

    table_next : undone_table (suc noted) (set takers noted k) (set taken noted t) ranks (set table t (get_or ranks k 0)) ≡ table₀
    unfolding undone_table
    table_next =
        rw (
          held_kept takers ranks noted k noted (omega arith),
          get_or-set_same taken noted t 0 (omega (arith, c.room.taken_long)),
          set_back table t
              (get_or ranks k 0) (slot_held noted takers ranks) (sym c.holds),
        )
        (table_kept takers taken ranks noted k t noted table (omega arith) ∙ c.table_back)

    pub noted_next : Noted (noted + 1) (get_or reach k 0 - 1) (set takers noted k) (set taken noted t) ranks (set reach k v)
        (set table t (get_or ranks k 0)) reach₀ table₀
    noted_next =
        record {
          room = room_next;
          slot_in = λ i l. slot_next i l (ℕ_discrete i noted);
          holds = rw add-one held_next;
          reach_back = rw add-one reach_next;
          table_back = rw add-one table_next;
        }

-- The notes as the code has them: the part that is made is lent on

module _ {noted t : ℕ} (notes : List Note) {ranks reach table reach₀ table₀ : List ℕ}
    (c : Noted noted t (takers_of notes) (taken_of notes) ranks reach table reach₀ table₀)
    (few : noted ≤ 64) where
  made : length (take noted notes) ≡ noted
  made = length-take-le noted notes (omega (arith, c.room.takers_long, length-map notes (λ n. n.taker)))

  pub lent_undoable : Undoable noted t (take noted (takers_of notes)) (take noted (taken_of notes)) ranks reach table →
      Undoable (length (take noted notes)) t (takers_of (take noted notes)) (taken_of (take noted notes)) ranks reach table
  lent_undoable u = rw (made, ← take-map (λ n. n.taker) noted notes, ← take-map (λ n. n.slot) noted notes) u

  pub lent_undone : {reach' table' : List ℕ} →
      Undone (length (take noted notes)) t (takers_of (take noted notes)) (taken_of (take noted notes)) ranks reach table reach' table' →
      Undone noted t (take noted (takers_of notes)) (take noted (taken_of notes)) ranks reach table reach' table'
  lent_undone u = rw (take-map (λ n. n.taker) noted notes, take-map (λ n. n.slot) noted notes) (rw made at u)
