-- Notes of a chain: a note has a rank, in `takers`, and the slot that it took, in `taken`; it gave up the slot that the next note takes.
use Rattle.std.specs.Prelude.{ℕ, zero, suc, ◌-◌, ◌≤◌, ◌<◌, ◌≡◌, List, length, map, get_or, set}
use Rattle.step3_slot.specs.declared.Note.{Note}

-- the ranks of the notes, and the slots that they took
abbrev pub takers_of : List Note → List ℕ
takers_of = map (λ n. n.taker)

abbrev pub taken_of : List Note → List ℕ
taken_of = map (λ n. n.slot)

-- the lists have room for a note of each rank
pub record Noteable (takers taken : List ℕ) : Type 0 where
  pub takers_long : 64 ≤ length takers
  pub taken_long : 64 ≤ length taken

-- what the slot of note i held: it slept if the note is the first, else it was the last slot of the rank noted before
unfoldable pub slot_held : ℕ → List ℕ → List ℕ → ℕ
slot_held zero takers ranks = 255
slot_held (suc i) takers ranks = get_or ranks (get_or takers i 0) 0

-- the rank noted before lies among the notes, and is the rank of a job
pub record Recallable (i : ℕ) (takers ranks : List ℕ) : Type 0 where
  pub takers_long : i ≤ length takers
  pub rank_in : 0 < i → get_or takers (i - 1) 0 < length ranks

-- the reaches after the first i notes are put back, where the last of them gave up slot t
unfoldable pub undone_reach : ℕ → ℕ → List ℕ → List ℕ → List ℕ → List ℕ
undone_reach zero t takers taken reach = reach
undone_reach (suc i) t takers taken reach = undone_reach i (get_or taken i 0) takers taken (set reach (get_or takers i 0) (suc t))

-- the table after the first i notes are put back
unfoldable pub undone_table : ℕ → List ℕ → List ℕ → List ℕ → List ℕ → List ℕ
undone_table zero takers taken ranks table = table
undone_table (suc i) takers taken ranks table = undone_table i takers taken ranks (set table (get_or taken i 0) (slot_held i takers ranks))

-- the first `noted` notes lie in their lists, and what they name in the books
pub record Undoable (noted last : ℕ) (takers taken ranks reach table : List ℕ) : Type 0 where
  pub takers_long : noted ≤ length takers
  pub taken_long : noted ≤ length taken
  pub small : length table ≤ 4096
  pub last_in : last < 4096
  pub rank_in : (i : ℕ) → i < noted → get_or takers i 0 < length reach
  pub rank_known : (i : ℕ) → i < noted → get_or takers i 0 < length ranks
  pub slot_in : (i : ℕ) → i < noted → get_or taken i 0 < length table

pub record Undone (noted last : ℕ) (takers taken ranks reach table reach' table' : List ℕ) : Type 0 where
  pub reach_is : reach' ≡ undone_reach noted last takers taken reach
  pub table_is : table' ≡ undone_table noted takers taken ranks table
