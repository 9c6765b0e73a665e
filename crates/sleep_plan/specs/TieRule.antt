-- 02, card 6, seen from C: for every list of bytes, every table and every block, the number that comes back and the block are those from before the card,
-- and in the table the same slots work and are awake. What a call gave before the card is defined here, to be compared with.
use Rattle.std.specs.Prelude.{ℕ, ◌≡◌, true, false, List, [], ◌∷◌, length, drop, ltb, Err, Ok}
use Rattle.sched.specs.Refusals.{number, place, Checked}
use Rattle.sched.specs.Slots.{awake_of, working_of}
use Rattle.laws_rivals.specs.TieRule.{plan_before}
use Rattle.joblist.specs.Reading.{list_of}
use Rattle.sleep_plan.specs.Block.{block_length}
use Rattle.sleep_plan.specs.Entry.{Answer, answer_of, bytes_check, Entry, in_block}

-- Before the card

abbrev pub after_read_before : Checked → List ℕ → List ℕ → Answer
after_read_before (Err r) list table = record { number = number r; values = place r ∷ []; table = table }
after_read_before (Ok tt) list table = answer_of (plan_before (list_of list) table)

abbrev pub entry_before : List ℕ → List ℕ → List ℕ → Entry
entry_before list table block =
    elim (ltb (length block) block_length) [
      | true ↦ record { number = 17; table = table; block = block }
      | false ↦ in_block (after_read_before (bytes_check list) list table) block
    ]

-- The number that comes back and the block are the same; in the table the same slots work and are awake, the bytes behind the list's horizon are the same, and where 0
-- does not come back it is the same table.
pub record CallAsBefore (list : List ℕ) (before after : Entry) : Type 0 where
  pub same_number : after.number ≡ before.number
  pub same_block : after.block ≡ before.block
  pub same_working : working_of after.table ≡ working_of before.table
  pub same_awake : awake_of after.table ≡ awake_of before.table
  pub same_behind : drop (list_of list).horizon after.table ≡ drop (list_of list).horizon before.table
  pub same_unplanned : (after.number ≡ 0 → ⊥) → after.table ≡ before.table
