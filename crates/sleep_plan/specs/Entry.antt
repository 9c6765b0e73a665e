-- 01, "Refused, and where", last paragraph: what a call from C returns, and what the table and the block hold afterwards, for every input.
use Rattle.std.specs.Prelude.{ℕ, true, false, List, [], ◌∷◌, length, ltb, Err, Ok}
use Rattle.sched.specs.Refusals.{number, place, Checked}
use Rattle.steps.specs.Outcomes.{Plan, plan}
use Rattle.sched.specs.Answers.{outcome_number, outcome_values}
use Rattle.joblist.specs.Reading.{read_check, list_of}
use Rattle.sleep_plan.specs.Block.{block_length, answered}
pub mod Laws

-- the number returned, the values with it, and the table afterwards
pub record Answer : Type 0 where
  pub number : ℕ
  pub values : List ℕ
  pub table : List ℕ

abbrev pub answer_of : Plan → Answer
answer_of p = record { number = outcome_number p.answer; values = outcome_values p.answer; table = p.table }

-- "After the list has been read without refusal, planning begins."
abbrev pub after_read : Checked → List ℕ → List ℕ → Answer
after_read (Err r) list table = record { number = number r; values = place r ∷ []; table = table }
after_read (Ok tt) list table = answer_of (plan (list_of list) table)

-- the entry lends the reader three lists of 64, so it can read every list
abbrev pub bytes_check : List ℕ → Checked
bytes_check list = read_check list 64 64 64

unfoldable pub call_answer : List ℕ → List ℕ → Answer
call_answer list table = after_read (bytes_check list) list table

-- the number returned, and the two lent buffers afterwards
pub record Entry : Type 0 where
  pub number : ℕ
  pub table : List ℕ
  pub block : List ℕ

abbrev pub in_block : Answer → List ℕ → Entry
in_block a block = record { number = a.number; table = a.table; block = answered a.values block }

-- "A block under 16 bytes returns 17, before all other checks, without a place, and nothing is written."
unfoldable pub entry : List ℕ → List ℕ → List ℕ → Entry
entry list table block =
    elim (ltb (length block) block_length) [
      | true ↦ record { number = 17; table = table; block = block }
      | false ↦ in_block (call_answer list table) block
    ]
