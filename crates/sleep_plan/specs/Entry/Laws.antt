-- From what the reader, the planner and the block's functions promise to what the entry promises.
use Rattle.std.specs.Prelude.{ℕ, ◌≤◌, ◌<◌, ◌≡◌, List, [], ◌∷◌, length, Err, Ok}
use Rattle.std.proofs.Common.{ap, lt-ltb, le-ltb}
use Rattle.sched.specs.Refusals.{number, place, Checked}
use Rattle.steps.specs.Outcomes.{plan}
use Rattle.sched.specs.declared.Refusal.{Refusal}
use Rattle.joblist.specs.Reading.{list_of}
use Rattle.sleep_plan.specs.Block.{block_length}
use Rattle.sleep_plan.specs.Entry.{answer_of, after_read, bytes_check, call_answer, in_block, entry}

-- the entry by its two tests
pub entry_short : (list table block : List ℕ) → length block < block_length → entry list table block ≡ record { number = 17; table = table; block = block }
unfolding entry
entry_short list table block l = rw (lt-ltb (length block) block_length l, entry)

pub entry_answers : (list table block : List ℕ) → block_length ≤ length block → entry list table block ≡ in_block (call_answer list table) block
unfolding entry
entry_answers list table block l = rw (le-ltb (length block) block_length l, entry)

pub answer_refused : (list table : List ℕ) (r : Refusal) → bytes_check list ≡ Err r → call_answer list table ≡ record { number = number r; values = place r ∷ []; table = table }
unfolding call_answer
answer_refused list table r e = ap (λ (c : Checked). after_read c list table) e

pub answer_planned : (list table : List ℕ) → bytes_check list ≡ Ok tt → call_answer list table ≡ answer_of (plan (list_of list) table)
unfolding call_answer
answer_planned list table e = ap (λ (c : Checked). after_read c list table) e
