-- 02, card 6, of the call: what the tie rule leaves as it was, in the words of `specs/TieRule`.
use Rattle.std.specs.Prelude.{ℕ, refl, Bool, true, false, List, length, ltb, Err, Ok}
use Rattle.std.proofs.Common.{ap}
use Rattle.sched.specs.Refusals.{Checked}
use Rattle.sched.specs.Answers.{outcome_number, outcome_values}
use Rattle.sched.specs.declared.Outcome.{Outcome}
use Rattle.laws_rivals.proofs.TieRule.WholePlan.{ties_as_before}
use Rattle.joblist.specs.Reading.{list_of}
use Rattle.sleep_plan.specs.Block.{block_length, answered}
use Rattle.sleep_plan.specs.Entry.{after_read, bytes_check, call_answer, Entry, in_block, entry}
use Rattle.sleep_plan.specs.TieRule.{after_read_before, entry_before, CallAsBefore}

unchanged : (list : List ℕ) (e : Entry) → CallAsBefore list e e
unchanged list e = record { same_number = refl; same_block = refl; same_working = refl; same_awake = refl; same_behind = refl; same_unplanned = λ _. refl }

-- behind the check of the block
answer_as_before : (c : Checked) (list table block : List ℕ) → CallAsBefore list (in_block (after_read_before c list table) block) (in_block (after_read c list table) block)
answer_as_before (Err r) list table block = unchanged list (in_block (after_read (Err r) list table) block)
answer_as_before (Ok tt) list table block =
    let s = ties_as_before (list_of list) table in
    record {
      same_number = ap outcome_number s.same_answer;
      same_block = ap (λ (o : Outcome). answered (outcome_values o) block) s.same_answer;
      same_working = s.same_working;
      same_awake = s.same_awake;
      same_behind = s.same_behind;
      same_unplanned = s.same_unplanned;
    }

pub call_as_before : (list table block : List ℕ) → CallAsBefore list (entry_before list table block) (entry list table block)
unfolding entry call_answer
call_as_before list table block = by_length (ltb (length block) block_length)
  where
    by_length : (short : Bool) → CallAsBefore list
        (elim short as (λ _. Entry) [
          | true ↦ record { number = 17; table = table; block = block }
          | false ↦ in_block (after_read_before (bytes_check list) list table) block
        ])
        (elim short as (λ _. Entry) [
          | true ↦ record { number = 17; table = table; block = block }
          | false ↦ in_block (after_read (bytes_check list) list table) block
        ])
    by_length true = unchanged list (record { number = 17; table = table; block = block })
    by_length false = answer_as_before (bytes_check list) list table block
