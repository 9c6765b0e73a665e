-- 01, "Plans worked by hand", last paragraph: the text that a program prints of an outcome and its table; what the writer puts out for each
-- lent output; and the number and values of each answer.
use Rattle.std.specs.Prelude.{ℕ, ◌≤◌, ◌≡◌, List, [], ◌∷◌, ◌++◌, length, drop, Err, Ok, Result}
use Rattle.sched.specs.Slots.{awake_of}
use Rattle.sched.specs.Runs.{Run, run_list}
use Rattle.sched.specs.Refusals.{number, place, Checked}
use Rattle.sched.specs.Checks.{length_check}
use Rattle.sched.specs.Answers.{outcome_number, outcome_values}
use Rattle.sched.specs.declared.Outcome.{Outcome}
use Rattle.sched.specs.declared.Outcome.TheVariants.{Planned, Overloaded, Refused as RefusedOutcome}
use Rattle.decimal.specs.Decimal.{digits}
use Rattle.sched.specs.declared.Refusal.{Refusal}
pub mod Laws

-- in ASCII: plan, run, refused
abbrev pub plan_word : List ℕ
plan_word = 112 ∷ 108 ∷ 97 ∷ 110 ∷ []

abbrev pub run_word : List ℕ
run_word = 114 ∷ 117 ∷ 110 ∷ []

abbrev pub refused_word : List ℕ
refused_word = 114 ∷ 101 ∷ 102 ∷ 117 ∷ 115 ∷ 101 ∷ 100 ∷ []

-- "Numbers are decimal, one space apart", the first one space behind its word
unfoldable pub numbers : List ℕ → List ℕ
numbers [] = []
numbers (n ∷ ns) = 32 ∷ (digits n ++ numbers ns)

-- "byte 10 ends each line"
abbrev pub line : List ℕ → List ℕ → List ℕ
line word ns = word ++ (numbers ns ++ (10 ∷ []))

-- "Each further line holds a run's first slot and length, rising."
abbrev pub run_line : ℕ → ℕ → List ℕ
run_line first slots = line run_word (first ∷ slots ∷ [])

unfoldable pub lines_of : List Run → List ℕ
lines_of [] = []
lines_of (r ∷ rs) = run_line r.first r.slots ++ lines_of rs

abbrev pub run_lines : List ℕ → List ℕ
run_lines slots = lines_of (run_list (awake_of slots))

-- "The first line holds energy, awake, runs, added."
abbrev pub plan_text : Outcome → List ℕ → List ℕ
plan_text outcome slots = line plan_word (outcome_values outcome) ++ run_lines slots

-- "A refusal prints one line: refused, number, place (for 18 both ends)"
abbrev pub refused_text : Outcome → List ℕ
refused_text outcome = line refused_word (outcome_number outcome ∷ outcome_values outcome)

-- the text of an outcome and of a table of just H bytes
abbrev pub text_of : Outcome → List ℕ → List ℕ
text_of (Planned f) slots = plan_text (Planned f) slots
text_of (Overloaded i) slots = refused_text (Overloaded i)
text_of (RefusedOutcome r) slots = refused_text (RefusedOutcome r)

-- 17 for an output that does not hold the text
abbrev pub text_check : List ℕ → List ℕ → Checked
text_check text out = length_check (length out) (length text)

-- the answer: the text's length
abbrev pub text_answer : List ℕ → Checked → Result ℕ Refusal
text_answer text (Ok tt) = Ok (length text)
text_answer text (Err r) = Err r

-- the lent output afterwards: the text at its front, and a refusal changes no byte
abbrev pub text_after : List ℕ → List ℕ → Checked → List ℕ
text_after text out (Ok tt) = text ++ drop (length text) out
text_after text out (Err r) = out

-- 17 has 01's number with its place; 0 with the text's length is ours
abbrev pub written_number : Result ℕ Refusal → ℕ
written_number (Ok n) = 0
written_number (Err r) = number r

abbrev pub written_values : Result ℕ Refusal → List ℕ
written_values (Ok n) = n ∷ []
written_values (Err r) = place r ∷ []

-- the promise for a text: number and values of the answer, its case, and every byte of the output
pub record TextPromise (text out : List ℕ) (answer : Result ℕ Refusal) (after : List ℕ) : Type 0 where
  pub number : written_number answer ≡ written_number (text_answer text (text_check text out))
  pub values : written_values answer ≡ written_values (text_answer text (text_check text out))
  pub same : answer ≡ text_answer text (text_check text out)
  pub bytes : after ≡ text_after text out (text_check text out)

-- what the writer's parts ask: a word and numbers that fit one line, and a table of at most 65,535 slots
pub record Printable (word values slots : List ℕ) : Type 0 where
  pub short : length word ≤ 7
  pub few : length values ≤ 4
  pub within : length slots ≤ 65535
