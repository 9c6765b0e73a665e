-- 02, card 2: plan records, whose layout 01 gives, read back. What the reader answers to any bytes, and what it leaves in the lent table.
use Rattle.std.specs.Prelude.{ℕ, ◌≡◌, List, [], ◌∷◌, length, drop, Err, Ok, Result}
use Rattle.sched.specs.TwoBytes.{word}
use Rattle.sched.specs.Refusals.{number, place, Checked}
use Rattle.sched.specs.Checks.{and_then, length_check}
use Rattle.record_parts.specs.Layout.{behind_map}
use Rattle.record_parts.specs.Bytes.{slots_in, record_check, spread}
use Rattle.record.specs.Record.{out_after}
use Rattle.sched.specs.declared.Refusal.{Refusal}

-- "then 17 for the table"
abbrev pub read_check : List ℕ → ℕ → Checked
read_check bytes have = and_then (record_check bytes) (length_check have (word bytes))

-- the table of a record
abbrev pub table_in : List ℕ → List ℕ
table_in bytes = spread (slots_in bytes) (drop (behind_map (word bytes)) bytes)

-- "gives H"
abbrev pub read_answer : List ℕ → Checked → Result ℕ Refusal
read_answer bytes (Ok tt) = Ok (word bytes)
read_answer bytes (Err r) = Err r

-- a refusal has its number with its place; the number 0 beside H is ours
abbrev pub read_number : Result ℕ Refusal → ℕ
read_number (Ok h) = 0
read_number (Err r) = number r

abbrev pub read_values : Result ℕ Refusal → List ℕ
read_values (Ok h) = h ∷ []
read_values (Err r) = place r ∷ []

-- the promise: number and values of the answer, its case, and every byte of the table: it "fills a lent table of H bytes and keeps later
-- bytes", and a refusal changes none
pub record Reads (bytes lent : List ℕ) (answer : Result ℕ Refusal) (after : List ℕ) : Type 0 where
  pub number : read_number answer ≡ read_number (read_answer bytes (read_check bytes (length lent)))
  pub values : read_values answer ≡ read_values (read_answer bytes (read_check bytes (length lent)))
  pub same : answer ≡ read_answer bytes (read_check bytes (length lent))
  pub table : after ≡ out_after (table_in bytes) lent (read_check bytes (length lent))
