-- A call from C: of the record reader, the number of its answer and the table that it leaves; of the search for the tightest interval, what comes back and
-- the ends that it leaves.
use Rattle.std.specs.Prelude.{ℕ, ◌≡◌, List, [], ◌∷◌, length, ℤ, pos, Err, Ok, Result}
use Rattle.record.specs.Record.{out_after}
use Rattle.record.specs.Reading.{read_check, table_in, read_answer, read_number}
use Rattle.sched.specs.declared.Refusal.{Refusal}
use Rattle.tightest.specs.declared.Tight.{Tight}

pub record ReadsFromC (bytes lent : List ℕ) (answer : ℕ) (after : List ℕ) : Type 0 where
  pub number : answer ≡ read_number (read_answer bytes (read_check bytes (length lent)))
  pub table : after ≡ out_after (table_in bytes) lent (read_check bytes (length lent))

-- a and b in front, if there is room for both
abbrev pub ends_in : ℕ → ℕ → List ℕ → List ℕ
ends_in a b [] = []
ends_in a b (x ∷ []) = x ∷ []
ends_in a b (x ∷ y ∷ rest) = a ∷ b ∷ rest

-- the slack; for a refusal a number that no slack has
abbrev pub tightest_value : Result Tight Refusal → ℤ
tightest_value (Ok x) = x.slack
tightest_value (Err r) = pos 65536

-- a refusal leaves the ends as they were
abbrev pub tightest_ends : Result Tight Refusal → List ℕ → List ℕ
tightest_ends (Ok x) lent = ends_in x.a x.b lent
tightest_ends (Err r) lent = lent

pub record TightestFromC (answer : Result Tight Refusal) (lent : List ℕ) (value : ℤ) (after : List ℕ) : Type 0 where
  pub given : value ≡ tightest_value answer
  pub ends : after ≡ tightest_ends answer lent
