-- 01, "Job list bytes" and "Refused, and where": the list writer. Its answer and the lent buffer afterwards, for every input.
use Rattle.std.specs.Prelude.{ℕ, ◌≡◌, List, [], ◌∷◌, ◌++◌, length, drop, Err, Ok, Result}
use Rattle.sched.specs.Jobs.{Jobs}
use Rattle.sched.specs.Refusals.{number, place, Checked}
use Rattle.sched.specs.Checks.{and_then, length_check, check_of}
use Rattle.joblist.specs.Bytes.{spelling}
use Rattle.sched.specs.declared.Refusal.{Refusal}

-- the list checks, then 17 with "the list's length"
abbrev pub spell_check : Jobs → ℕ → Checked
spell_check J size = and_then (check_of J) (length_check size (length (spelling J)))

-- the writer's answer, and the lent buffer afterwards
pub record Writing : Type 0 where
  pub answer : Result ℕ Refusal
  pub out : List ℕ

-- "An accepted call changes no byte or entry past what it writes."
abbrev pub written_if : Checked → Jobs → List ℕ → Writing
written_if (Ok tt) J out = record { answer = Ok (length (spelling J)); out = spelling J ++ drop (length (spelling J)) out }
written_if (Err r) J out = record { answer = Err r; out = out }

unfoldable pub writing : Jobs → List ℕ → Writing
writing J out = written_if (spell_check J (length out)) J out

-- the number and values of an answer: a refusal's are 01's, its number with its place; 0 with the length for a list that was written is ours
abbrev pub written_number : Result ℕ Refusal → ℕ
written_number (Ok n) = 0
written_number (Err r) = number r

abbrev pub written_values : Result ℕ Refusal → List ℕ
written_values (Ok n) = n ∷ []
written_values (Err r) = place r ∷ []

-- what `write` promises of its answer and of the lent buffer as it returns
pub record WritePromise (J : Jobs) (out : List ℕ) (answer : Result ℕ Refusal) (out' : List ℕ) : Type 0 where
  pub same : answer ≡ (writing J out).answer
  pub number : written_number answer ≡ written_number (writing J out).answer
  pub values : written_values answer ≡ written_values (writing J out).answer
  pub kept : out' ≡ (writing J out).out
