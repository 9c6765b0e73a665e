-- 01, "Job list bytes" and "Refused, and where": the reader. Its answer and the three lent lists afterwards, for every input.
use Rattle.std.specs.Prelude.{ℕ, ◌≤◌, ◌≡◌, List, [], ◌∷◌, ◌++◌, length, drop, Err, Ok, Result}
use Rattle.sched.specs.Jobs.{Jobs}
use Rattle.sched.specs.Refusals.{number, place, Checked}
use Rattle.sched.specs.Checks.{JobCheck, and_then, length_check, job_check}
use Rattle.list_parts.specs.Header.{header_length, header_horizon, header_wake, header_count, header_start, header_check}
use Rattle.list_parts.specs.Entries.{release_of, deadline_of, volume_of, entry_size, entry_check, entries_check, column}
use Rattle.sched.specs.declared.Refusal.{Refusal}
use Rattle.joblist.specs.declared.ListHeader.{ListHeader}

-- The checks of the whole input

-- "17 if a lent list is shorter than the count": the lengths of the three lists
abbrev pub lent_check : ℕ → ℕ → ℕ → ℕ → Checked
lent_check n r d p = and_then (length_check r n) (and_then (length_check d n) (length_check p n))

-- three lists of these lengths have room for n jobs
pub record LentRoom (n r d p : ℕ) : Type 0 where
  pub releases : n ≤ r
  pub deadlines : n ≤ d
  pub volumes : n ≤ p

-- the entries behind the header, by a check of jobs
abbrev pub behind_header : JobCheck → ℕ → ℕ → List ℕ → Checked
behind_header check h count bytes = entries_check (entry_check check h (length bytes)) entry_size count 0 header_length (drop header_length bytes)

abbrev pub input_check : JobCheck → List ℕ → ℕ → ℕ → ℕ → Checked
input_check check bytes r d p =
    and_then (header_check bytes)
    (and_then (lent_check (header_count bytes) r d p)
    (behind_header check (header_horizon bytes) (header_count bytes) bytes))

abbrev pub read_check : List ℕ → ℕ → ℕ → ℕ → Checked
read_check = input_check job_check

-- The list that bytes stand for

abbrev pub list_of : List ℕ → Jobs
list_of bytes =
    record {
      horizon = header_horizon bytes;
      wake = header_wake bytes;
      start = header_start bytes;
      releases = column entry_size release_of (header_count bytes) (drop header_length bytes);
      deadlines = column entry_size (deadline_of (header_horizon bytes)) (header_count bytes) (drop header_length bytes);
      volumes = column entry_size volume_of (header_count bytes) (drop header_length bytes);
    }

-- the reader's answer, and the three lent lists afterwards
pub record Reading : Type 0 where
  pub answer : Result ListHeader Refusal
  pub releases : List ℕ
  pub deadlines : List ℕ
  pub volumes : List ℕ

-- "Read jobs go to three lent lists (releases, deadlines, volumes); entries past the count keep their values."
abbrev pub accepted : List ℕ → List ℕ → List ℕ → List ℕ → Reading
accepted bytes rs ds ps =
    record {
      answer = Ok (record { h = header_horizon bytes; q = header_wake bytes; count = header_count bytes });
      releases = (list_of bytes).releases ++ drop (header_count bytes) rs;
      deadlines = (list_of bytes).deadlines ++ drop (header_count bytes) ds;
      volumes = (list_of bytes).volumes ++ drop (header_count bytes) ps;
    }

-- "Every refusal leaves all lent memory unchanged"
abbrev pub read_if : Checked → List ℕ → List ℕ → List ℕ → List ℕ → Reading
read_if (Ok tt) bytes rs ds ps = accepted bytes rs ds ps
read_if (Err r) bytes rs ds ps = record { answer = Err r; releases = rs; deadlines = ds; volumes = ps }

unfoldable pub reading : List ℕ → List ℕ → List ℕ → List ℕ → Reading
reading bytes rs ds ps = read_if (read_check bytes (length rs) (length ds) (length ps)) bytes rs ds ps

-- the number and values of an answer: a refusal's are 01's, its number with its place; 0 with H, q and the count for a list that was read is ours
abbrev pub read_number : Result ListHeader Refusal → ℕ
read_number (Ok list) = 0
read_number (Err r) = number r

abbrev pub read_values : Result ListHeader Refusal → List ℕ
read_values (Ok list) = list.h ∷ list.q ∷ list.count ∷ []
read_values (Err r) = place r ∷ []

-- what `read` promises of its answer and of the three lent lists as it returns
pub record ReadPromise (bytes rs ds ps : List ℕ) (answer : Result ListHeader Refusal) (rs' ds' ps' : List ℕ) : Type 0 where
  pub same : answer ≡ (reading bytes rs ds ps).answer
  pub number : read_number answer ≡ read_number (reading bytes rs ds ps).answer
  pub values : read_values answer ≡ read_values (reading bytes rs ds ps).answer
  pub releases : rs' ≡ (reading bytes rs ds ps).releases
  pub deadlines : ds' ≡ (reading bytes rs ds ps).deadlines
  pub volumes : ps' ≡ (reading bytes rs ds ps).volumes
