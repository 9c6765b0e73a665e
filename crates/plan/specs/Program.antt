-- 01, "Plans worked by hand", last paragraph: what the program prints of the bytes that it read.
use Rattle.std.specs.Prelude.{ℕ, ◌≤◌, ◌≡◌, List, [], length, take, replicate, Err, Ok}
use Rattle.sched.specs.Jobs.{Jobs}
use Rattle.steps.specs.Outcomes.{plan}
use Rattle.sched.specs.declared.Outcome.TheVariants.{Refused}
use Rattle.joblist.specs.Reading.{read_check, list_of}
use Rattle.report.specs.Report.{text_of}
use Rattle.sched.specs.Refusals.{Checked}

-- the table that the program lends the planner, long enough for every horizon
abbrev pub lent_table : List ℕ
lent_table = replicate 4096 0

abbrev pub printed_plan : Jobs → List ℕ
printed_plan J = text_of (plan J lent_table).answer (take J.horizon (plan J lent_table).table)

-- "After the list has been read without refusal, planning begins."
abbrev pub printed_after : Checked → List ℕ → List ℕ
printed_after (Err r) input = text_of (Refused r) []
printed_after (Ok tt) input = printed_plan (list_of input)

-- the program lends the reader three lists of 64, so it can read every list
unfoldable pub printed : List ℕ → List ℕ
printed input = printed_after (read_check input 64 64 64) input

-- the first n bytes of a buffer are this text
pub record StartsWith (text : List ℕ) (n : ℕ) (buffer : List ℕ) : Type 0 where
  pub within : n ≤ length buffer
  pub bytes : take n buffer ≡ text
