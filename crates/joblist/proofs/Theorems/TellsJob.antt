-- 02, card 1: "The reader, planner, judge and list writer all change". What reader and writer answer refuses a job exactly where their checks do,
-- by the number and place of these.
use Rattle.std.specs.Prelude.{refl, List, ℕ, length}
use Rattle.std.proofs.Common.{inl, arith}
use Rattle.sched.specs.Jobs.{Jobs}
use Rattle.sched.specs.Checks.{length_check, check_of}
use Rattle.sched.proofs.Theorems.RefusesJob.{not_job, other_length}
use Rattle.sched.proofs.Theorems.TellsJob.{TellsJob, check_tells, first_tells}
use Rattle.joblist.specs.Bytes.{spelling}
use Rattle.joblist.specs.Reading.{read_check, read_if, reading, read_number, read_values}
use Rattle.joblist.specs.Writing.{written_if, writing, written_number, written_values}

pub read_tells_job : (bytes rs ds ps : List ℕ) →
    TellsJob (read_check bytes (length rs) (length ds) (length ps)) (read_number (reading bytes rs ds ps).answer) (read_values (reading bytes rs ds ps).answer)
unfolding reading
read_tells_job bytes rs ds ps =
    check_tells (λ c. read_number (read_if c bytes rs ds ps).answer) (λ c. read_values (read_if c bytes rs ds ps).answer) (λ r. refl) (λ r. refl)
    (not_job 0 (inl (omega arith))) (read_check bytes (length rs) (length ds) (length ps))

pub write_tells_job : (J : Jobs) (out : List ℕ) →
    TellsJob (check_of J) (written_number (writing J out).answer) (written_values (writing J out).answer)
unfolding writing
write_tells_job J out =
    first_tells (λ c. written_number (written_if c J out).answer) (λ c. written_values (written_if c J out).answer) (λ r. refl) (λ r. refl)
    (not_job 0 (inl (omega arith))) (check_of J) (length_check (length out) (length (spelling J))) (other_length (length out) (length (spelling J)))
