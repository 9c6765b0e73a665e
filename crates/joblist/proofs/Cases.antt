-- 01, "Plans worked by hand": the bytes of the third list; a longest list; and lists with two faults. Closed cases, so that an edit of a
-- definition is refused here.
use Rattle.std.specs.Prelude.{ℕ, ◌≡◌, refl, List, [], ◌∷◌, ◌++◌, length, replicate, Err, Ok}
use Rattle.sched.specs.Jobs.{Jobs, jobs_of, count}
use Rattle.sched.specs.Checks.{Passes, check_from}
use Rattle.sched.proofs.Checks.Laws.{passed_passes}
use Rattle.sched.proofs.Cases.{third}
use Rattle.sched.specs.declared.Refusal.TheVariants.{Redundant, NoVolume, LeftOver}
use Rattle.list_parts.specs.Layout.{entry_bytes}
use Rattle.list_parts.specs.Entries.{map_check, redundancy_check, entry_check, entries_check, column}
use Rattle.joblist.specs.Bytes.{entries_bytes, spelling}
use Rattle.joblist.specs.Reading.{read_check, list_of, reading}

-- "The third case in hex"
abbrev pub third_bytes : List ℕ
third_bytes =
    0x0A ∷ 0x00 ∷ 0x03 ∷ 0x00 ∷ 0x03 ∷ 0x02 ∷ 0x03 ∷ 0x00 ∷ 0x05 ∷ 0x08 ∷ 0x00 ∷ 0x02 ∷ 0x00 ∷ 0x04 ∷ 0x05 ∷ 0x00 ∷ []

pub third_spelled : spelling third ≡ third_bytes
unfolding spelling entries_bytes entry_bytes
third_spelled = refl

pub third_list : list_of third_bytes ≡ third
unfolding column
third_list = refl

-- into lists of 64, as the program and the C entry lend them
pub third_passes : read_check third_bytes 64 64 64 ≡ Ok tt
unfolding map_check redundancy_check entry_check entries_check
third_passes = refl

-- into lent lists with an entry more than it has jobs
pub third_read : reading third_bytes (replicate 4 9) (replicate 4 9) (replicate 4 9) ≡
    record {
      answer = Ok (record { h = third.horizon; q = third.wake; count = count third });
      releases = third.releases ++ (9 ∷ []);
      deadlines = third.deadlines ++ (9 ∷ []);
      volumes = third.volumes ++ (9 ∷ []);
    }
unfolding reading map_check redundancy_check entry_check entries_check column
third_read = refl

-- 64 jobs (1, 2, 2) in three slots: each has all three fields
abbrev pub longest : Jobs
longest = jobs_of 3 0 (replicate 64 1) (replicate 64 2) (replicate 64 2)

pub longest_passes : Passes longest
unfolding check_from
longest_passes = passed_passes longest refl

pub longest_length : length (spelling longest) ≡ 453
unfolding spelling entries_bytes entry_bytes
longest_length = refl

-- a byte behind it is seen, so 453 bytes of an input are too few to tell
pub byte_left_over : read_check (spelling longest ++ (0 ∷ [])) 64 64 64 ≡ Err (LeftOver 453)
unfolding spelling entries_bytes entry_bytes map_check redundancy_check entry_check entries_check
byte_left_over = refl

-- job 0 is (5, 11, 1), and its volume stands: 14 comes before 25
pub field_before_job : read_check (10 ∷ 0 ∷ 0 ∷ 0 ∷ 1 ∷ 7 ∷ 5 ∷ 0 ∷ 11 ∷ 0 ∷ 1 ∷ 0 ∷ []) 64 64 64 ≡ Err (Redundant 10)
unfolding map_check redundancy_check entry_check entries_check
field_before_job = refl

-- job 0 has volume 0, and the map byte of job 1 an unknown bit: a fault of an earlier job comes first
pub earlier_job_first : read_check (10 ∷ 0 ∷ 0 ∷ 0 ∷ 2 ∷ 4 ∷ 0 ∷ 0 ∷ 8 ∷ []) 64 64 64 ≡ Err (NoVolume 0)
unfolding map_check redundancy_check entry_check entries_check
earlier_job_first = refl
