-- 01, "Job list bytes": "The longest list has 453 bytes"; and "Plans worked by hand": "A program reads up to 454 bytes". No more are needed:
-- what follows them changes neither the answer nor the list read.
use Rattle.std.specs.Prelude.{ℕ, ◌≤◌, ◌≡◌, refl, false, List, length, take}
use Rattle.std.proofs.Common.{sym, ap, ◌∙◌, arith, take_all}
use Rattle.sched.specs.Jobs.{Jobs}
use Rattle.sched.specs.Checks.{Passes}
use Rattle.joblist.specs.Bytes.{spelling}
use Rattle.joblist.specs.Reading.{read_check, reading}
use Rattle.joblist.proofs.Cases.{longest, longest_passes, longest_length}
use Rattle.joblist.proofs.Laws.Input.{reading_refused}
use Rattle.joblist.proofs.Laws.Front.{read_cut, read_short}
use Rattle.joblist.proofs.Theorems.{spelling_read}
pub mod Read

-- no list that passes the list checks has more than n bytes, and one has n
pub record LongestSpelling (n : ℕ) : Type 0 where
  pub most : (J : Jobs) → Passes J → length (spelling J) ≤ n
  pub reached : (J : Jobs) × (J.start ≡ false) × Passes J × (length (spelling J) ≡ n)

pub longest_list : LongestSpelling 453
longest_list =
    record {
      most = λ J g.
          omega (
            arith,
            read_short (spelling J) 64 64 64
                (spelling_read J 64 64 64 g (record { releases = g.few; deadlines = g.few; volumes = g.few })),
          );
      reached = (longest, refl, longest_passes, longest_length);
    }

-- "reads up to 454 bytes": any input is answered as its first 454 bytes are, whatever they and the rest may be

pub first_bytes_check : (bytes : List ℕ) (r d p : ℕ) → read_check (take 454 bytes) r d p ≡ read_check bytes r d p
first_bytes_check bytes r d p = read_cut 454 bytes r d p (omega arith)
