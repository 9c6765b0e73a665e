-- The entries of a list, by the table of the eight maps: behind the header they stand one behind the other, each as the row of its job's map says, and
-- nothing follows the last. So it is of all bytes that `read` takes, and of all that `write` writes.
use Prim.Native.Nat.{ℕ, zero, suc, ◌+◌, ◌≤◌, ◌<◌}
use Rattle.std.specs.Prelude.{◌≡◌, get_or}
use mathlib.Core.List.{List}
use Rattle.std.proofs.Math.ListN.{length, drop}
use Rattle.sched.specs.Jobs.{Jobs, count}
use Rattle.list_parts.specs.Header.{header_length}
use Rattle.list_parts.specs.Layout.{absent_release, absent_deadline, absent_volume, job_map}
use Rattle.joblist.specs.Theorems.EightMaps.{Row, row_of, field_at}

-- the row of the map byte at an offset
abbrev pub row_at : List ℕ → ℕ → Row
row_at bytes at = row_of (get_or (drop at bytes) 0 0)

-- the offset of the i-th entry behind the one at `at`: each starts where the one before ends
unfoldable pub entry_start : List ℕ → ℕ → ℕ → ℕ
entry_start bytes at zero = at
entry_start bytes at (suc i) = entry_start bytes (at + (row_at bytes at).size) i

-- the job (r, d, p) stands at an offset: its map, all bytes of its row, and each field where the row says
pub record JobAt (h r d p : ℕ) (bytes : List ℕ) (at : ℕ) : Type 0 where
  pub map : get_or (drop at bytes) 0 0 ≡ job_map h r d p
  pub inside : at + (row_at bytes at).size ≤ length bytes
  pub release : r ≡ field_at (row_at bytes at).release absent_release (drop at bytes)
  pub deadline : d ≡ field_at (row_at bytes at).deadline (absent_deadline h) (drop at bytes)
  pub volume : p ≡ field_at (row_at bytes at).volume absent_volume (drop at bytes)

-- the entries of a list's jobs fill the bytes behind the header
pub record LaidOut (J : Jobs) (bytes : List ℕ) : Type 0 where
  pub jobs : (j : ℕ) → j < count J →
      JobAt J.horizon (get_or J.releases j 0) (get_or J.deadlines j 0) (get_or J.volumes j 0) bytes (entry_start bytes header_length j)
  pub end : entry_start bytes header_length (count J) ≡ length bytes
