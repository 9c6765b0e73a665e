-- With the length of an entry as eight cases no answer changes: every input is checked and read as it was when the length was counted from the fields
-- that stand. The checks and the reading by the counted length stand in this file alone. What is written never named the length.
use Prim.Native.Nat.{ℕ, ◌+◌}
use Rattle.std.specs.Prelude.{length, drop, Err, Ok}
use mathlib.Core.List.{List, ◌++◌}
use Rattle.sched.specs.Jobs.{Jobs}
use Rattle.sched.specs.Checks.{and_then, job_check}
use Rattle.list_parts.specs.Header.{header_length, header_horizon, header_wake, header_count, header_start, header_check}
use Rattle.list_parts.specs.Layout.{has_volume, width, volume_at}
use Rattle.list_parts.specs.Entries.{EntryCheck, entry_map, known_maps, release_of, deadline_of, volume_of, map_check, whole_check}
use Rattle.list_parts.specs.Entries.{redundancy_check, fault_check, entries_check, column}
use Rattle.joblist.specs.Reading.{lent_check, Reading}
use Rattle.sched.specs.Refusals.{Checked}

-- Before

abbrev pub size_before : List ℕ → ℕ
size_before bs = volume_at (entry_map bs) + width (has_volume (entry_map bs))

abbrev pub entry_check_before : ℕ → ℕ → EntryCheck
entry_check_before h n j at bs =
    and_then (map_check known_maps n at bs)
    (and_then (whole_check (size_before bs) n bs)
    (and_then (redundancy_check h at bs) (fault_check job_check h j bs)))

abbrev pub read_check_before : List ℕ → ℕ → ℕ → ℕ → Checked
read_check_before bytes r d p =
    and_then (header_check bytes)
    (and_then (lent_check (header_count bytes) r d p)
    (entries_check (entry_check_before (header_horizon bytes) (length bytes)) size_before (header_count bytes) 0 header_length (drop header_length bytes)))

abbrev pub list_before : List ℕ → Jobs
list_before bytes =
    record {
      horizon = header_horizon bytes;
      wake = header_wake bytes;
      start = header_start bytes;
      releases = column size_before release_of (header_count bytes) (drop header_length bytes);
      deadlines = column size_before (deadline_of (header_horizon bytes)) (header_count bytes) (drop header_length bytes);
      volumes = column size_before volume_of (header_count bytes) (drop header_length bytes);
    }

abbrev pub read_if_before : Checked → List ℕ → List ℕ → List ℕ → List ℕ → Reading
read_if_before (Ok tt) bytes rs ds ps =
    record {
      answer = Ok (record { h = header_horizon bytes; q = header_wake bytes; count = header_count bytes });
      releases = (list_before bytes).releases ++ drop (header_count bytes) rs;
      deadlines = (list_before bytes).deadlines ++ drop (header_count bytes) ds;
      volumes = (list_before bytes).volumes ++ drop (header_count bytes) ps;
    }
read_if_before (Err r) bytes rs ds ps = record { answer = Err r; releases = rs; deadlines = ds; volumes = ps }

abbrev pub reading_before : List ℕ → List ℕ → List ℕ → List ℕ → Reading
reading_before bytes rs ds ps = read_if_before (read_check_before bytes (length rs) (length ds) (length ps)) bytes rs ds ps
