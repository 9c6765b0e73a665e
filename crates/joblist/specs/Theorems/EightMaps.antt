-- The eight maps of 01, "Job list bytes", as a table of eight rows that can be ticked off, and that the table is the whole layout of an entry,
-- for the reader and for the writer; `LaidOut` puts entries together. `read_check` and `list_of`, by which `read` promises, are made of `entry_check`,
-- `entries_check` and `column`; `spelling`, by which `write` promises, of `entry_bytes`.
use Rattle.std.specs.Prelude.{ℕ, suc, ◌+◌, ◌≡◌, List, [], ◌∷◌, length, get_or, take, drop, eqb, Ok}
use Rattle.std.proofs.Math.Option.{Option, none, some}
use Rattle.sched.specs.Checks.{refuse_if, and_then, job_check}
use Rattle.sched.specs.TwoBytes.{two_bytes, word}
use Rattle.sched.specs.declared.Refusal.TheVariants.{Redundant}
use Rattle.list_parts.specs.Layout.{absent_release, absent_deadline, absent_volume, entry_length, job_map, entry_bytes}
use Rattle.list_parts.specs.Entries.{release_of, deadline_of, volume_of, entry_size, whole_check}
use Rattle.list_parts.specs.Entries.{entry_check, entries_check, column}
use Rattle.sched.specs.Refusals.{Checked}

-- A row: a map; for release, deadline and volume, two bytes each, low byte first, the offset from the map byte, if they stand; and the length of the
-- entry, which is what `entry_length` says
pub record Row : Type 0 where
  pub map : ℕ
  pub release : Option ℕ
  pub deadline : Option ℕ
  pub volume : Option ℕ
  pub size : ℕ

abbrev pub rows : List Row
rows =
    record { map = 0; release = none; deadline = none; volume = none; size = 1 }
    ∷ record { map = 1; release = some 1; deadline = none; volume = none; size = 3 }
    ∷ record { map = 2; release = none; deadline = some 1; volume = none; size = 3 }
    ∷ record { map = 3; release = some 1; deadline = some 3; volume = none; size = 5 }
    ∷ record { map = 4; release = none; deadline = none; volume = some 1; size = 3 }
    ∷ record { map = 5; release = some 1; deadline = none; volume = some 3; size = 5 }
    ∷ record { map = 6; release = none; deadline = some 1; volume = some 3; size = 5 }
    ∷ record { map = 7; release = some 1; deadline = some 3; volume = some 5; size = 7 }
    ∷ []

-- the row of a map; for other numbers a row without fields and bytes, which is none of the table
abbrev pub row_of : ℕ → Row
row_of m = get_or rows m (record { map = m; release = none; deadline = none; volume = none; size = 0 })

-- What a row says to a reader of bytes that start with its map

-- a field: its two bytes where it stands, else its absent value
abbrev pub field_at : Option ℕ → ℕ → List ℕ → ℕ
field_at (some offset) absent bs = word (drop offset bs)
field_at none absent bs = absent

-- 14 for a field: it stands with its absent value; its place is the offset of the field in the input
abbrev pub redundant_at : Option ℕ → ℕ → ℕ → List ℕ → Checked
redundant_at (some offset) absent at bs = refuse_if (eqb (word (drop offset bs)) absent) (Redundant (at + offset)) (Ok tt)
redundant_at none absent at bs = Ok tt

-- the checks of job j, whose entry starts at offset `at` of an input of n bytes: 11 for the fields, 14 in field order, then the job
abbrev pub check_by : Row → ℕ → ℕ → ℕ → ℕ → List ℕ → Checked
check_by row h n j at bs =
    and_then (whole_check row.size n bs)
    (and_then (and_then (redundant_at row.release absent_release at bs)
    (and_then (redundant_at row.deadline (absent_deadline h) at bs) (redundant_at row.volume absent_volume at bs)))
    (job_check h j (field_at row.release absent_release bs) (field_at row.deadline (absent_deadline h) bs) (field_at row.volume absent_volume bs)))

-- the reader takes each field from where the row says, checks by the row, and goes on by its length, in the checks as in what it reads
pub record ReadBy (row : Row) (bs : List ℕ) : Type 0 where
  pub release : release_of bs ≡ field_at row.release absent_release bs
  pub deadline : (h : ℕ) → deadline_of h bs ≡ field_at row.deadline (absent_deadline h) bs
  pub volume : volume_of bs ≡ field_at row.volume absent_volume bs
  pub checks : (h n k j at : ℕ) →
      entries_check (entry_check job_check h n) entry_size (suc k) j at bs ≡
      and_then (check_by row h n j at bs) (entries_check (entry_check job_check h n) entry_size k (suc j) (at + row.size) (drop row.size bs))
  pub reads : (field : List ℕ → ℕ) (k : ℕ) → column entry_size field (suc k) bs ≡ field bs ∷ column entry_size field k (drop row.size bs)

-- What a row says of the entry that is written for a job with its map

-- a field: where it stands there are its two bytes, else it has its absent value
abbrev pub WrittenAt : Option ℕ → ℕ → ℕ → List ℕ → Type 0
WrittenAt (some offset) absent x bs = take 2 (drop offset bs) ≡ two_bytes x
WrittenAt none absent x bs = x ≡ absent

-- the entry starts with the map, has the length of the row, and each field stands where the row says
pub record WrittenBy (row : Row) (h r d p : ℕ) (bs : List ℕ) : Type 0 where
  pub map : get_or bs 0 0 ≡ row.map
  pub size : length bs ≡ row.size
  pub release : WrittenAt row.release absent_release r bs
  pub deadline : WrittenAt row.deadline (absent_deadline h) d bs
  pub volume : WrittenAt row.volume absent_volume p bs

-- all that a row of map m says
pub record RowHolds (m : ℕ) (row : Row) : Type 0 where
  pub map : row.map ≡ m
  pub size : entry_length m ≡ row.size
  pub read : (rest : List ℕ) → ReadBy row (m ∷ rest)
  pub written : (h r d p : ℕ) → job_map h r d p ≡ m → WrittenBy row h r d p (entry_bytes h r d p)
