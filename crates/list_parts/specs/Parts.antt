-- What the functions ask and promise of the header and of one entry, part by part.
use Rattle.std.specs.Prelude.{ℕ, ◌+◌, ◌^◌, ◌≤◌, ◌<◌, ◌≡◌, Bool, List, length, get_or, drop, Err, Ok, Result}
use Rattle.sched.specs.Checks.{and_then, job_check}
use Rattle.list_parts.specs.Header.{header_length, header_horizon, header_wake}
use Rattle.list_parts.specs.Layout.{width}
use Rattle.list_parts.specs.Entries.{entry_map, entry_size, known_maps, value_if, release_of, deadline_of, volume_of, field_check, redundancy_check}
use Rattle.list_parts.specs.Entries.{fault_check}
use Rattle.list_parts.specs.declared.header.Header.{Header}
use Rattle.list_parts.specs.declared.entry.Found.{Found}
use Rattle.list_parts.specs.declared.entry.Fields.{Fields}
use Rattle.sched.specs.declared.Refusal.{Refusal}
use Rattle.sched.specs.Refusals.{Checked}

-- the numbers of a header, the byte with the number of jobs as it stands
pub record NumbersOf (bytes : List ℕ) (list : Header) : Type 0 where
  pub h : list.h ≡ header_horizon bytes
  pub q : list.q ≡ header_wake bytes
  pub byte : list.byte ≡ get_or bytes 4 0

-- a number of jobs for the header's byte, and a buffer that the header fits
pub record HeaderFits (n : ℕ) (out : List ℕ) : Type 0 where
  pub few : n ≤ 64
  pub room : header_length ≤ length out

-- what is read of a field at a place of the entry, where its check passes: its value, and the offset behind it
abbrev pub found_of : Checked → Bool → ℕ → ℕ → List ℕ → Result Found Refusal
found_of (Ok tt) stands absent place bs = Ok (record { value = value_if stands absent (drop place bs); next = place + width stands })
found_of (Err r) stands absent place bs = Err r

-- a field that is read: 14 where it stands with its absent value
pub record FieldAt (stands : Bool) (absent place at : ℕ) (bs : List ℕ) (found : Result Found Refusal) : Type 0 where
  pub same : found ≡ found_of (field_check stands absent place at bs) stands absent place bs

-- a known map byte and all bytes of its fields, at an offset of the input
pub record WholeEntry (at : ℕ) (bs : List ℕ) : Type 0 where
  pub known : entry_map bs < known_maps
  pub whole : entry_size bs ≤ length bs
  pub fits : at + length bs < 2 ^ 64

-- what is read of an entry: its fields where its checks pass
abbrev pub fields_of : ℕ → List ℕ → Fields
fields_of h bs = record { release = release_of bs; deadline = deadline_of h bs; volume = volume_of bs; size = entry_size bs }

abbrev pub entry_of : Checked → ℕ → List ℕ → Result Fields Refusal
entry_of (Ok tt) h bs = Ok (fields_of h bs)
entry_of (Err r) h bs = Err r

-- of a whole entry, 14 and what is wrong with the job
abbrev pub job_part : ℕ → ℕ → ℕ → List ℕ → Checked
job_part h j at bs = and_then (redundancy_check h at bs) (fault_check job_check h j bs)
