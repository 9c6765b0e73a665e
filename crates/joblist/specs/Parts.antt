-- What the private functions of the reader and the writer ask and promise, part by part.
use Rattle.std.specs.Prelude.{ℕ, ◌≤◌, ◌≡◌, List, ◌++◌, length, take, drop, Err, Ok}
use Rattle.sched.specs.Checks.{and_then, job_check}
use Rattle.list_parts.specs.Header.{header_length, header_horizon, header_wake, header_count, header_check}
use Rattle.list_parts.specs.Entries.{entry_size, release_of, deadline_of, volume_of, column}
use Rattle.joblist.specs.Reading.{lent_check, behind_header}
use Rattle.joblist.specs.declared.ListHeader.{ListHeader}
use Rattle.sched.specs.Refusals.{Checked}

-- the header of a list's bytes
pub record HeaderOf (bytes : List ℕ) (list : ListHeader) : Type 0 where
  pub h : list.h ≡ header_horizon bytes
  pub q : list.q ≡ header_wake bytes
  pub count : list.count ≡ header_count bytes

-- the checks before the entries
abbrev pub front_check : List ℕ → ℕ → ℕ → ℕ → Checked
front_check bytes r d p = and_then (header_check bytes) (lent_check (header_count bytes) r d p)

-- the bytes hold a header, and the three lists have room
pub record Loadable (count : ℕ) (bytes rs ds ps : List ℕ) : Type 0 where
  pub long : header_length ≤ length bytes
  pub few : count ≤ 64
  pub releases : count ≤ length rs
  pub deadlines : count ≤ length ds
  pub volumes : count ≤ length ps

-- the answer of the walk, and the fields at the front of three lists if it passes
pub record Walked (h count : ℕ) (bytes : List ℕ) (answer : Checked) (rs ds ps : List ℕ) : Type 0 where
  pub same : answer ≡ behind_header job_check h count bytes
  pub releases : answer ≡ Ok tt → take count rs ≡ column entry_size release_of count (drop header_length bytes)
  pub deadlines : answer ≡ Ok tt → take count ds ≡ column entry_size (deadline_of h) count (drop header_length bytes)
  pub volumes : answer ≡ Ok tt → take count ps ≡ column entry_size volume_of count (drop header_length bytes)

-- a lent list afterwards: one field of each job, then what stood behind, or all as it was
abbrev pub filled_if : Checked → (List ℕ → ℕ) → ℕ → List ℕ → List ℕ → List ℕ
filled_if (Ok tt) field count bytes lent = column entry_size field count (drop header_length bytes) ++ drop count lent
filled_if (Err r) field count bytes lent = lent

pub record Filled (h count : ℕ) (bytes rs ds ps : List ℕ) (answer : Checked) (rs' ds' ps' : List ℕ) : Type 0 where
  pub same : answer ≡ behind_header job_check h count bytes
  pub releases : rs' ≡ filled_if answer release_of count bytes rs
  pub deadlines : ds' ≡ filled_if answer (deadline_of h) count bytes ds
  pub volumes : ps' ≡ filled_if answer volume_of count bytes ps

-- three lists of one length, at most 64
pub record EqualLists (rs ds ps : List ℕ) : Type 0 where
  pub deadlines : length ds ≡ length rs
  pub volumes : length ps ≡ length rs
  pub few : length rs ≤ 64
