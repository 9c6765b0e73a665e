-- 01, "Plan record bytes": what the writer puts out for each horizon, table and lent output, and the number and values of each answer.
use Rattle.std.specs.Prelude.{ℕ, ◌≡◌, List, [], ◌∷◌, length, take, Err, Ok, Result}
use Rattle.sched.specs.Slots.{awake_of}
use Rattle.sched.specs.Energy.{awake_slots}
use Rattle.sched.specs.Refusals.{number, place, Checked}
use Rattle.sched.specs.Checks.{and_then, length_check, slots_check}
use Rattle.record_map.specs.Stored.{stored}
use Rattle.record_parts.specs.Layout.{record_of}
use Rattle.sched.specs.declared.Refusal.{Refusal}
use Rattle.record.specs.declared.RecordSize.{RecordSize}

-- the record of the first H bytes of a table
abbrev pub record_bytes : ℕ → List ℕ → List ℕ
record_bytes h table = record_of h (take h table)

-- 17 for an output that does not hold these bytes
abbrev pub room_check : List ℕ → List ℕ → Checked
room_check bytes out = length_check (length out) (length bytes)

-- "12 for H, 17 for the table, 21 (here only 64 to 253), 17 for the output"
abbrev pub write_check : ℕ → List ℕ → List ℕ → Checked
write_check h table out = and_then (slots_check h table) (room_check (record_bytes h table) out)

-- the answer for a table of just H bytes: the record's length and the awake slots
abbrev pub write_answer : ℕ → List ℕ → Checked → Result RecordSize Refusal
write_answer h slots (Ok tt) = Ok (record { bytes = length (record_of h slots); awake = awake_slots (awake_of slots) })
write_answer h slots (Err r) = Err r

-- a lent buffer afterwards: "Bytes past the record keep their values", and a refusal changes none; so too for the table that a reader fills
abbrev pub out_after : List ℕ → List ℕ → Checked → List ℕ
out_after bytes out (Ok tt) = stored bytes out
out_after bytes out (Err r) = out

-- a refusal has 01's number with its place; 0 with the record's length and the awake slots is ours
abbrev pub written_number : Result RecordSize Refusal → ℕ
written_number (Ok size) = 0
written_number (Err r) = number r

abbrev pub written_values : Result RecordSize Refusal → List ℕ
written_values (Ok size) = size.bytes ∷ size.awake ∷ []
written_values (Err r) = place r ∷ []

-- the promise: number and values of the answer, its case, and every byte of the output
pub record Writes (h : ℕ) (table out : List ℕ) (answer : Result RecordSize Refusal) (after : List ℕ) : Type 0 where
  pub number : written_number answer ≡ written_number (write_answer h (take h table) (write_check h table out))
  pub values : written_values answer ≡ written_values (write_answer h (take h table) (write_check h table out))
  pub same : answer ≡ write_answer h (take h table) (write_check h table out)
  pub bytes : after ≡ out_after (record_bytes h table) out (write_check h table out)

-- what the writer's part promises for a table of just H bytes
pub record WritesSlots (h : ℕ) (slots out : List ℕ) (answer : Result RecordSize Refusal) (after : List ℕ) : Type 0 where
  pub same : answer ≡ write_answer h slots (room_check (record_of h slots) out)
  pub bytes : after ≡ out_after (record_of h slots) out (room_check (record_of h slots) out)
