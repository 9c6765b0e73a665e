-- 01, "Plan record bytes": where the parts of a record stand, and the record of a table.
use Rattle.std.specs.Prelude.{ℕ, ◌+◌, ◌≤◌, ◌≡◌, not, List, ◌++◌, length, eqb}
use Rattle.sched.specs.Bounded.{keep}
use Rattle.sched.specs.TwoBytes.{two_bytes}
use Rattle.sched.specs.Slots.{awake_of, asleep}
use Rattle.record_map.specs.MapBytes.{map_length, map_bytes_of}

-- where the slot bytes begin: "directly behind the map", which has two bytes before it
abbrev pub behind_map : ℕ → ℕ
behind_map h = 2 + map_length h

-- the bytes of the awake slots, "in slot order"
abbrev pub slot_bytes : List ℕ → List ℕ
slot_bytes slots = keep (λ byte. not (eqb byte asleep)) slots

-- what stands before the slot bytes: "H in two bytes, low first", and the map
abbrev pub front_of : ℕ → List ℕ → List ℕ
front_of h slots = two_bytes h ++ map_bytes_of (awake_of slots)

-- the record of a table of just H bytes: "The slot bytes are written directly behind the map."
unfoldable pub record_of : ℕ → List ℕ → List ℕ
record_of h slots = front_of h slots ++ slot_bytes slots

-- the output holds the record, whose slot bytes begin at `behind`
pub record RecordFits (h : ℕ) (slots : List ℕ) (behind : ℕ) (out : List ℕ) : Type 0 where
  pub few : length slots ≤ 4096
  pub start : behind ≡ behind_map (length slots)
  pub room : length (record_of h slots) ≤ length out
