-- 02, card 2: plan records, whose layout 01 gives: the checks of any bytes, and the table that they hold.
use Rattle.std.specs.Prelude.{ℕ, ◌+◌, ◌*◌, ◌≤◌, Bool, true, false, not, ◌&&◌, List, [], ◌∷◌, map, length, get_or, take, drop, leb, ltb, eqb, Ok}
use Rattle.std.specs.Int.Count.{ones}
use Rattle.sched.specs.Bounded.{total}
use Rattle.sched.specs.TwoBytes.{word}
use Rattle.sched.specs.Slots.{idle, asleep}
use Rattle.sched.specs.Energy.{awake_slots}
use Rattle.sched.specs.Checks.{refuse_if, and_then, horizon_check, ByteCheck, bytes_by}
use Rattle.sched.specs.declared.Refusal.TheVariants.{Truncated, LeftOver, PaddingBit, BadSlotByte}
use Rattle.record_map.specs.MapBytes.{map_length}
use Rattle.record_map.specs.MapBits.{bits_of, some_bit}
use Rattle.record_parts.specs.Layout.{behind_map}
use Rattle.sched.specs.Refusals.{Checked}

-- the map bytes of a record for h slots
abbrev pub map_in : ℕ → List ℕ → List ℕ
map_in h bytes = take (map_length h) (drop 2 bytes)

-- the set of awake slots of a record, a Bool a slot: "1 for awake"
abbrev pub slots_in : List ℕ → List Bool
slots_in bytes = take (word bytes) (bits_of (map_in (word bytes) bytes))

-- the bits of the map behind the last slot
abbrev pub padding_in : ℕ → List ℕ → List Bool
padding_in h bytes = drop h (bits_of (map_in h bytes))

-- "as many bytes as the map has ones"
abbrev pub slot_byte_count : ℕ → List ℕ → ℕ
slot_byte_count h bytes = total (map ones (map_in h bytes))

-- 32, "one of the slot bytes is neither 0 to 63 nor 254", "at its offset"
abbrev pub slot_byte_check : ByteCheck
slot_byte_check at byte = refuse_if (leb 64 byte && not (eqb byte idle)) (BadSlotByte at) (Ok tt)

-- "11 for the slot bytes, 32, 16", for so many slot bytes from an offset on
abbrev pub slot_bytes_check : ℕ → ℕ → List ℕ → Checked
slot_bytes_check from count bytes =
    refuse_if (ltb (length bytes) (from + count)) (Truncated (length bytes))
    (and_then (bytes_by slot_byte_check count from bytes)
    (refuse_if (ltb (from + count) (length bytes)) (LeftOver (from + count)) (Ok tt)))

-- "11 for the map, 31, 11 for the slot bytes, 32, 16"; 31 is "at the map's last byte, a padding bit stands"
abbrev pub body_check : ℕ → List ℕ → Checked
body_check h bytes =
    refuse_if (ltb (length bytes) (behind_map h)) (Truncated (length bytes))
    (refuse_if (some_bit (padding_in h bytes)) (PaddingBit (1 + map_length h))
    (slot_bytes_check (behind_map h) (slot_byte_count h bytes) bytes))

-- "11 for H, 12", and so on up to 16: what the reader of a table and that of a run look at first
abbrev pub record_check : List ℕ → Checked
record_check bytes =
    refuse_if (ltb (length bytes) 2) (Truncated (length bytes))
    (and_then (horizon_check (word bytes)) (body_check (word bytes) bytes))

-- a table from its awake slots and their bytes "in slot order"; the others sleep
unfoldable pub spread : List Bool → List ℕ → List ℕ
spread [] bytes = []
spread (false ∷ S) bytes = asleep ∷ spread S bytes
spread (true ∷ S) bytes = get_or bytes 0 0 ∷ spread S (drop 1 bytes)

-- what the reader's part that fills the table needs: a bit for each slot, and a byte for each one that is awake
pub record TableFits (map_bytes bytes table : List ℕ) : Type 0 where
  pub marked : length table ≤ 8 * length map_bytes
  pub enough : awake_slots (take (length table) (bits_of map_bytes)) ≤ length bytes
