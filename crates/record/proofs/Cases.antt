-- Closed cases, so that an edit of a definition is refused here: the plan record of the third plan of 01, "Plans worked by hand", after card 5 of
-- 02, written, read back and taken apart by runs; and which of two faults of a record is told.
use Rattle.std.specs.Prelude.{◌≡◌, refl, List, [], ◌∷◌, ℕ, Err, Ok}
use Rattle.std.specs.Int.Count.{ones, ones_in}
use Rattle.sched.specs.Bounded.{keep, total}
use Rattle.sched.specs.Energy.{awake_slots}
use Rattle.sched.specs.Runs.{leading, run_list_from}
use Rattle.sched.specs.Checks.{bytes_by}
use Rattle.sched.proofs.Cases.{third, third_table}
use Rattle.sched.specs.declared.Refusal.TheVariants.{Truncated, OutOfRange, LeftOver, TooShort, PaddingBit, BadSlotByte, NoSuchRun}
use Rattle.record_map.specs.MapBytes.{bits, map_from}
use Rattle.record_map.specs.MapBits.{low_bits, bits_of, some_bit}
use Rattle.record_parts.specs.Layout.{record_of}
use Rattle.record_parts.specs.Bytes.{record_check, spread}
use Rattle.record.specs.Record.{record_bytes}
use Rattle.record.specs.Reading.{table_in, read_check}
use Rattle.record.specs.OneRun.{run_check, run_in, run_part}

-- "its record is"
abbrev pub third_record : List ℕ
third_record = 0x0A ∷ 0x00 ∷ 0xFF ∷ 0x03 ∷ 0x00 ∷ 0x02 ∷ 0x02 ∷ 0x02 ∷ 0x02 ∷ 0x02 ∷ 0xFE ∷ 0xFE ∷ 0x01 ∷ 0x01 ∷ []

pub third_record_lem : record_bytes third.horizon third_table ≡ third_record
unfolding record_of map_from bits keep
third_record_lem = refl

pub third_read : (record_check third_record ≡ Ok tt) × (table_in third_record ≡ third_table)
unfolding bytes_by total ones ones_in low_bits bits_of some_bit spread
third_read = (refl, refl)

-- all ten slots
pub third_runs : (run_in third_record 0 ≡ Ok (record { first = 0; offset = 4; len = 10 })) × (run_in third_record 1 ≡ Err (NoSuchRun 1))
unfolding bytes_by total ones ones_in low_bits bits_of some_bit awake_slots leading run_list_from
third_runs = (refl, refl)

-- the same table with slots 6 and 7 asleep: slots 0 to 5 and slots 8, 9
abbrev two_run_bytes : List ℕ
two_run_bytes = 0x0A ∷ 0x00 ∷ 0x3F ∷ 0x03 ∷ 0x00 ∷ 0x02 ∷ 0x02 ∷ 0x02 ∷ 0x02 ∷ 0x02 ∷ 0x01 ∷ 0x01 ∷ []

pub two_runs :
    (run_in two_run_bytes 0 ≡ Ok (record { first = 0; offset = 4; len = 6 }))
    × (run_in two_run_bytes 1 ≡ Ok (record { first = 8; offset = 10; len = 2 }))
    × (run_part two_run_bytes 1 ≡ 0x01 ∷ 0x01 ∷ [])
    × (run_in two_run_bytes 2 ≡ Err (NoSuchRun 2))
unfolding bytes_by total ones ones_in low_bits bits_of some_bit awake_slots leading run_list_from
two_runs = (refl, refl, refl, refl)

-- a run over the end of a map byte is one run: H 10, slots 7 and 8
pub run_over_bytes :
    (run_in (10 ∷ 0 ∷ 0x80 ∷ 0x01 ∷ 254 ∷ 5 ∷ []) 0 ≡ Ok (record { first = 7; offset = 4; len = 2 }))
    × (run_in (10 ∷ 0 ∷ 0x80 ∷ 0x01 ∷ 254 ∷ 5 ∷ []) 1 ≡ Err (NoSuchRun 1))
unfolding bytes_by total ones ones_in low_bits bits_of some_bit awake_slots leading run_list_from
run_over_bytes = (refl, refl)

-- the bytes of H, then H, then the map
pub horizon_cut : record_check (10 ∷ []) ≡ Err (Truncated 1)
horizon_cut = refl

pub range_before_map : record_check (0 ∷ 0 ∷ []) ≡ Err (OutOfRange 0)
range_before_map = refl

pub map_cut : record_check (9 ∷ 0 ∷ 0xFF ∷ []) ≡ Err (Truncated 3)
map_cut = refl

-- a padding bit beats missing slot bytes, missing slot bytes beat a bad one, and a bad one beats bytes left over
pub padding_first : record_check (3 ∷ 0 ∷ 8 ∷ []) ≡ Err (PaddingBit 2)
unfolding low_bits bits_of some_bit
padding_first = refl

pub cut_before_bad : record_check (2 ∷ 0 ∷ 3 ∷ 255 ∷ []) ≡ Err (Truncated 4)
unfolding total ones ones_in low_bits bits_of some_bit
cut_before_bad = refl

pub bad_before_left : record_check (1 ∷ 0 ∷ 1 ∷ 255 ∷ 0 ∷ []) ≡ Err (BadSlotByte 3)
unfolding bytes_by total ones ones_in low_bits bits_of some_bit
bad_before_left = refl

pub left_over : record_check (1 ∷ 0 ∷ 1 ∷ 254 ∷ 0 ∷ []) ≡ Err (LeftOver 4)
unfolding bytes_by total ones ones_in low_bits bits_of some_bit
left_over = refl

-- the first of two bad bytes is named
pub first_bad : record_check (3 ∷ 0 ∷ 7 ∷ 0 ∷ 64 ∷ 255 ∷ []) ≡ Err (BadSlotByte 4)
unfolding bytes_by total ones ones_in low_bits bits_of some_bit
first_bad = refl

-- bytes left over beat a short table, and a run that is not there
pub left_before_room : (read_check (1 ∷ 0 ∷ 0 ∷ 0 ∷ []) 0 ≡ Err (LeftOver 3)) × (run_check (1 ∷ 0 ∷ 0 ∷ 0 ∷ []) 0 ≡ Err (LeftOver 3))
unfolding bytes_by total ones ones_in low_bits bits_of some_bit
left_before_room = (refl, refl)

pub room_last : read_check (1 ∷ 0 ∷ 0 ∷ []) 0 ≡ Err (TooShort 1)
unfolding bytes_by total ones ones_in low_bits bits_of some_bit
room_last = refl

-- eight slots have no padding
pub no_padding : record_check (8 ∷ 0 ∷ 0x80 ∷ 63 ∷ []) ≡ Ok tt
unfolding bytes_by total ones ones_in low_bits bits_of some_bit
no_padding = refl
