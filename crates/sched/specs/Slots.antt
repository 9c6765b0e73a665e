-- 01, "Words of the plan": sets of slots and slot tables. A set is a list with a Bool a slot, true for awake; a table has a byte a slot.
use Rattle.std.specs.Prelude.{ℕ, zero, suc, Bool, true, false, not, ◌||◌, List, [], ◌∷◌, map, get_or, set, eqb, ltb}

-- slot t is awake; slots outside the set's list sleep
abbrev pub awake : List Bool → ℕ → Bool
awake S t = get_or S t false

-- "254 awake and idle, 255 asleep"
abbrev pub idle : ℕ
idle = 254

abbrev pub asleep : ℕ
asleep = 255

-- the byte of a slot in which no job runs, awake or not
abbrev pub mark_byte : Bool → ℕ
mark_byte true = idle
mark_byte false = asleep

-- the byte is that of an awake slot
abbrev pub wakeful : ℕ → Bool
wakeful byte = not (eqb byte asleep)

-- the awake slots of a table
abbrev pub awake_of : List ℕ → List Bool
awake_of = map wakeful

-- 02, card 5: a slot works if a job runs in it. Bytes 0 to 63 are numbers of jobs; a slot with any other byte does not work.
abbrev pub works : ℕ → Bool
works byte = ltb byte 64

-- the working slots of a table
abbrev pub working_of : List ℕ → List Bool
working_of = map works

-- how many slots of a table hold the byte j
unfoldable pub times : ℕ → List ℕ → ℕ
times j [] = 0
times j (byte ∷ rest) = elim (eqb byte j) [ true ↦ suc (times j rest) | false ↦ times j rest ]

-- the set with slot t awake as well
abbrev pub wake_slot : List Bool → ℕ → List Bool
wake_slot S t = set S t true

-- the slot before t is awake; before slot 0 there is none, also if the start is awake
abbrev pub awake_before : List Bool → ℕ → Bool
awake_before S zero = false
awake_before S (suc t) = awake S t

-- the state after the slots of a set, from the state before them
abbrev pub state_after : Bool → List Bool → Bool
state_after b [] = b
state_after b (c ∷ S) = state_after c S

-- "it lies next to an awake slot"
abbrev pub touches : List Bool → ℕ → Bool
touches S t = awake_before S t || awake S (suc t)
