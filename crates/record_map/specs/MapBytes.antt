-- 01, "Plan record bytes": the map of a set of slots, a bit a slot, as bytes.
use Rattle.std.specs.Prelude.{ℕ, zero, suc, ◌+◌, ◌*◌, ◌/◌, Bool, List, [], ◌∷◌, length}
use Rattle.sched.specs.Bits.{bit}
use Rattle.sched.specs.Slots.{awake}

-- the k slots from slot t on as a number, "1 for awake", slot t in bit 0; beyond the last slot everything sleeps, so the rest is "padded with 0"
unfoldable pub bits : ℕ → ℕ → List Bool → ℕ
bits zero t S = 0
bits (suc k) t S = bit (awake S t) + 2 * bits k (suc t) S

-- the k map bytes from byte m on, eight slots each
unfoldable pub map_from : ℕ → ℕ → List Bool → List ℕ
map_from zero m S = []
map_from (suc k) m S = bits 8 (8 * m) S ∷ map_from k (suc m) S

-- the bytes that H bits take
abbrev pub map_length : ℕ → ℕ
map_length h = (h + 7) / 8

-- "a map of H bits"
abbrev pub map_bytes_of : List Bool → List ℕ
map_bytes_of S = map_from (map_length (length S)) 0 S
