-- 01, "Plan record bytes": the bits of map bytes, "slot 0 in bit 0 of the first byte". The writer packs them (`bits` in `MapBytes`); here they
-- are taken apart again.
use Rattle.std.specs.Prelude.{ℕ, zero, suc, ◌%◌, ◌/◌, Bool, false, ◌||◌, List, [], ◌∷◌, ◌++◌, eqb}

-- the k lowest bits of a number, bit 0 first
unfoldable pub low_bits : ℕ → ℕ → List Bool
low_bits zero byte = []
low_bits (suc k) byte = eqb (byte % 2) 1 ∷ low_bits k (byte / 2)

-- the bits of all bytes, eight each
unfoldable pub bits_of : List ℕ → List Bool
bits_of [] = []
bits_of (byte ∷ bytes) = low_bits 8 byte ++ bits_of bytes

-- one of the bits stands
unfoldable pub some_bit : List Bool → Bool
some_bit [] = false
some_bit (b ∷ rest) = b || some_bit rest
