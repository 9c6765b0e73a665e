-- A number that depends on every byte of a list and its place, and a table that is awake and asleep by turns.
use Rattle.std.specs.Prelude.{ℕ, zero, suc, ◌+◌, ◌*◌, ◌%◌, List, [], ◌∷◌}

-- with each byte 257 times the number so far plus the byte plus 1, modulo 1,000,003
unfoldable pub digest_from : ℕ → List ℕ → ℕ
digest_from sum [] = sum
digest_from sum (byte ∷ bytes) = digest_from ((sum % 1000003 * 257 + byte % 1000003 + 1) % 1000003) bytes

-- the k slots from slot t on, idle (254) where the slot is even, else asleep (255)
unfoldable pub turns_from : ℕ → ℕ → List ℕ
turns_from zero t = []
turns_from (suc k) t = (254 + t % 2) ∷ turns_from k (suc t)
