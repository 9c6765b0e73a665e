-- A set of numbers below 64 as the bits of one number.
use Rattle.std.specs.Prelude.{ℕ, zero, suc, ◌+◌, ◌*◌, Bool}
use Rattle.sched.specs.Bits.{bit}
pub mod Laws

-- the k bits from number t on, the bit of t lowest
unfoldable pub mask_from : (ℕ → Bool) → ℕ → ℕ → ℕ
mask_from f zero t = 0
mask_from f (suc k) t = bit (f t) + 2 * mask_from f k (suc t)

-- the numbers below n of which f holds
abbrev pub mask : (ℕ → Bool) → ℕ → ℕ
mask f n = mask_from f n 0
