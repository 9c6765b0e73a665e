-- A Bool as a bit of a number. No sentence of 01 by itself; map bytes, map bits and masks are made of it.
use Rattle.std.specs.Prelude.{ℕ, Bool, true, false}

abbrev pub bit : Bool → ℕ
bit true = 1
bit false = 0
