-- What the pass over the table goes by.
use Rattle.std.specs.Prelude.{ℕ, zero, suc}
use Rattle.std.proofs.Math.Option.{Option, none, some}

-- the nearest working slot before, from the slot behind it; 0 says that there is none
abbrev pub work_ending : ℕ → Option ℕ
work_ending zero = none
work_ending (suc a) = some a
