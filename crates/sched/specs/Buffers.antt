-- Bytes that a writer puts into a lent buffer: one part after the other, or one byte all along a stretch.
use Rattle.std.specs.Prelude.{ℕ, ◌+◌, ◌-◌, ◌≡◌, List, ◌++◌, length, take, drop, replicate}
use Rattle.std.proofs.lemmas.List.Edits.{sets}

-- bytes stored from an offset on, and the offset behind them
pub record PutAt (out : List ℕ) (at : ℕ) (bytes : List ℕ) (end : ℕ) (after : List ℕ) : Type 0 where
  pub next : end ≡ at + length bytes
  pub stored : after ≡ sets out at bytes

-- the bytes from place `from` up to place `to` are `byte`, the others as they were
abbrev pub poured : ℕ → ℕ → ℕ → List ℕ → List ℕ
poured from to byte out = take from out ++ (replicate (to - from) byte ++ drop to out)
