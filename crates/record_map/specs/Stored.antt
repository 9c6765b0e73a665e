-- What a lent buffer holds once bytes are stored at its front.
use Rattle.std.specs.Prelude.{ℕ, List, ◌++◌, length, drop}

-- a lent buffer with these bytes at its front
abbrev pub stored : List ℕ → List ℕ → List ℕ
stored bytes out = bytes ++ drop (length bytes) out
