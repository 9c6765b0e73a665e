-- Small jobs and tables by number.
use Rattle.std.specs.Prelude.{ℕ, ◌+◌, ◌/◌, ◌%◌, List, [], ◌∷◌, get_or}

-- job k has a release below h, a deadline from 1 to h and a volume from 1 to 3; the volume changes first, then the deadline
abbrev pub release_of : ℕ → ℕ → ℕ
release_of h k = k / 3 / h

abbrev pub deadline_of : ℕ → ℕ → ℕ
deadline_of h k = k / 3 % h + 1

abbrev pub volume_of : ℕ → ℕ
volume_of k = k % 3 + 1

-- the five bytes that a slot can hold
abbrev pub letters : List ℕ
letters = 0 ∷ 1 ∷ 2 ∷ 254 ∷ 255 ∷ []

-- table `code` of four slots; slot 0 changes first
abbrev pub table_of : ℕ → List ℕ
table_of code =
    get_or letters (code % 5) 0 ∷ get_or letters (code / 5 % 5) 0 ∷ get_or letters (code / 25 % 5) 0 ∷ get_or letters (code / 125 % 5) 0 ∷ []
