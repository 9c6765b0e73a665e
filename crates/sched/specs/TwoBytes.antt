-- 01, "Job list bytes" and "Plan record bytes": bytes, and a number in two bytes, low byte first.
use Rattle.std.specs.Prelude.{ℕ, ◌+◌, ◌*◌, ◌/◌, ◌%◌, ◌<◌, List, [], ◌∷◌, get_or}

-- a list of bytes: each entry is below 256
abbrev pub AreBytes : List ℕ → Type 0
AreBytes bs = (i : ℕ) → get_or bs i 0 < 256

-- "two bytes each, low byte first"
abbrev pub two_bytes : ℕ → List ℕ
two_bytes x = x % 256 ∷ x / 256 ∷ []

-- the number whose two bytes a list starts with
abbrev pub word : List ℕ → ℕ
word bs = get_or bs 0 0 + 256 * get_or bs 1 0
