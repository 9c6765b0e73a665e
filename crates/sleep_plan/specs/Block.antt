-- 01, "Refused, and where", last paragraph: the answer block.
use Rattle.std.specs.Prelude.{ℕ, ◌+◌, ◌*◌, ◌/◌, ◌%◌, List, [], ◌∷◌, ◌++◌, get_or, take, drop, replicate}
pub mod Laws

-- "the first 16 bytes of the block"
abbrev pub block_length : ℕ
block_length = 16

-- "four bytes each, low first"
abbrev pub four_bytes : ℕ → List ℕ
four_bytes x = x % 256 ∷ x / 256 % 256 ∷ x / 65536 % 256 ∷ x / 16777216 % 256 ∷ []

-- values one behind the other
unfoldable pub value_bytes : List ℕ → List ℕ
value_bytes [] = []
value_bytes (v ∷ vs) = four_bytes v ++ value_bytes vs

-- "the rest of the 16 zero"
unfoldable pub answer_bytes : List ℕ → List ℕ
answer_bytes values = take block_length (value_bytes values ++ replicate block_length 0)

-- "Later bytes of the block are untouched."
abbrev pub answered : List ℕ → List ℕ → List ℕ
answered values block = answer_bytes values ++ drop block_length block

-- the number whose four bytes a list starts with
abbrev pub number_of : List ℕ → ℕ
number_of bs = get_or bs 0 0 + 256 * get_or bs 1 0 + 65536 * get_or bs 2 0 + 16777216 * get_or bs 3 0

-- number i of a block, counted from 0
abbrev pub number_in : List ℕ → ℕ → ℕ
number_in block i = number_of (drop (4 * i) block)
