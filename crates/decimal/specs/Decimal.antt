-- 01, "Plans worked by hand": "Numbers are decimal". The digits of a number of 64 bits, as a text has them.
use Rattle.std.specs.Prelude.{ℕ, zero, suc, ◌+◌, ◌/◌, ◌%◌, ◌≡◌, true, false, List, [], ◌∷◌, ◌++◌, length, take, drop, ltb}
pub mod Laws

-- in ASCII, where the digit 0 is 48; the most significant first, and at most k of them
unfoldable pub digits_in : ℕ → ℕ → List ℕ
digits_in zero n = []
digits_in (suc k) n = elim (ltb n 10) [ true ↦ (48 + n) ∷ [] | false ↦ digits_in k (n / 10) ++ ((48 + n % 10) ∷ []) ]

-- a number of 64 bits has at most 20
unfoldable pub digits : ℕ → List ℕ
digits n = digits_in 20 n

-- a lent buffer with the digits from `at` on and every other byte as it was, and the place behind the digits
pub record PutsDigits (n at : ℕ) (out : List ℕ) (end : ℕ) (after : List ℕ) : Type 0 where
  pub next : end ≡ at + length (digits n)
  pub bytes : after ≡ take at out ++ digits n ++ drop (at + length (digits n)) out
