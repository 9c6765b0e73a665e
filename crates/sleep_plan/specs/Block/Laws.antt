-- The bytes of an answer, and the numbers read back from them.
use Rattle.std.specs.Prelude.{ℕ, zero, suc, ◌/◌, ◌≤◌, ◌<◌, ◌≡◌, refl, List, [], ◌∷◌, ◌++◌, length, get_or, replicate}
use Rattle.std.proofs.Common.{◌∙◌, mod-eq_of_lt, arith}
use Rattle.std.proofs.Math.Nat.{div-div-eq-div-mul}
use Rattle.std.proofs.lemmas.List.Edits.{sets, sets-eq}
use Rattle.sleep_plan.specs.Block.{block_length, four_bytes, value_bytes, answer_bytes, answered, number_of, number_in}

-- 2 ^ 32, the least number that four bytes do not hold
abbrev pub too_large : ℕ
too_large = 4294967296

-- four bytes hold a number that is not too large
pub four_back : (x : ℕ) → x < too_large → number_of (four_bytes x) ≡ x
four_back x l =
    let top : x / 16777216 < 256 = omega arith in
    omega (arith, div-div-eq-div-mul x 256 256, div-div-eq-div-mul x 65536 256, mod-eq_of_lt top)

-- four numbers put one behind the other make the whole answer
pub four_puts : (w x y z : ℕ) (b₀ b₁ b₂ b₃ b₄ : List ℕ) → block_length ≤ length b₀ → b₁ ≡ sets b₀ 0 (four_bytes w) → b₂ ≡ sets b₁ 4 (four_bytes x) → b₃ ≡ sets b₂ 8 (four_bytes y) → b₄ ≡ sets b₃ 12 (four_bytes z) → b₄ ≡ answered (w ∷ x ∷ y ∷ z ∷ []) b₀
unfolding value_bytes answer_bytes
four_puts w x y z b₀ b₁ b₂ b₃ b₄ l p q r s =
    s ∙ rw (r, q, p) (sets-eq (four_bytes w ++ (four_bytes x ++ (four_bytes y ++ four_bytes z))) b₀ 0 l)

-- where fewer values are given, zeros stand behind them
pub zeros_behind_one : (w : ℕ) → answer_bytes (w ∷ 0 ∷ 0 ∷ 0 ∷ []) ≡ answer_bytes (w ∷ [])
unfolding value_bytes answer_bytes
zeros_behind_one w = refl

pub zeros_behind_two : (w x : ℕ) → answer_bytes (w ∷ x ∷ 0 ∷ 0 ∷ []) ≡ answer_bytes (w ∷ x ∷ [])
unfolding value_bytes answer_bytes
zeros_behind_two w x = refl

-- each of four values
pub record Small (w x y z : ℕ) : Type 0 where
  pub first : w < too_large
  pub second : x < too_large
  pub third : y < too_large
  pub fourth : z < too_large

-- the numbers of a block are the values that were put there
pub four_numbers : (w x y z : ℕ) (rest : List ℕ) → Small w x y z → (i : ℕ) → i < 4 → number_in (answer_bytes (w ∷ x ∷ y ∷ z ∷ []) ++ rest) i ≡ get_or (w ∷ x ∷ y ∷ z ∷ []) i 0
unfolding value_bytes answer_bytes
four_numbers w x y z rest s zero l = four_back w s.first
four_numbers w x y z rest s (suc zero) l = four_back x s.second
four_numbers w x y z rest s (suc (suc zero)) l = four_back y s.third
four_numbers w x y z rest s (suc (suc (suc zero))) l = four_back z s.fourth
four_numbers w x y z rest s (suc (suc (suc (suc i)))) l = absurd (omega arith)

zeros_read : (values : List ℕ) (k i : ℕ) → get_or (values ++ replicate k 0) i 0 ≡ get_or values i 0
zeros_read [] zero i = refl
zeros_read [] (suc k) zero = refl
zeros_read [] (suc k) (suc i) = zeros_read [] k i
zeros_read (v ∷ values) k zero = refl
zeros_read (v ∷ values) k (suc i) = zeros_read values k i

pub one_number : (w : ℕ) (rest : List ℕ) → w < too_large → (i : ℕ) → i < 4 → number_in (answer_bytes (w ∷ []) ++ rest) i ≡ get_or (w ∷ []) i 0
unfolding value_bytes answer_bytes
one_number w rest s i l =
    four_numbers w 0 0 0 rest (record { first = s; second = omega arith; third = omega arith; fourth = omega arith }) i l
    ∙ zeros_read (w ∷ []) 3 i

pub two_numbers : (w x : ℕ) (rest : List ℕ) → w < too_large → x < too_large → (i : ℕ) → i < 4 → number_in (answer_bytes (w ∷ x ∷ []) ++ rest) i ≡ get_or (w ∷ x ∷ []) i 0
unfolding value_bytes answer_bytes
two_numbers w x rest s u i l =
    four_numbers w x 0 0 rest (record { first = s; second = u; third = omega arith; fourth = omega arith }) i l
    ∙ zeros_read (w ∷ x ∷ []) 2 i
