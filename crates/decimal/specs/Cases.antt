-- Digits worked out, so that a wrong edit of the definition is refused here: the smallest number, both sides of a second digit, the largest
-- horizon, and the largest number of 64 bits.
use Rattle.std.specs.Prelude.{◌≡◌, refl, [], ◌∷◌, map}
use Rattle.decimal.specs.Decimal.{digits_in, digits}

pub digits_worked :
    map digits (0 ∷ 9 ∷ 10 ∷ 4096 ∷ 18446744073709551615 ∷ []) ≡
    (48 ∷ [])
    ∷ (57 ∷ [])
    ∷ (49 ∷ 48 ∷ [])
    ∷ (52 ∷ 48 ∷ 57 ∷ 54 ∷ [])
    ∷ (49 ∷ 56 ∷ 52 ∷ 52 ∷ 54 ∷ 55 ∷ 52 ∷ 52 ∷ 48 ∷ 55 ∷ 51 ∷ 55 ∷ 48 ∷ 57 ∷ 53 ∷ 53 ∷ 49 ∷ 54 ∷ 49 ∷ 53 ∷ [])
    ∷ []
unfolding digits digits_in
digits_worked = refl
