-- Which faults the seven jobs are to have, for a horizon of 4,096 slots: 0 to 2 one each, 3 to 5 two each, all further ones all three.
use Rattle.std.specs.Prelude.{ℕ, Bool, not, ◌||◌, List, [], ◌∷◌, leb, ltb, eqb}

-- whether k is none of three numbers
abbrev pub none_of : ℕ → ℕ → ℕ → ℕ → Bool
none_of a b c k = not (eqb k a || (eqb k b || eqb k c))

-- which of the faults job k is to have: 25, 15, 26
abbrev pub wanted : ℕ → List Bool
wanted k = none_of 1 2 5 k ∷ none_of 0 2 4 k ∷ none_of 0 1 3 k ∷ []

-- which of them the job (r, d, p) has: a deadline past the horizon, an empty span, no volume
abbrev pub found : ℕ → ℕ → ℕ → List Bool
found r d p = ltb 4096 d ∷ leb d r ∷ eqb p 0 ∷ []

-- whether a field has its absent value, so that it would be left out
abbrev pub left_out : ℕ → ℕ → ℕ → Bool
left_out r d p = eqb r 0 || (eqb d 4096 || eqb p 1)
