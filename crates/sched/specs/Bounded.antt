-- Searches, tests and sums over the numbers below a bound, and over lists. No sentence of 01 by themselves.
use Rattle.std.specs.Prelude.{ℕ, zero, suc, ◌+◌, max, Bool, true, false, ◌&&◌, ◌||◌, List, [], ◌∷◌, leb}
use Rattle.std.proofs.Math.Option.{Option, none, some}

-- f holds of some number below n
unfoldable pub any_below : ℕ → (ℕ → Bool) → Bool
any_below zero f = false
any_below (suc n) f = any_below n f || f n

-- f holds of every number below n
unfoldable pub all_below : ℕ → (ℕ → Bool) → Bool
all_below zero f = true
all_below (suc n) f = all_below n f && f n

-- the sum of f over the numbers below n
unfoldable pub sum_below : ℕ → (ℕ → ℕ) → ℕ
sum_below zero f = 0
sum_below (suc n) f = sum_below n f + f n

-- the greatest value of f over the numbers below n, 0 where there is none
unfoldable pub max_below : ℕ → (ℕ → ℕ) → ℕ
max_below zero f = 0
max_below (suc n) f = max (max_below n f) (f n)

-- the least of the k numbers from t on of which f holds
unfoldable pub least_from : ℕ → ℕ → (ℕ → Bool) → Option ℕ
least_from zero t f = none
least_from (suc k) t f = elim (f t) [ true ↦ some t | false ↦ least_from k (suc t) f ]

-- the greatest number below n of which f holds
unfoldable pub last_below : ℕ → (ℕ → Bool) → Option ℕ
last_below zero f = none
last_below (suc n) f = elim (f n) [ true ↦ some n | false ↦ last_below n f ]

-- the values of f at the k numbers from t on
unfoldable pub values_from : {A : Type 0} → ℕ → ℕ → (ℕ → A) → List A
values_from zero t f = []
values_from (suc k) t f = f t ∷ values_from k (suc t) f

-- the members of a list of which f holds, in order
unfoldable pub keep : {A : Type 0} → (A → Bool) → List A → List A
keep f [] = []
keep f (x ∷ xs) = elim (f x) [ true ↦ x ∷ keep f xs | false ↦ keep f xs ]

-- the first member of least cost among x and the list
unfoldable pub first_least : {A : Type 0} → (A → ℕ) → A → List A → A
first_least cost x [] = x
first_least cost x (y ∷ ys) =
    let best = first_least cost y ys in
    elim (leb (cost x) (cost best)) [ true ↦ x | false ↦ best ]

-- the sum of a list
unfoldable pub total : List ℕ → ℕ
total [] = 0
total (x ∷ xs) = x + total xs
