-- Numbers in falling order of a key.
use Rattle.std.specs.Prelude.{ℕ, suc, ◌≤◌, ◌≡◌, List, [], ◌∷◌, map}
use Rattle.sched.specs.Bounded.{sum_below, total}

-- no key of the list is above v
abbrev pub AtMost : (ℕ → ℕ) → ℕ → List ℕ → Type 0
AtMost key v [] = Unit {0}
AtMost key v (x ∷ l) = (key x ≤ v) × AtMost key v l

-- keys fall, or stay
abbrev pub Falling : (ℕ → ℕ) → List ℕ → Type 0
Falling key [] = Unit {0}
Falling key (x ∷ l) = AtMost key (key x) l × Falling key l

-- the list has the numbers below n, each once, in falling order
pub record InOrder (key : ℕ → ℕ) (n : ℕ) (l : List ℕ) : Type 0 where
  pub once : (f : ℕ → ℕ) → total (map f l) ≡ sum_below n f
  pub below : AtMost suc n l
  pub falling : Falling key l
