-- The volumes, copied.
use Prim.Native.Nat.{ℕ, zero, suc, ◌+◌, ◌≤◌}
use mathlib.Core.Path.{◌≡◌, refl, ap, fun_ext, ◌∙◌}
use mathlib.Core.List.{List, [], ◌∷◌, ◌++◌}
use native.Mathlib.Omega.{arith}
use lib.ListN.{length, get_or, take, drop, replicate, length-append, length-drop, length-replicate}
use lib.Seq.{get_or-drop, take-length}
use Rattle.laws_edf.specs.Search.{state_of}
use Rattle.queue.specs.Runs.{Units}

zeros : (n i : ℕ) → ◌≡◌ {A = ℕ} (get_or (replicate n 0) i 0) 0
zeros zero i = refl
zeros (suc n) zero = refl
zeros (suc n) (suc i) = zeros n i

padded : (l z : List ℕ) → ((i : ℕ) → get_or z i 0 ≡ 0) → (j : ℕ) → get_or (l ++ z) j 0 ≡ get_or l j 0
padded [] z h j = h j
padded (x ∷ l) z h zero = refl
padded (x ∷ l) z h (suc j) = padded l z h j

-- the volumes, copied to an array of zeros
pub units_are : (volumes units : List ℕ) → length volumes ≤ 64 → units ≡ take (length volumes) volumes ++ drop (length volumes) (replicate 64 0) → Units volumes units
units_are volumes units few copied =
    let e : units ≡ volumes ++ drop (length volumes) (replicate 64 0) = copied ∙ ap (λ (l : List ℕ). l ++ drop (length volumes) (replicate 64 0)) (take-length volumes) in
    record {
      long = ap length e ∙ simp (length-append, length-drop, length-replicate) (omega arith);
      same = ap state_of e ∙ fun_ext (λ j. padded volumes (drop (length volumes) (replicate 64 0)) (λ i. get_or-drop (length volumes) (replicate 64 0) i 0 ∙ zeros 64 (length volumes + i)) j);
    }
