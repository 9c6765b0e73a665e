-- Bytes stored from the front of a lent buffer, one a turn.
use Rattle.std.specs.Prelude.{ℕ, ◌+◌, ◌≤◌, ◌≡◌, refl, List, [], ◌∷◌, ◌++◌, length, set, drop}
use Rattle.std.proofs.Common.{sym, ap, ◌∙◌, add-one, zero-add, arith, length-set}
use Rattle.std.proofs.lemmas.List.Edits.{sets, sets-eq}
use Rattle.record_map.specs.Stored.{stored}

-- of the bytes vs for out₀, those in rest are still to be stored, at `at`
pub record Filling (out₀ vs out : List ℕ) (at : ℕ) (rest : List ℕ) : Type 0 where
  pub long : length out ≡ length out₀
  pub room : at + length rest ≤ length out₀
  pub stored : sets out₀ 0 vs ≡ sets out at rest

pub filling_start : (out vs : List ℕ) → length vs ≤ length out → Filling out vs out 0 vs
filling_start out vs l = record { long = refl; room = omega arith; stored = refl }

-- one byte more
pub filling_turn : (out₀ vs out : List ℕ) (at byte : ℕ) (rest : List ℕ) → Filling out₀ vs out at (byte ∷ rest) → Filling out₀ vs (set out at byte) (at + 1) rest
filling_turn out₀ vs out at byte rest f =
    record { long = simp length-set f.long; room = omega (arith, f.room); stored = rw (add-one at) f.stored }

-- nothing is left
pub filling_end : (out₀ vs out : List ℕ) (at : ℕ) → length vs ≤ length out₀ → Filling out₀ vs out at [] → out ≡ stored vs out₀
filling_end out₀ vs out at l f =
    sym f.stored ∙ sets-eq vs out₀ 0 (omega arith) ∙ ap (λ (k : ℕ). vs ++ drop k out₀) (zero-add (length vs))
