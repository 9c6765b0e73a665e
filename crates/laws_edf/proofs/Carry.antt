-- Laws of units that are carried over a slot.
use Rattle.std.specs.Prelude.{ℕ, suc, ◌≤◌, ◌<◌, ◌⊎◌}
use Rattle.std.proofs.Common.{inl, inr, arith}
use Rattle.std.proofs.Math.Decide.{dec_le, dec_lt}
use Rattle.laws_edf.specs.Run.{Spans, State, Eligible}
use Rattle.laws_edf.specs.Lacking.{Carry}
use Rattle.laws_edf.proofs.Find.{dec_both, find}

pub carry_later : (F : Spans) (e e' t : ℕ) (L : State) → e ≤ e' → Carry F e t L → Carry F e' t L
carry_later F e e' t L l c =
    record { job = c.job; below = c.below; released = c.released; unexpired = c.unexpired; due = omega (arith, c.due); unit = c.unit }

pub own_carry : (F : Spans) (k t : ℕ) (L : State) → k < F.n → F.r k < t → t ≤ F.d k → 0 < L k → Carry F (F.d k) t L
own_carry F k t L b r d u = record { job = k; below = b; released = r; unexpired = d; due = omega arith; unit = u }

pub carry_more : (F : Spans) (e t : ℕ) (L M : State) → ((j : ℕ) → L j ≤ M j) → Carry F e t L → Carry F e t M
carry_more F e t L M l c =
    record { job = c.job; below = c.below; released = c.released; unexpired = c.unexpired; due = c.due; unit = omega (arith, c.unit, l c.job) }

pub carry_eligible : (F : Spans) (e t : ℕ) (M L : State) (c : Carry F e (suc t) M) → 0 < L c.job → Eligible F t L c.job
carry_eligible F e t M L c u =
    record { below = c.below; released = omega (arith, c.released); before = c.unexpired; unit = u }

-- job j carries a unit
abbrev Carries : Spans → ℕ → ℕ → State → ℕ → Type 0
Carries F e t L j = ((F.r j < t) × (t ≤ F.d j)) × ((F.d j ≤ e) × (0 < L j))

pub carry_decided : (F : Spans) (e t : ℕ) (L : State) → Dec (Carry F e t L)
carry_decided F e t L =
    go (find (Carries F e t L) (λ j. dec_both (dec_both (dec_lt (F.r j) t) (dec_le t (F.d j))) (dec_both (dec_le (F.d j) e) (dec_lt 0 (L j)))) F.n)
  where
    go : ((j : ℕ) × (j < F.n) × Carries F e t L j) ⊎ ((j : ℕ) → j < F.n → Carries F e t L j → ⊥) → Dec (Carry F e t L)
    go (inl (j, b, c)) =
        yes (record { job = j; below = b; released = c.0.0; unexpired = c.0.1; due = c.1.0; unit = c.1.1 })
    go (inr f) = no (λ c. f c.job c.below ((c.released, c.unexpired), (c.due, c.unit)))
