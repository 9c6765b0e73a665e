-- The answer and what is found tell each other.
use Rattle.std.specs.Prelude.{ℕ, ◌≡◌, refl, Option, None, Some}
use Rattle.std.proofs.Common.{ap, arith}
use Rattle.std.proofs.Math.Option.{Option as Found, none, some}
use Rattle.sched.specs.declared.Interval.{Interval}
use Rattle.step1_overload.specs.Search.{shown_number, shown_values, as_shown, ShownPromise}

-- an answer that is the definition's has its number and values
pub shown_same : {wanted answer : Option Interval} → answer ≡ wanted → ShownPromise wanted answer
shown_same e = record { number = ap shown_number e; values = ap shown_values e; same = e }

-- what is found, from the answer
pub found_at : (found : Found Interval) (i : Interval) → Some i ≡ as_shown found → found ≡ some i
found_at none i e = let z : ◌≡◌ {A = ℕ} 0 1 = cc in absurd (omega arith)
found_at (some j) i e = cc

pub found_none : (found : Found Interval) → None ≡ as_shown found → found ≡ none
found_none none e = refl
found_none (some j) e = let z : ◌≡◌ {A = ℕ} 0 1 = cc in absurd (omega arith)
