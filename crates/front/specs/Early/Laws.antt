-- The answer and what the definition gives tell each other.
use Rattle.std.specs.Prelude.{ℕ, ◌≡◌, refl, Ok, Err}
use Rattle.std.proofs.Common.{sym, ap, arith}
use Rattle.std.proofs.Math.Option.{Option, none, some}
use Rattle.sched.specs.declared.Outcome.{Outcome}
use Rattle.front.specs.Early.{early_number, early_values, as_early, EarlyPromise}

-- an answer that is the definition's has its number and values
pub early_same : {given answer : Option Outcome} → given ≡ answer → EarlyPromise (as_early given) (as_early answer)
early_same e =
    let same = ap as_early (sym e) in
    record { number = ap early_number same; values = ap early_values same; same = same }

-- what the definition gives, from the answer
pub ended_some : (given : Option Outcome) (o : Outcome) → Err o ≡ as_early given → given ≡ some o
ended_some none o e = let z : ◌≡◌ {A = ℕ} 0 1 = cc in absurd (omega arith)
ended_some (some a) o e = cc

pub open_none : (given : Option Outcome) → Ok tt ≡ as_early given → given ≡ none
open_none none e = refl
open_none (some a) e = let z : ◌≡◌ {A = ℕ} 0 1 = cc in absurd (omega arith)
