-- 02, card 1: "The reader, planner, judge and list writer all change". Each refuses a job exactly where its checks do, by their number and
-- place; here what they share. Who cites it: `joblist/specs/Theorems/TellsJob` for reader and writer, `steps/specs/Theorems/TellsJob` for the planner,
-- `judge/specs/Theorems`.
use Rattle.std.specs.Prelude.{ℕ, ◌≡◌, List, [], ◌∷◌, ◌↔◌, Err, Ok}
use Rattle.std.proofs.Common.{sym, subst}
use Rattle.sched.specs.Refusals.{number, place, Checked}
use Rattle.sched.specs.Checks.{and_then, checked_number, checked_values}
use Rattle.sched.proofs.Theorems.RefusesJob.{JobFaultNumber, RefusesJob, other_passed}
use Rattle.sched.specs.declared.Refusal.{Refusal}

-- the number and values of an answer of a function that makes this check: it refuses a job exactly where the check does, and as the check does
pub record TellsJob (check : Checked) (number : ℕ) (values : List ℕ) : Type 0 where
  pub job : JobFaultNumber number ↔ RefusesJob check
  pub same_number : JobFaultNumber number → number ≡ checked_number check
  pub same_values : JobFaultNumber number → values ≡ checked_values check

-- What a function answers that makes a check, then others that refuse no job. The two functions give number and values by what all checks said.
module _ (tells_number : Checked → ℕ) (tells_values : Checked → List ℕ) (by_number : (r : Refusal) → tells_number (Err r) ≡ number r)
    (by_place : (r : Refusal) → tells_values (Err r) ≡ place r ∷ []) (else : JobFaultNumber (tells_number (Ok tt)) → ⊥) where
  pub check_tells : (c : Checked) → TellsJob c (tells_number c) (tells_values c)
  check_tells (Ok tt) =
      record {
        job = (λ f. absurd (else f), λ f. absurd (other_passed f));
        same_number = λ f. absurd (else f);
        same_values = λ f. absurd (else f);
      }
  check_tells (Err r) =
      record {
        job = (subst JobFaultNumber (by_number r), subst JobFaultNumber (sym (by_number r)));
        same_number = λ f. by_number r;
        same_values = λ f. by_place r;
      }

  pub first_tells : (c rest : Checked) → (RefusesJob rest → ⊥) → TellsJob c (tells_number (and_then c rest)) (tells_values (and_then c rest))
  first_tells (Ok tt) rest other =
      let no : JobFaultNumber (tells_number rest) → ⊥ = λ f. other ((check_tells rest).job.0 f) in
      record {
        job = (λ f. absurd (no f), λ f. absurd (other_passed f));
        same_number = λ f. absurd (no f);
        same_values = λ f. absurd (no f);
      }
  first_tells (Err r) rest other = check_tells (Err r)
