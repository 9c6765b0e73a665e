-- The ways to an answer: a faulty list, a short table, an overloaded interval; or none yet.
use Rattle.std.specs.Prelude.{Err, None, Ok, Option, Result, Some}
use Prim.Native.Nat.{ℕ}
use mathlib.Core.Path.{◌≡◌, sym, ◌∙◌}
use mathlib.Core.List.{List}
use native.Mathlib.Omega.{arith}
use Rattle.sched.specs.Jobs.{jobs_from}
use Rattle.sched.specs.Checks.{length_check, list_check}
use Rattle.sched.proofs.Checks.Laws.{passed_passes, length_good}
use Rattle.steps.proofs.Outcomes.Laws.{early_faulty, early_length, early_overload, early_none}
use Rattle.sched.specs.declared.Refusal.{Refusal}
use Rattle.sched.specs.declared.Interval.{Interval}
use Rattle.sched.specs.declared.Outcome.{Outcome}
use Rattle.sched.specs.declared.Outcome.TheVariants.{Overloaded, Refused}
use Rattle.step1_overload.specs.Search.Laws.{found_at, found_none}
use Rattle.front.specs.Early.{AllPass, Found, Begins}
use Rattle.front.specs.Early.Laws.{early_same}

ended_not_open : {A : Type 0} (o : Outcome) → ◌≡◌ {A = Result (Unit {0}) Outcome} (Err o) (Ok tt) → A
ended_not_open o e = let z : ◌≡◌ {A = ℕ} 0 1 = cc in absurd (omega arith)

module _ (h : ℕ) (rs ds ps : List ℕ) (have : ℕ) (ranks arrivals : List ℕ) where
  -- the promise of `begin`, of an answer
  abbrev pub Answered : Result (Unit {0}) Outcome → Type 0
  Answered answer = Begins h rs ds ps have answer ranks arrivals

  pub list_refused : (r : Refusal) → list_check h rs ds ps ≡ Err r → Begins h rs ds ps have (Err (Refused r)) ranks arrivals
  list_refused r e =
      record {
        early = λ q start. early_same (early_faulty (jobs_from h q start rs ds ps) have r e);
        orders = λ z. ended_not_open (Refused r) z;
      }

  module _ (e : list_check h rs ds ps ≡ Ok tt) where
    pub checked : AllPass h rs ds ps
    checked q start = passed_passes (jobs_from h q start rs ds ps) e

    pub table_refused : (r : Refusal) → length_check have h ≡ Err r → Begins h rs ds ps have (Err (Refused r)) ranks arrivals
    table_refused r l =
        record {
          early = λ q start. early_same (early_length (jobs_from h q start rs ds ps) have r e l);
          orders = λ z. ended_not_open (Refused r) z;
        }

    module _ (l : length_check have h ≡ Ok tt) (answer : Option Interval) (f : Found h rs ds ps answer ranks arrivals) where
      pub shown_ends : (i : Interval) → answer ≡ Some i → Begins h rs ds ps have (Err (Overloaded i)) ranks arrivals
      shown_ends i a =
          record {
            early = λ q start.
                early_same (early_overload (jobs_from h q start rs ds ps) have (checked q start) (length_good have h l) i (found_at _ i (sym a ∙ f.shown q start)));
            orders = λ z. ended_not_open (Overloaded i) z;
          }

      pub nothing_opens : answer ≡ None → Begins h rs ds ps have (Ok tt) ranks arrivals
      nothing_opens a =
          record {
            early = λ q start.
                early_same (early_none (jobs_from h q start rs ds ps) have (checked q start) (length_good have h l) (found_none _ (sym a ∙ f.shown q start)));
            orders = λ z. f.orders;
          }
