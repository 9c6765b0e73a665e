-- What is asked and promised before any slot is planned, and the number and values of each answer. Each promise holds for every wake cost and
-- every state before slot 0.
use Rattle.std.specs.Prelude.{ℕ, ◌≤◌, ◌≡◌, Bool, List, length, take, Option, Result, Ok, Err}
use Rattle.std.proofs.Math.Option.{Option as Given, none, some}
use Rattle.sched.specs.Jobs.{jobs_from}
use Rattle.sched.specs.Checks.{Passes}
use Rattle.steps.specs.Overload.{shown_overload}
use Rattle.steps.specs.Outcomes.{early_answer}
use Rattle.sched.specs.Answers.{outcome_number, outcome_values}
use Rattle.sched.specs.declared.Outcome.{Outcome}
use Rattle.laws_edf.specs.Orders.{Orders}
use Rattle.step1_overload.specs.Search.{as_shown}
use Rattle.sched.specs.declared.Interval.{Interval}
pub mod Laws

-- an answer that there is already has the outcome's number and values; where there is none yet there is no number, as 0 would say planned
abbrev pub early_number : Result (Unit {0}) Outcome → Given ℕ
early_number (Err o) = some (outcome_number o)
early_number (Ok tt) = none

abbrev pub early_values : Result (Unit {0}) Outcome → Given (List ℕ)
early_values (Err o) = some (outcome_values o)
early_values (Ok tt) = none

-- the answer for what the definition gives
abbrev pub as_early : Given Outcome → Result (Unit {0}) Outcome
as_early (some o) = Err o
as_early none = Ok tt

-- the promise: the number and the values that come back are those of the definition, and so is the case
pub record EarlyPromise (wanted answer : Result (Unit {0}) Outcome) : Type 0 where
  pub number : early_number answer ≡ early_number wanted
  pub values : early_values answer ≡ early_values wanted
  pub same : answer ≡ wanted

-- the two arrays have a place for each job
pub record Room (ranks arrivals : List ℕ) : Type 0 where
  pub ranks_long : 64 ≤ length ranks
  pub arrivals_long : 64 ≤ length arrivals

-- the list passes the checks, whatever its wake cost and start
abbrev pub AllPass : ℕ → List ℕ → List ℕ → List ℕ → Type 0
AllPass h rs ds ps = (q : ℕ) (start : Bool) → Passes (jobs_from h q start rs ds ps)

-- the fronts of the two arrays are the orders of the jobs
abbrev pub InFront : List ℕ → List ℕ → List ℕ → List ℕ → Type 0
InFront rs ds ranks arrivals = Orders rs ds (take (length rs) ranks) (take (length rs) arrivals)

pub record Found (h : ℕ) (rs ds ps : List ℕ) (answer : Option Interval) (ranks arrivals : List ℕ) : Type 0 where
  pub shown : (q : ℕ) (start : Bool) → answer ≡ as_shown (shown_overload (jobs_from h q start rs ds ps))
  pub orders : InFront rs ds ranks arrivals

-- the answer is 01's; where there is none yet, the list passes the checks, the table is long enough, and the jobs are in order
pub record Begins (h : ℕ) (rs ds ps : List ℕ) (have : ℕ) (answer : Result (Unit {0}) Outcome) (ranks arrivals : List ℕ) : Type 0 where
  pub early : (q : ℕ) (start : Bool) → EarlyPromise (as_early (early_answer (jobs_from h q start rs ds ps) have)) answer
  pub orders : answer ≡ Ok tt → InFront rs ds ranks arrivals
