-- What the functions of the answer block promise: a number is returned, and its values are put into the block.
use Rattle.std.specs.Prelude.{ℕ, ◌≡◌, List, [], ◌∷◌, Err, Ok, Result}
use Rattle.sched.specs.Refusals.{number, place}
use Rattle.sched.specs.Answers.{outcome_number, outcome_values}
use Rattle.sched.specs.declared.Outcome.{Outcome}
use Rattle.sched.specs.declared.Outcome.TheVariants.{Planned, Overloaded, Refused as Turned}
use Rattle.sleep_plan.specs.Block.{answered}
use Rattle.sleep_plan.specs.Block.Laws.{Small}
use Rattle.sched.specs.declared.Refusal.{Refusal}
use Rattle.joblist.specs.declared.ListHeader.{ListHeader}

pub record Puts (number : ℕ) (values lent : List ℕ) (r : ℕ) (block' : List ℕ) : Type 0 where
  pub returned : r ≡ number
  pub block : block' ≡ answered values lent

-- the reader's refusal; a list that was read puts nothing
abbrev pub PutsRefused : Result ListHeader Refusal → List ℕ → ℕ → List ℕ → Type 0
PutsRefused (Ok header) lent returned block' = (returned ≡ 0) × (block' ≡ lent)
PutsRefused (Err r) lent returned block' = Puts (number r) (place r ∷ []) lent returned block'

-- the figures of a plan are numbers of 32 bits
abbrev pub FiguresFit : Outcome → Type 0
FiguresFit (Planned f) = Small f.energy f.awake f.runs f.added
FiguresFit (Overloaded i) = Unit {0}
FiguresFit (Turned r) = Unit {0}

pub record PutsOutcome (outcome : Outcome) (lent : List ℕ) (r : ℕ) (block' : List ℕ) : Type 0 where
  pub puts : Puts (outcome_number outcome) (outcome_values outcome) lent r block'
  pub fits : FiguresFit outcome
