-- 01, "From list to table" and "Refused, and where": the number and the values that 01 gives each case of the planner's answer.
use Rattle.std.specs.Prelude.{ℕ, List, [], ◌∷◌}
use Rattle.sched.specs.Refusals.{number, place}
use Rattle.sched.specs.declared.Outcome.{Outcome}
use Rattle.sched.specs.declared.Outcome.TheVariants.{Planned, Overloaded, Refused}

-- planned is 0, overloaded 18, a refusal its own number
abbrev pub outcome_number : Outcome → ℕ
outcome_number (Planned f) = 0
outcome_number (Overloaded i) = 18
outcome_number (Refused r) = number r

-- the four figures; a and b; the place
abbrev pub outcome_values : Outcome → List ℕ
outcome_values (Planned f) = f.energy ∷ f.awake ∷ f.runs ∷ f.added ∷ []
outcome_values (Overloaded i) = i.a ∷ i.b ∷ []
outcome_values (Refused r) = place r ∷ []
