-- Demand 3, in the words of `sched`: two planners with one list that passes the list checks, one wake cost and one start. A rival's schedule is any
-- feasible table of H bytes. An answer is given by what can be read off it: whether it says overloaded, which interval it shows, and which
-- energy it reports. So the records here serve the planner on lent lists, the call from C, and any other planner.
use Rattle.std.specs.Prelude.{ℕ, ◌+◌, ◌-◌, ◌≤◌, ◌≡◌, List, length, take}
use Rattle.sched.specs.Jobs.{Jobs, total_volume}
use Rattle.sched.specs.Slots.{awake_of, working_of}
use Rattle.sched.specs.Energy.{energy}
use Rattle.sched.specs.Feasible.{Feasible}
use Rattle.steps.specs.Skeleton.{least_skeleton}
use Rattle.steps.specs.Workable.{workable}
use Rattle.steps.specs.Extension.{woken}
use Rattle.steps.specs.Outcomes.{Plan}
use Rattle.steps.specs.Overload.{Overfull}
use Rattle.sched.specs.declared.PlanFigures.{PlanFigures}
use Rattle.sched.specs.declared.Outcome.{Outcome}
use Rattle.sched.specs.declared.Outcome.TheVariants.{Planned, Overloaded, Refused}

-- no feasible schedule exists
abbrev pub NoSchedule : Jobs → Type 0
NoSchedule J = (rival : List ℕ) → Feasible J rival → ⊥

-- what can be read off an answer
pub record Answered : Type 1 where
  pub overloaded : Type 0
  pub shows : ℕ → ℕ → Type 0
  pub reports : ℕ → Type 0

-- a feasible schedule is handed over, and its energy reported
pub record HandsOver (J : Jobs) (a : Answered) (table : List ℕ) : Type 0 where
  pub feasible : Feasible J table
  pub reported : a.reports (energy J (awake_of table))

-- what every planner owes; `table` is the first H bytes of the lent buffer after the call
pub record Sound (J : Jobs) (a : Answered) (table : List ℕ) : Type 0 where
  pub no_schedule : a.overloaded → NoSchedule J
  pub says_so : NoSchedule J → a.overloaded
  pub shown : a.overloaded → (from : ℕ) × (to : ℕ) × a.shows from to
  pub interval : (from to : ℕ) → a.shows from to → Overfull J from to
  pub otherwise : (a.overloaded → ⊥) → HandsOver J a table

-- the energy limit: what is reported is at most a rival's energy plus the sum of all volumes. Card 10: "The rival in the energy limit starts in the same
-- state": its energy, too, is that of J.
abbrev pub WithinLimit : Jobs → Answered → Type 0
WithinLimit J a = (reported : ℕ) → a.reports reported → (rival : List ℕ) → Feasible J rival → reported ≤ energy J (awake_of rival) + total_volume J

-- demand 3
pub record AgainstRivals (J : Jobs) (a : Answered) (table : List ℕ) : Type 0 where
  pub sound : Sound J a table
  pub limit : WithinLimit J a

-- 02, card 5: where an energy is reported, it is that of the table handed back, and no table costs less in which the same slots work as in that one,
-- whatever its other slots hold. Equal lists of working slots have equal lengths, so these are tables of H bytes.
abbrev pub CheapestSleep : Jobs → Answered → List ℕ → Type 0
CheapestSleep J a table =
    (reported : ℕ) → a.reports reported →
    (reported ≡ energy J (awake_of table)) × ((other : List ℕ) → working_of other ≡ working_of table → energy J (awake_of table) ≤ energy J (awake_of other))

-- the planner's outcome

abbrev pub SaysOverloaded : Outcome → Type 0
SaysOverloaded (Planned f) = ⊥
SaysOverloaded (Overloaded i) = Unit {0}
SaysOverloaded (Refused r) = ⊥

abbrev pub Shows : Outcome → ℕ → ℕ → Type 0
Shows (Planned f) from to = ⊥
Shows (Overloaded i) from to = (i.a ≡ from) × (i.b ≡ to)
Shows (Refused r) from to = ⊥

abbrev pub Reports : Outcome → ℕ → Type 0
Reports (Planned f) reported = f.energy ≡ reported
Reports (Overloaded i) reported = ⊥
Reports (Refused r) reported = ⊥

abbrev pub as_outcome : Outcome → Answered
as_outcome o = record { overloaded = SaysOverloaded o; shows = Shows o; reports = Reports o }

-- what the steps of a planner make of a list without an overloaded interval: a plan with a feasible table and its energy
pub record Delivers (J : Jobs) (plan : Plan) : Type 0 where
  pub figures : PlanFigures
  pub planned : plan.answer ≡ Planned figures
  pub feasible : Feasible J (take J.horizon plan.table)
  pub reported : figures.energy ≡ energy J (awake_of (take J.horizon plan.table))

-- what `added` counts: the slots that step 3 wakes, and what the skeleton's workable volume is short of
abbrev pub CountsWoken : Jobs → ℕ → Type 0
CountsWoken J added = (added ≡ length (woken J (least_skeleton J))) × (added ≡ total_volume J - workable J (least_skeleton J))
