-- 01, "Plans worked by hand": what a row of a table of worked plans says, and that the definitions give just that.
use Rattle.std.specs.Prelude.{ℕ, suc, ◌<◌, ◌≡◌, Bool, true, false, List, [], ◌∷◌, replicate}
use Rattle.std.proofs.Math.Option.{Option, none, some}
use Rattle.sched.specs.Jobs.{Jobs}
use Rattle.sched.specs.Slots.{awake_of}
use Rattle.sched.specs.Energy.{runs, energy}
use Rattle.sched.specs.Feasible.{Feasible}
use Rattle.sched.specs.Answers.{outcome_number, outcome_values}
use Rattle.sched.specs.declared.Outcome.{Outcome}
use Rattle.sched.specs.declared.Outcome.TheVariants.{Planned, Overloaded, Refused}
use Rattle.steps.specs.Skeleton.{least_skeleton}
use Rattle.steps.specs.Extension.{woken}
use Rattle.steps.specs.Outcomes.{plan}
pub mod Laws

-- a worked plan: the slots of the skeleton, the slots woken in order, the table, the number returned and the values with it. Of an overloaded
-- list 01 gives only the last two, and the table stays as it was lent, here H bytes of 7
pub record Worked : Type 0 where
  pub list : Jobs
  pub skeleton : List ℕ
  pub order : List ℕ
  pub table : List ℕ
  pub number : ℕ
  pub values : List ℕ

-- a rival's table, its runs, and what it costs
pub record Rival : Type 0 where
  pub table : List ℕ
  pub runs : ℕ
  pub energy : ℕ

-- a row of the table below; the rival is there for a plan that is not the best
pub record Row : Type 0 where
  pub worked : Worked
  pub rival : Option Rival

-- the slots of a set, from slot t on
unfoldable pub members : ℕ → List Bool → List ℕ
members t [] = []
members t (true ∷ S) = t ∷ members (suc t) S
members t (false ∷ S) = members (suc t) S

-- the slots of the skeleton and of the extension, where the outcome has them
unfoldable pub skeleton_for : Jobs → Outcome → List ℕ
skeleton_for J (Planned f) = members 0 (least_skeleton J)
skeleton_for J (Overloaded i) = []
skeleton_for J (Refused r) = []

unfoldable pub order_for : Jobs → Outcome → List ℕ
order_for J (Planned f) = woken J (least_skeleton J)
order_for J (Overloaded i) = []
order_for J (Refused r) = []

-- the lent table
abbrev pub sevens : Jobs → List ℕ
sevens J = replicate J.horizon 7

-- the plan that the definitions give
unfoldable pub found : Jobs → Worked
found J =
    let p = plan J (replicate J.horizon 7) in
    record {
      list = J;
      skeleton = skeleton_for J p.answer;
      order = order_for J p.answer;
      table = p.table;
      number = outcome_number p.answer;
      values = outcome_values p.answer;
    }

-- a planned list
unfoldable pub plans : Jobs → List ℕ → List ℕ → List ℕ → List ℕ → Row
plans J sk ord tab vals =
    record { worked = record { list = J; skeleton = sk; order = ord; table = tab; number = 0; values = vals }; rival = none }

-- an overloaded list
unfoldable pub overloads : Jobs → ℕ → ℕ → Row
overloads J a b =
    record {
      worked = record { list = J; skeleton = []; order = []; table = replicate J.horizon 7; number = 18; values = a ∷ b ∷ [] };
      rival = none;
    }

-- the same row, with a table of so many runs that costs so much
unfoldable pub beaten : List ℕ → ℕ → ℕ → Row → Row
beaten tab n cost row = record { worked = row.worked; rival = some (record { table = tab; runs = n; energy = cost }) }

-- "a plan need not be the best": the rival's table is feasible, has these runs, costs this, and that is less than the plan
pub record Cheaper (w : Worked) (r : Rival) : Type 0 where
  pub feasible : Feasible w.list r.table
  pub separate : runs (awake_of r.table) ≡ r.runs
  pub costs : energy w.list (awake_of r.table) ≡ r.energy
  pub less : r.energy < energy w.list (awake_of w.table)

-- the definitions give the row's plan from its list, and its rival, if it has one, is cheaper
pub record Right (row : Row) : Type 0 where
  pub gives : found row.worked.list ≡ row.worked
  pub beats : (r : Rival) → row.rival ≡ some r → Cheaper row.worked r
