-- 01, "From list to table", with cards 5, 6 and 10 of 02: the steps put together, for a list that passes the checks and has no overloaded interval.
use Rattle.std.specs.Prelude.{Bool, List, ℕ}
use Rattle.sched.specs.Jobs.{Jobs}
use Rattle.steps.specs.Extension.{extended}
use Rattle.steps.specs.Table.{table_of}
use Rattle.steps.specs.Sleep.{sleep_rule}

-- steps 4 and 5, from a set of awake slots
unfoldable pub table_from : Jobs → List Bool → List ℕ
table_from J S = sleep_rule J.wake J.start (table_of J S)

-- the table of the plan
unfoldable pub plan_table : Jobs → List ℕ
plan_table J = table_from J (extended J)
