-- What the shown interval is, in one statement for either answer.
use Rattle.std.specs.Prelude.{ℕ}
use Rattle.std.proofs.Math.Option.{Option, none, some}
use Rattle.sched.specs.Jobs.{Jobs}
use Rattle.steps.specs.Overload.{Overfull, Shown}
use Rattle.sched.specs.declared.Interval.{Interval}
pub mod Order
pub mod Search
pub mod Late

-- what an answer says of the overloaded intervals
abbrev pub ShowsAll : Jobs → Option Interval → Type 0
ShowsAll J none = (a b : ℕ) → Overfull J a b → ⊥
ShowsAll J (some i) = Shown J i
