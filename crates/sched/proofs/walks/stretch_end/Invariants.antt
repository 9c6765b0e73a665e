-- `stretch_end` meets its contract: the slots passed are all in the same state.
use Rattle.std.proofs.Common.{ℕ, ◌≡◌, ◌<◌, Bool, List}
use Rattle.sched.specs.Slots.{awake}
use Rattle.sched.proofs.Runs.Search.{Reached}
use Rattle.sched.proofs.walks.stretch_end.Given as goal

abbrev pub invariant-loop-t : goal.invariant-loop-t
invariant-loop-t g l =
    (S : List Bool) → ((t : ℕ) (b : Bool) → t < l.h → goal.F-post g l.is_awake t b → b ≡ awake S t) → Reached S l.h l.from l.state l.t
