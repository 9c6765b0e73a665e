-- `step2_skeleton::by_place` meets its contract: each place is filled from the job that stands there.
use Prim.Native.Nat.{◌-◌, min}
use lib.ListN.{get_or}
use Rattle.orders.specs.Placing.{FilledTo}
use Rattle.step2_skeleton.proofs.by_place.Given as goal

abbrev pub invariant-loop-k : goal.invariant-loop-k
invariant-loop-k l = FilledTo (λ j. get_or l.releases j 0 - 1) l.ranks l.initial.starts l.starts l.k × FilledTo (λ j. min (get_or l.deadlines j 0) (l.h - 1)) l.ranks l.initial.ends l.ends l.k
