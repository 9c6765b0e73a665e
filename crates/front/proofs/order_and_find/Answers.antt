-- `order_and_find` meets its contract: both orders stand in the fronts of the arrays, where step 1 reads them.
use Rattle.std.proofs.Common.{refl}
use Rattle.orders.specs.Fronts.{front_length}
use Rattle.front.proofs.Fronts.{ranks_fit, arrivals_fit, few, places, in_front, asked, found}
use Rattle.front.proofs.order_and_find.Goals as goal

pub slice_bounds-rank-end : goal.slice_bounds-rank-end
slice_bounds-rank-end c = ranks_fit c.requires.0 c.requires.1

pub slice_bounds-rank-end-2 : goal.slice_bounds-rank-end-2
slice_bounds-rank-end-2 c = front_length _ _ (ranks_fit c.requires.0 c.requires.1)

pub slice_bounds-rank-end-3 : goal.slice_bounds-rank-end-3
slice_bounds-rank-end-3 c = arrivals_fit c.requires.0 c.requires.1

pub slice_bounds-rank-end-4 : goal.slice_bounds-rank-end-4
slice_bounds-rank-end-4 c = front_length _ _ (arrivals_fit c.requires.0 c.requires.1)

pub rank-requires : goal.rank-requires
rank-requires c = places c.requires.0 c.requires.1

pub invariant_of-jobs-clause-few : goal.invariant_of-jobs-clause-few
invariant_of-jobs-clause-few c = few c.requires.0 c.requires.1

pub invariant_of-jobs-clause-orders : goal.invariant_of-jobs-clause-orders
invariant_of-jobs-clause-orders c = in_front c.requires.0 c.requires.1 c.rank.auto.ranks c.rank.auto.arrivals c.rank.ensures.orders

pub find-requires : goal.find-requires
find-requires c = asked c.requires.0 refl refl

pub returns : goal.returns
returns c = found c.requires.0 c.find.ensures (in_front c.requires.0 c.requires.1 c.rank.auto.ranks c.rank.auto.arrivals c.rank.ensures.orders)
