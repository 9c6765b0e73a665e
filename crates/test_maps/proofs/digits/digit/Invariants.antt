-- `digits::digit` meets its contract: what is left is the number without its lowest digits.
use Rattle.std.proofs.Common.{◌≡◌, ◌/◌, ◌^◌}
use Rattle.test_maps.proofs.digits.digit.Given as goal

abbrev pub invariant-loop : goal.invariant-loop
invariant-loop l = l.left ≡ l.code / l.base ^ l.counter
