-- A list passes exactly where its check passes. It stands apart from the laws that it joins, so that a wrong edit of the check is refused by a fact.
use Rattle.std.specs.Prelude.{◌≡◌, ◌↔◌, Ok}
use Rattle.sched.specs.Jobs.{Jobs}
use Rattle.sched.specs.Checks.{Passes, check_of}
use Rattle.sched.proofs.Checks.Laws.{passed_passes, passes_passed}

pub passes : (J : Jobs) → check_of J ≡ (Ok tt) ↔ Passes J
passes J = (passed_passes J, passes_passed J)
