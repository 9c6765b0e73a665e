-- `count` meets its contract: the library's sum adds up the ones of each byte.
use Rattle.std.proofs.Common.{refl, arith}
use Rattle.std.proofs.lemmas.Grind.{common_steps}
use Rattle.std.proofs.lemmas.List.Recursion.{is_sum_by}
use Rattle.sched.specs.Bounded.{total}
use Rattle.record_map.proofs.reader.count.Goals as goal

pub returns : goal.returns
unfolding total
returns c = grind (arith, common_steps, is_sum_by total (λ x. x) refl (λ _ _. refl))
