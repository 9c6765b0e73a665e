-- A marked table has the set that it was made of.
use Rattle.std.specs.Prelude.{◌≡◌, refl, Bool, true, false, List, [], ◌∷◌}
use Rattle.std.proofs.Common.{ap}
use Rattle.sched.specs.Slots.{awake_of}
use Rattle.step2_skeleton.specs.Marks.{marked}

pub awake_of_marked : (S : List Bool) → awake_of (marked S) ≡ S
awake_of_marked [] = refl
awake_of_marked (true ∷ S) = ap (λ (r : List Bool). true ∷ r) (awake_of_marked S)
awake_of_marked (false ∷ S) = ap (λ (r : List Bool). false ∷ r) (awake_of_marked S)
