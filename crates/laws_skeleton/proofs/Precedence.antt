-- Two sets that precede each other are the same, and what precedence says of the first slot where two differ.
use Rattle.std.specs.Prelude.{ℕ, zero, suc, ◌<◌, ◌≡◌, refl, Bool, true, false, List, [], ◌∷◌, ◌≢◌}
use Rattle.std.proofs.Common.{ap, arith}
use Rattle.sched.specs.Slots.{awake}
use Rattle.sched.proofs.Bounded.Laws.{true_not_false}
use Rattle.steps.specs.Skeleton.{Precedes}

pub precedes_both : (S R : List Bool) → Precedes S R → Precedes R S → S ≡ R
precedes_both [] [] p r = refl
precedes_both [] (y ∷ R) p r = absurd p
precedes_both (x ∷ S) [] p r = absurd p
precedes_both (false ∷ S) (false ∷ R) p r = ap (λ (l : List Bool). false ∷ l) (precedes_both S R p r)
precedes_both (false ∷ S) (true ∷ R) p r = absurd r
precedes_both (true ∷ S) (false ∷ R) p r = absurd p
precedes_both (true ∷ S) (true ∷ R) p r = ap (λ (l : List Bool). true ∷ l) (precedes_both S R p r)

-- where S precedes R and they differ first at slot t, S is asleep there
pub precedes_differ : (S R : List Bool) (t : ℕ) → Precedes S R → ((u : ℕ) → u < t → awake S u ≡ awake R u) → awake S t ≢ awake R t → awake S t ≡ false
precedes_differ [] [] t p same d = absurd (d refl)
precedes_differ [] (y ∷ R) t p same d = absurd p
precedes_differ (x ∷ S) [] t p same d = absurd p
precedes_differ (false ∷ S) (false ∷ R) zero p same d = absurd (d refl)
precedes_differ (false ∷ S) (false ∷ R) (suc t) p same d = precedes_differ S R t p (λ u l. same (suc u) (omega arith)) d
precedes_differ (false ∷ S) (true ∷ R) zero p same d = refl
precedes_differ (false ∷ S) (true ∷ R) (suc t) p same d = true_not_false false (same 0 (omega arith)) refl
precedes_differ (true ∷ S) (false ∷ R) t p same d = absurd p
precedes_differ (true ∷ S) (true ∷ R) zero p same d = absurd (d refl)
precedes_differ (true ∷ S) (true ∷ R) (suc t) p same d = precedes_differ S R t p (λ u l. same (suc u) (omega arith)) d
