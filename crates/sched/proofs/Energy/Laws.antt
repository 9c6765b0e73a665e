-- How large the figures of a table can get: a run needs a sleeping slot before the next one, so there are at most (H + 1) / 2 of them. What each
-- start means for the energy (02, card 10). And the figures of a set that is cut in two.
use Rattle.std.specs.Prelude.{ℕ, suc, ◌+◌, ◌*◌, ◌≤◌, ◌≡◌, refl, Bool, true, false, List, [], ◌∷◌, ◌++◌, length}
use Rattle.std.proofs.Common.{sym, ap, ◌∙◌, zero-add, suc-add, mul-suc, mul-le-mul, arith}
use Rattle.sched.proofs.Bounded.Laws.{true_not_false}
use Rattle.sched.specs.Jobs.{Jobs}
use Rattle.sched.specs.Slots.{state_after, awake}
use Rattle.sched.specs.Energy.{awake_slots, runs_from, runs, energy}

pub awake_at_most : (S : List Bool) → awake_slots S ≤ length S
unfolding awake_slots
awake_at_most [] = omega arith
awake_at_most (true ∷ S) = omega (arith, awake_at_most S)
awake_at_most (false ∷ S) = omega (arith, awake_at_most S)

-- in an awake state the next run comes a slot later
unfoldable pub room : Bool → ℕ
room true = 0
room false = 1

pub runs_at_most : (b : Bool) (S : List Bool) → 2 * runs_from b S ≤ length S + room b
unfolding runs_from room
runs_at_most b [] = omega arith
runs_at_most true (false ∷ S) = omega (arith, runs_at_most false S)
runs_at_most false (false ∷ S) = omega (arith, runs_at_most false S)
runs_at_most true (true ∷ S) = omega (arith, runs_at_most true S)
runs_at_most false (true ∷ S) = omega (arith, runs_at_most true S)

-- The first slot tells the two starts apart: where it is awake, a start asleep has one wake more to pay, and else none.

pub wakes_first_awake : (S : List Bool) → runs_from false (true ∷ S) ≡ suc (runs_from true (true ∷ S))
unfolding runs_from
wakes_first_awake S = refl

pub wakes_first_asleep : (b : Bool) (S : List Bool) → runs_from false (false ∷ S) ≡ runs_from b (false ∷ S)
unfolding runs_from
wakes_first_asleep true S = refl
wakes_first_asleep false S = refl

pub wakes_none : (b : Bool) → runs_from b [] ≡ 0
unfolding runs_from
wakes_none b = refl

-- 02, card 10: from a start asleep energy is what it was before the card, "the number of awake slots plus q times the number of runs"
pub asleep_energy : (J : Jobs) (S : List Bool) → J.start ≡ false → energy J S ≡ awake_slots S + J.wake * runs S
asleep_energy J S start = rw start refl

-- and from a start awake it is q less exactly where slot 0 is awake; runs are counted alike
pub energy_first_awake : (J : Jobs) (S : List Bool) → J.start ≡ true → awake S 0 ≡ true → energy J S + J.wake ≡ awake_slots S + J.wake * runs S
energy_first_awake J [] start first = absurd (true_not_false false first refl)
energy_first_awake J (false ∷ S) start first = absurd (true_not_false false first refl)
energy_first_awake J (true ∷ S) start first =
    let q = J.wake in
    rw (start, wakes_first_awake S) (omega (arith, mul-suc q (runs_from true (true ∷ S))))

pub energy_first_asleep : (J : Jobs) (S : List Bool) → awake S 0 ≡ false → energy J S ≡ awake_slots S + J.wake * runs S
energy_first_asleep J [] first = ap (λ (n : ℕ). awake_slots [] + J.wake * n) (wakes_none J.start ∙ sym (wakes_none false))
energy_first_asleep J (true ∷ S) first = absurd (true_not_false true refl first)
energy_first_asleep J (false ∷ S) first = ap (λ (n : ℕ). awake_slots (false ∷ S) + J.wake * n) (sym (wakes_first_asleep J.start S))

-- half of H + 1 at the largest horizon, from either state
pub runs_few : (b : Bool) (S : List Bool) → length S ≤ 4096 → runs_from b S ≤ 2048
unfolding room
runs_few true S l = omega (arith, runs_at_most true S)
runs_few false S l = omega (arith, runs_at_most false S)

-- "65,535 × 2,048 + 4,096": the energies of all tables fit 32 bits
pub energy_at_most : (J : Jobs) (S : List Bool) → length S ≤ 4096 → J.wake ≤ 65535 → energy J S ≤ 65535 * 2048 + 4096
energy_at_most J S l w = omega (arith, awake_at_most S, mul-le-mul w (runs_few J.start S l))

-- a set cut in two: the second part begins in the state that the first ends with

pub awake_append : (S R : List Bool) → awake_slots (S ++ R) ≡ awake_slots S + awake_slots R
unfolding awake_slots
awake_append [] R = sym (zero-add (awake_slots R))
awake_append (true ∷ S) R = ap suc (awake_append S R) ∙ sym (suc-add (awake_slots S) (awake_slots R))
awake_append (false ∷ S) R = awake_append S R

pub runs_append : (b : Bool) (S R : List Bool) → runs_from b (S ++ R) ≡ runs_from b S + runs_from (state_after b S) R
unfolding runs_from
runs_append b [] R = sym (zero-add (runs_from b R))
runs_append b (false ∷ S) R = runs_append false S R
runs_append true (true ∷ S) R = runs_append true S R
runs_append false (true ∷ S) R = ap suc (runs_append true S R) ∙ sym (suc-add (runs_from true S) (runs_from (state_after true S) R))
