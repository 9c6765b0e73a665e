-- Feasibility by tests that compute, for closed cases.
use Rattle.std.specs.Prelude.{ℕ, ◌<◌, ◌≡◌, Bool, true, ◌&&◌, ◌||◌, List, ◌⊎◌, length, get_or, leb, ltb, eqb}
use Rattle.std.proofs.Common.{inl, inr, ⊎_elim, arith, leb-true, ltb-true, eqb-true}
use Rattle.sched.specs.Bounded.{all_below}
use Rattle.sched.proofs.Bounded.Laws.{and_true, or_true, all_elim}
use Rattle.sched.specs.Jobs.{Jobs, count, release, deadline, volume}
use Rattle.sched.specs.Slots.{times, idle, asleep}
use Rattle.sched.specs.Feasible.{OwnSlot, Feasible}

abbrev known_test : Jobs → ℕ → Bool
known_test J byte = ltb byte (count J) || (eqb byte idle || eqb byte asleep)

abbrev own_test : Jobs → ℕ → ℕ → Bool
own_test J byte t = leb (count J) byte || leb (release J byte) t && ltb t (deadline J byte)

abbrev slots_test : Jobs → List ℕ → Bool
slots_test J table = all_below J.horizon (λ t. known_test J (get_or table t 0) && own_test J (get_or table t 0) t)

abbrev exact_test : Jobs → List ℕ → Bool
exact_test J table = all_below (count J) (λ j. eqb (times j table) (volume J j))

abbrev pub feasible_test : Jobs → List ℕ → Bool
feasible_test J table = eqb (length table) J.horizon && (slots_test J table && exact_test J table)

module _ (J : Jobs) where
  known : (byte : ℕ) → known_test J byte ≡ true → (byte < count J) ⊎ ((byte ≡ idle) ⊎ (byte ≡ asleep))
  known byte e =
      ⊎_elim (λ (l : ltb byte (count J) ≡ true). inl (ltb-true byte (count J) l)) (λ (r : eqb byte idle || eqb byte asleep ≡ true). inr (other r))
      (or_true (ltb byte (count J)) (eqb byte idle || eqb byte asleep) e)
    where
      other : eqb byte idle || eqb byte asleep ≡ true → (byte ≡ idle) ⊎ (byte ≡ asleep)
      other r =
          ⊎_elim (λ (l : eqb byte idle ≡ true). inl (eqb-true byte idle l)) (λ (l : eqb byte asleep ≡ true). inr (eqb-true byte asleep l))
          (or_true (eqb byte idle) (eqb byte asleep) r)

  own : (byte t : ℕ) → byte < count J → own_test J byte t ≡ true → OwnSlot J byte t
  own byte t m e = go (or_true (leb (count J) byte) (leb (release J byte) t && ltb t (deadline J byte)) e)
    where
      go : (leb (count J) byte ≡ true) ⊎ (leb (release J byte) t && ltb t (deadline J byte) ≡ true) → OwnSlot J byte t
      go (inl l) = absurd (omega (arith, leb-true (count J) byte l))
      go (inr l) =
          let (r, d) = and_true (leb (release J byte) t) (ltb t (deadline J byte)) l in
          record { released = leb-true (release J byte) t r; before = ltb-true t (deadline J byte) d }

  pub test_feasible : (table : List ℕ) → feasible_test J table ≡ true → Feasible J table
  test_feasible table e =
      let (long, rest) = and_true (eqb (length table) J.horizon) (slots_test J table && exact_test J table) e in
      let (slots, exact) = and_true (slots_test J table) (exact_test J table) rest in
      let slot : (t : ℕ) → t < J.horizon → (known_test J (get_or table t 0) ≡ true) × (own_test J (get_or table t 0) t ≡ true)
      = λ t l. and_true (known_test J (get_or table t 0)) (own_test J (get_or table t 0) t) (all_elim J.horizon _ slots t l) in
      record {
        long = eqb-true (length table) J.horizon long;
        known = λ t l. known (get_or table t 0) (slot t l).0;
        own = λ t l m. own (get_or table t 0) t m (slot t l).1;
        exact = λ j l. eqb-true (times j table) (volume J j) (all_elim (count J) _ exact j l);
      }
