-- The cost of a set, the recursion and the built set, each by its first slot.
use Rattle.std.specs.Prelude.{ℕ, zero, suc, ◌+◌, ◌≤◌, ◌<◌, min, ◌≡◌, Bool, List, [], ◌∷◌}
use Rattle.std.proofs.Math.Path.{refl}
use Rattle.std.proofs.Math.Bool.{true, false}
use Rattle.std.proofs.Common.{mul-suc, mul-zero, arith, lt-ltb, le-ltb}
use Rattle.sched.specs.Energy.{awake_slots, runs_from}
use Rattle.laws_skeleton.specs.Recursion.{cost, least, wakes_at, built}

-- the cost of a set by its first slot

pub cost_end : (q : ℕ) (b : Bool) → cost q b [] ≡ 0
unfolding awake_slots runs_from
cost_end q b = rw (mul-zero q)

pub cost_sleep : (q : ℕ) (b : Bool) (S : List Bool) → cost q b (false ∷ S) ≡ cost q false S
unfolding awake_slots runs_from
cost_sleep q b S = refl

-- what an awake slot pays for its wake, by the state before
abbrev pub price : ℕ → Bool → ℕ
price q false = q
price q true = 0

pub cost_awake : (q : ℕ) (b : Bool) (S : List Bool) → cost q b (true ∷ S) ≡ price q b + suc (cost q true S)
unfolding awake_slots runs_from
cost_awake q false S = omega (arith, mul-suc q (runs_from true S))
cost_awake q true S = omega arith

module _ (due : ℕ → ℕ → Bool) (q : ℕ) where
  abbrev L : ℕ → Bool → ℕ → ℕ → ℕ
  L = least due q

  -- the recursion by its first slot

  pub least_end : (b : Bool) (t c : ℕ) → L zero b t c ≡ 0
  unfolding least
  least_end b t c = refl

  pub least_due : (k t c : ℕ) → due c t ≡ true → L (suc k) false t c ≡ q + suc (L k true (suc t) (suc t))
  unfolding least
  least_due k t c e = rw (e, least)

  pub least_sleeps : (k t c : ℕ) → due c t ≡ false → L (suc k) false t c ≡ L k false (suc t) c
  unfolding least
  least_sleeps k t c e = rw (e, least)

  pub least_awake : (k t c : ℕ) → L (suc k) true t c ≡ min (suc (L k true (suc t) (suc t))) (L (suc k) false t c)
  unfolding least
  least_awake k t c = refl

  pub least_true_le : (k t c : ℕ) → L k true t c ≤ L k false t c
  least_true_le zero t c = omega (arith, least_end true t c, least_end false t c)
  least_true_le (suc k) t c = omega (arith, least_awake k t c)

  -- the built set by its first slot

  abbrev B : ℕ → Bool → ℕ → ℕ → List Bool
  B = built due q

  pub built_end : (b : Bool) (t c : ℕ) → B zero b t c ≡ []
  unfolding built
  built_end b t c = refl

  built_on : (k : ℕ) (b : Bool) (t c : ℕ) → wakes_at due q k b t c ≡ true → B (suc k) b t c ≡ true ∷ B k true (suc t) (suc t)
  unfolding built
  built_on k b t c e = rw (e, built)

  built_off : (k : ℕ) (b : Bool) (t c : ℕ) → wakes_at due q k b t c ≡ false → B (suc k) b t c ≡ false ∷ B k false (suc t) c
  unfolding built
  built_off k b t c e = rw (e, built)

  pub built_due : (k : ℕ) (b : Bool) (t c : ℕ) → due c t ≡ true → B (suc k) b t c ≡ true ∷ B k true (suc t) (suc t)
  unfolding wakes_at
  built_due k b t c e = built_on k b t c (rw e)

  pub built_sleeps : (k t c : ℕ) → due c t ≡ false → B (suc k) false t c ≡ false ∷ B k false (suc t) c
  unfolding wakes_at
  built_sleeps k t c e = built_off k false t c (rw e)

  -- to go on is cheaper
  pub built_goes_on : (k t c : ℕ) → due c t ≡ false → suc (L k true (suc t) (suc t)) < L (suc k) false t c
      → B (suc k) true t c ≡ true ∷ B k true (suc t) (suc t)
  unfolding wakes_at
  built_goes_on k t c e l = built_on k true t c (rw e (lt-ltb _ _ l))

  -- to end is not dearer
  pub built_ends : (k t c : ℕ) → due c t ≡ false → L (suc k) false t c ≤ suc (L k true (suc t) (suc t))
      → B (suc k) true t c ≡ false ∷ B k false (suc t) c
  unfolding wakes_at
  built_ends k t c e l = built_off k true t c (rw e (le-ltb _ _ l))
