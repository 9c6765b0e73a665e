-- The awake slots of a table, slot by slot; how often a byte stands in it; and both over a table that is cut in two.
use Rattle.std.specs.Prelude.{ℕ, zero, suc, ◌+◌, ◌≤◌, ◌<◌, ◌≡◌, refl, Bool, not, List, [], ◌∷◌, map, ◌++◌, ◌≢◌, length, get_or, take, drop, eqb}
use Rattle.std.proofs.Common.{ap, arith, eq-eqb, ne_eqb, take-append-drop, take-suc}
use Rattle.std.proofs.Math.Decide.{ℕ_discrete}
use Rattle.sched.specs.Slots.{awake, awake_of, asleep, times, state_after}

pub awake_of_length : (table : List ℕ) → length (awake_of table) ≡ length table
awake_of_length [] = refl
awake_of_length (x ∷ table) = ap suc (awake_of_length table)

-- a slot of a table is awake unless its byte says asleep
pub awake_of_lem : (table : List ℕ) (t : ℕ) → t < length table → awake (awake_of table) t ≡ not (eqb (get_or table t 0) asleep)
awake_of_lem [] t l = absurd (omega arith)
awake_of_lem (x ∷ table) zero l = refl
awake_of_lem (x ∷ table) (suc t) l = awake_of_lem table t (omega arith)

-- a table cut in two

-- what is asked of each byte, as `awake_of` asks
pub map_append : (f : ℕ → Bool) (l m : List ℕ) → map f (l ++ m) ≡ map f l ++ map f m
map_append f [] m = refl
map_append f (x ∷ l) m = ap (λ (rest : List Bool). f x ∷ rest) (map_append f l m)

pub state_append : (b : Bool) (S R : List Bool) → state_after b (S ++ R) ≡ state_after (state_after b S) R
state_append b [] R = refl
state_append b (c ∷ S) R = state_append c S R

-- how often a byte stands in a table

pub times_none : (j : ℕ) → times j [] ≡ 0
unfolding times
times_none j = refl

pub times_same : (j x : ℕ) (l : List ℕ) → x ≡ j → times j (x ∷ l) ≡ suc (times j l)
unfolding times
times_same j x l e = rw (eq-eqb x j e, times)

pub times_other : (j x : ℕ) (l : List ℕ) → x ≢ j → times j (x ∷ l) ≡ times j l
unfolding times
times_other j x l f = rw (ne_eqb x j f, times)

pub times_append : (j : ℕ) (l m : List ℕ) → times j (l ++ m) ≡ times j l + times j m
times_append j [] m = omega (arith, times_none j)
times_append j (x ∷ l) m = go (ℕ_discrete x j) (times_append j l m)
  where
    go : Dec (x ≡ j) → times j (l ++ m) ≡ times j l + times j m → times j (x ∷ (l ++ m)) ≡ times j (x ∷ l) + times j m
    go (yes e) ih = omega (arith, times_same j x (l ++ m) e, times_same j x l e, ih)
    go (no f) ih = omega (arith, times_other j x (l ++ m) f, times_other j x l f, ih)

-- there are at least as many in the whole as in a part at its front
pub times_front : (j t : ℕ) (l : List ℕ) → times j (take t l) ≤ times j l
times_front j t l =
    omega (arith, ap (times j) (take-append-drop t l), times_append j (take t l) (drop t l))

-- the slots before t, as t rises by one
module _ (j t : ℕ) (table : List ℕ) (l : t < length table) where
  last_slot : times j (take (suc t) table) ≡ times j (take t table) + times j (get_or table t 0 ∷ [])
  last_slot = rw (take-suc table t 0 l) (times_append j (take t table) (get_or table t 0 ∷ []))

  pub times_named : get_or table t 0 ≡ j → times j (take (suc t) table) ≡ suc (times j (take t table))
  times_named e = omega (arith, last_slot, times_same j (get_or table t 0) [] e, times_none j)

  pub times_unnamed : get_or table t 0 ≢ j → times j (take (suc t) table) ≡ times j (take t table)
  times_unnamed e = omega (arith, last_slot, times_other j (get_or table t 0) [] e, times_none j)
