-- A feasible table has a slot for each unit of each job: so the jobs inside an interval find their units in slots of that interval, at most one
-- a slot.
use Prim.Native.Nat.{ℕ, zero, suc, ◌+◌, ◌-◌, ◌≤◌, ◌<◌}
use Rattle.std.specs.Prelude.{◌≡◌, refl, ◌&&◌, List, [], ◌∷◌, length, get_or, ltb, eqb}
use Rattle.std.proofs.Common.{sym, ap, ap₂, ◌∙◌, arith, ltb-true, leb-true, lt-ltb, le-ltb, eq-eqb, ne_eqb}
use Rattle.std.proofs.Math.Bool.{Bool, true, false, and-false, and-true as and_true_right}
use Rattle.std.proofs.Math.Decide.{ℕ_discrete, dec_lt}
use Rattle.std.proofs.Math.Dec.{leb}
use Rattle.sched.specs.Bounded.{sum_below}
use Rattle.sched.proofs.Bounded.Laws.{and_true, sum_ext, sum_add, sum_zero}
use Rattle.sched.specs.Jobs.{Jobs, count, release, deadline}
use Rattle.sched.specs.Slots.{times}
use Rattle.sched.specs.Feasible.{Feasible}
use Rattle.steps.specs.Overload.{overloaded, volume_if, volume_inside}
use Rattle.laws_edf.proofs.Overload.Laws.{not_overfull}

abbrev one : Bool → ℕ
one true = 1
one false = 0

-- how many bytes of a table are below n and satisfy f
hits : (ℕ → Bool) → ℕ → List ℕ → ℕ
hits f n [] = 0
hits f n (x ∷ l) = one (ltb x n && f x) + hits f n l

-- a byte is one of the numbers below n at most once
sum_hit : (f : ℕ → Bool) (x n : ℕ) → sum_below n (λ j. one (f j && eqb x j)) ≡ one (ltb x n && f x)
unfolding sum_below
sum_hit f x zero = rw (le-ltb x 0 (omega arith))
sum_hit f x (suc n) = go (ℕ_discrete x n) (sum_hit f x n)
  where
    go : Dec (x ≡ n) → sum_below n (λ j. one (f j && eqb x j)) ≡ one (ltb x n && f x) → sum_below n (λ j. one (f j && eqb x j)) + one (f n && eqb x n) ≡ one (ltb x (suc n) && f x)
    go (yes e) ih = rw (ih, le-ltb x n (omega arith), eq-eqb x n e, lt-ltb x (suc n) (omega arith), and_true_right (f n), e) (omega arith)
    go (no e) ih = rw (ih, ne_eqb x n e, and-false (f n), same (dec_lt x n)) (omega arith)
      where
        same : Dec (x < n) → ltb x n ≡ ltb x (suc n)
        same (yes l) = lt-ltb x n l ∙ sym (lt-ltb x (suc n) (omega arith))
        same (no l) = le-ltb x n (omega arith) ∙ sym (le-ltb x (suc n) (omega arith))

hit_step : (b c : Bool) (k : ℕ) → ◌≡◌ {A = ℕ} (elim b [ true ↦ (elim c [ true ↦ suc k | false ↦ k ]) | false ↦ 0 ]) (one (b && c) + elim b [ true ↦ k | false ↦ 0 ])
hit_step true true k = omega arith
hit_step true false k = omega arith
hit_step false c k = refl

-- counted by number or by slot, it is the same
counted : (f : ℕ → Bool) (n : ℕ) (l : List ℕ) → sum_below n (λ j. elim (f j) [ true ↦ times j l | false ↦ 0 ]) ≡ hits f n l
unfolding hits times
counted f n [] = sum_zero n _ (λ j _. either (f j))
  where
    either : (b : Bool) → ◌≡◌ {A = ℕ} (elim b [ true ↦ 0 | false ↦ 0 ]) 0
    either true = refl
    either false = refl
counted f n (x ∷ l) =
    sum_ext n _ _ (λ j _. hit_step (f j) (eqb x j) (times j l))
    ∙ sum_add n (λ j. one (f j && eqb x j)) (λ j. elim (f j) [ true ↦ times j l | false ↦ 0 ])
    ∙ ap₂ ◌+◌ (sum_hit f x n) (counted f n l)

-- bytes that all stand in a..b, in the slots from t on, are at most as many as those slots
hits_most : (f : ℕ → Bool) (n a b : ℕ) (l : List ℕ) (t : ℕ) → ((i : ℕ) → i < length l → get_or l i 0 < n → f (get_or l i 0) ≡ true → (a ≤ t + i) × (t + i < b)) → (hits f n l ≤ b - t) × (hits f n l ≤ b - a)
unfolding hits
hits_most f n a b [] t h = omega arith
hits_most f n a b (x ∷ l) t h = go (ltb x n && f x) refl (hits_most f n a b l (suc t) (λ i m y z. let r = h (suc i) (omega arith) y z in omega arith))
  where
    go : (c : Bool) → ltb x n && f x ≡ c → (hits f n l ≤ b - suc t) × (hits f n l ≤ b - a) → (one c + hits f n l ≤ b - t) × (one c + hits f n l ≤ b - a)
    go true e ih =
        let s = and_true (ltb x n) (f x) e in
        let r = h 0 (omega arith) (ltb-true x n s.0) s.1 in
        omega arith
    go false e ih = omega arith

module _ (J : Jobs) (table : List ℕ) (f : Feasible J table) where
  inside_fits : (a b : ℕ) → volume_inside J a b ≤ b - a
  unfolding volume_inside volume_if
  inside_fits a b =
      let sums : volume_inside J a b ≡ hits inside (count J) table =
      sum_ext (count J) (volume_if J a b) (λ j. elim (inside j) [ true ↦ times j table | false ↦ 0 ]) same ∙ counted inside (count J) table in
      let room = hits_most inside (count J) a b table 0 stands in
      omega (arith, room.1)
    where
      inside : ℕ → Bool
      inside j = leb a (release J j) && leb (deadline J j) b

      same : (j : ℕ) → j < count J → volume_if J a b j ≡ elim (inside j) [ true ↦ times j table | false ↦ 0 ]
      same j l = ap (λ (v : ℕ). elim (inside j) [ true ↦ v | false ↦ 0 ]) (sym (f.exact j l))

      stands : (t : ℕ) → t < length table → get_or table t 0 < count J → inside (get_or table t 0) ≡ true → (a ≤ 0 + t) × (0 + t < b)
      stands t l k e =
          let s = and_true (leb a (release J (get_or table t 0))) (leb (deadline J (get_or table t 0)) b) e in
          let own = f.own t (omega (arith, f.long)) k in
          omega (arith, own, leb-true a (release J (get_or table t 0)) s.0, leb-true (deadline J (get_or table t 0)) b s.1)

  -- so a list with a feasible table has no overloaded interval
  pub feasible_no_overload : (a b : ℕ) → overloaded J a b ≡ false
  feasible_no_overload a b = not_overfull J a b (λ o. omega (arith, o.more, inside_fits a b))

  -- an interval has a slot for each unit of the jobs inside
  pub feasible_room : (a b : ℕ) → volume_inside J a b ≤ b - a
  feasible_room a b = inside_fits a b
