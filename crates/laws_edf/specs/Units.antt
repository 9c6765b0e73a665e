-- States that differ by one unit, and what is served of a state.
use Rattle.std.specs.Prelude.{ℕ, zero, suc, ◌+◌, ◌-◌, ◌≤◌, ◌<◌, ◌≡◌, refl, ◌≢◌}
use Rattle.std.proofs.Common.{ap, sym, ◌∙◌, arith, eq-eqb, ne_eqb}
use Rattle.std.proofs.Math.Path.{fun_ext}
use Rattle.std.proofs.Math.Decide.{ℕ_discrete}
use Rattle.sched.specs.Bounded.{sum_below}
use Rattle.sched.proofs.Bounded.Laws.{sum_ext}
use Rattle.laws_edf.specs.Run.{State, lowered}

-- M has a unit of job k more than L
pub record OneMore (k : ℕ) (M L : State) : Type 0 where
  pub there : M k ≡ suc (L k)
  pub elsewhere : (j : ℕ) → j ≢ k → M j ≡ L j

pub lowered_there : (L : State) (k : ℕ) → lowered L k k ≡ L k - 1
unfolding lowered
lowered_there L k = rw (eq-eqb k k refl, lowered)

pub lowered_elsewhere : (L : State) (k j : ℕ) → j ≢ k → lowered L k j ≡ L j
unfolding lowered
lowered_elsewhere L k j h = rw (ne_eqb j k h, lowered)

-- a served unit was one more
pub lowered_less : (L : State) (k : ℕ) → 0 < L k → OneMore k L (lowered L k)
lowered_less L k h =
    record { there = omega (arith, lowered_there L k); elsewhere = λ j f. sym (lowered_elsewhere L k j f) }

-- the only state with one unit less
pub less_is_lowered : (k : ℕ) (M L : State) → OneMore k M L → lowered M k ≡ L
less_is_lowered k M L o = fun_ext (λ j. go j (ℕ_discrete j k))
  where
    go : (j : ℕ) → Dec (j ≡ k) → lowered M k j ≡ L j
    go j (yes e) = rw e (omega (arith, lowered_there M k, o.there))
    go j (no f) = lowered_elsewhere M k j f ∙ o.elsewhere j f

-- the difference stays where another job is served in both
pub both_lowered : (k m : ℕ) (M L : State) → OneMore k M L → m ≢ k → OneMore k (lowered M m) (lowered L m)
both_lowered k m M L o f =
    record {
      there = let g : k ≢ m = λ e. f (sym e) in lowered_elsewhere M m k g ∙ o.there ∙ ap suc (sym (lowered_elsewhere L m k g));
      elsewhere = λ j h. go j h (ℕ_discrete j m);
    }
  where
    go : (j : ℕ) → j ≢ k → Dec (j ≡ m) → lowered M m j ≡ lowered L m j
    go j h (yes e) = rw e (lowered_there M m ∙ ap (λ (x : ℕ). x - 1) (o.elsewhere m f) ∙ sym (lowered_there L m))
    go j h (no g) = lowered_elsewhere M m j g ∙ o.elsewhere j h ∙ sym (lowered_elsewhere L m j g)

pub less_everywhere : (k : ℕ) (M L : State) → OneMore k M L → (j : ℕ) → L j ≤ M j
less_everywhere k M L o j = go (ℕ_discrete j k)
  where
    go : Dec (j ≡ k) → L j ≤ M j
    go (yes e) = rw e (omega (arith, o.there))
    go (no f) = omega (arith, o.elsewhere j f)

-- one term is more by y
pub sum_more : (n : ℕ) (f g : ℕ → ℕ) (m y : ℕ) → m < n → g m ≡ f m + y → ((j : ℕ) → j ≢ m → g j ≡ f j) → sum_below n g ≡ sum_below n f + y
unfolding sum_below
sum_more zero f g m y l e h = absurd (omega arith)
sum_more (suc n) f g m y l e h = go (ℕ_discrete n m) (sum_more n f g m y)
  where
    go :
        Dec (n ≡ m) → (m < n → g m ≡ f m + y → ((j : ℕ) → j ≢ m → g j ≡ f j) → sum_below n g ≡ sum_below n f + y) →
        sum_below n g + g n ≡ sum_below n f + f n + y
    go (yes q) ih =
        let rest = sum_ext n g f (λ i b. h i (λ z. omega arith)) in
        omega (arith, rest, e, ap g q, ap f q)
    go (no q) ih = omega (arith, ih (omega arith) e h, h n q)

-- the sums differ by one
pub sum_one_more : (n k : ℕ) (M L : State) → k < n → OneMore k M L → sum_below n M ≡ suc (sum_below n L)
sum_one_more n k M L h o = omega (arith, sum_more n L M k 1 h (omega (arith, o.there)) o.elsewhere)
