-- Searches below a bound for statements that can be decided.
use Rattle.std.specs.Prelude.{ℕ, zero, suc, ◌+◌, ◌≤◌, ◌<◌, ◌≡◌, refl, Bool, true, false, not, ◌⊎◌}
use Rattle.std.proofs.Common.{ap, sym, ◌∙◌, true≢false, inl, inr, arith}
use Rattle.std.proofs.lemmas.Bool.{false≢true}
use Rattle.std.proofs.Math.Decide.{dec_lt}
use Rattle.sched.specs.Bounded.{sum_below}
use Rattle.sched.proofs.Bounded.Laws.{lt_suc}

pub dec_both : {A B : Type 0} → Dec A → Dec B → Dec (A × B)
dec_both (yes a) (yes b) = yes (a, b)
dec_both (yes a) (no f) = no (λ c. f c.1)
dec_both (no f) b = no (λ c. f c.0)

module _ (P : ℕ → Type 0) (decide : (j : ℕ) → Dec (P j)) where
  pub find : (m : ℕ) → ((j : ℕ) × (j < m) × P j) ⊎ ((j : ℕ) → j < m → P j → ⊥)
  find zero = inr (λ j l c. omega arith)
  find (suc m) = go (find m) (decide m)
    where
      go : ((j : ℕ) × (j < m) × P j) ⊎ ((j : ℕ) → j < m → P j → ⊥) → Dec (P m) → ((j : ℕ) × (j < suc m) × P j) ⊎ ((j : ℕ) → j < suc m → P j → ⊥)
      go (inl f) d = inl (f.0, omega (arith, f.1), f.2)
      go (inr g) (yes c) = inl (m, omega arith, c)
      go (inr g) (no c) = inr (λ j l q. last j q (lt_suc l))
        where
          last : (j : ℕ) → P j → (j < m) ⊎ (j ≡ m) → ⊥
          last j q (inl l) = g j l q
          last j q (inr e) = c (rw e at q)

  -- the last number up to m of which P fails
  pub record LastFailure (m : ℕ) : Type 0 where
    pub at : ℕ
    pub below : at < m
    pub fails : P at → ⊥
    pub holds : (s : ℕ) → at < s → s ≤ m → P s

  pub last_failure : (m : ℕ) → (P 0 → ⊥) → P m → LastFailure m
  last_failure zero f c = absurd (f c)
  last_failure (suc m) f c = go (decide m) (last_failure m f)
    where
      upto : (a : ℕ) → ((s : ℕ) → a < s → s ≤ m → P s) → (s : ℕ) → a < s → s ≤ suc m → P s
      upto a h s l k = last (lt_suc {j = s} {m = suc m} (omega arith))
        where
          last : (s < suc m) ⊎ (s ≡ suc m) → P s
          last (inl q) = h s l (omega arith)
          last (inr q) = rw q c

      go : Dec (P m) → (P m → LastFailure m) → LastFailure (suc m)
      go (yes q) ih = let r = ih q in record { at = r.at; below = omega (arith, r.below); fails = r.fails; holds = upto r.at r.holds }
      go (no q) ih = record { at = m; below = omega arith; fails = q; holds = upto m (λ s a b. absurd (omega arith)) }

-- between two slots that differ there are two neighbours that do
pub record Change (S : ℕ → Bool) (b : Bool) (w z : ℕ) : Type 0 where
  pub at : ℕ
  pub from : w ≤ at
  pub below : at < z
  pub here : S at ≡ b
  pub there : S (suc at) ≡ not b

not_self : (b : Bool) → b ≡ not b → ⊥
not_self true e = true≢false e
not_self false e = false≢true e

same_or_not : (a b : Bool) → (a ≡ b) ⊎ (a ≡ not b)
same_or_not true true = inl refl
same_or_not true false = inr refl
same_or_not false true = inr refl
same_or_not false false = inl refl

pub change : (S : ℕ → Bool) (b : Bool) (h w z : ℕ) → w + h ≡ z → S w ≡ b → S z ≡ not b → Change S b w z
change S b zero w z e p q = let i : w ≡ z = omega arith in absurd (not_self b (sym p ∙ ap S i ∙ q))
change S b (suc h) w z e p q = go (same_or_not (S (suc w)) b) (change S b h (suc w) z (omega arith))
  where
    go : (S (suc w) ≡ b) ⊎ (S (suc w) ≡ not b) → (S (suc w) ≡ b → S z ≡ not b → Change S b (suc w) z) → Change S b w z
    go (inl i) ih = let c = ih i q in record { at = c.at; from = omega (arith, c.from); below = c.below; here = c.here; there = c.there }
    go (inr i) ih = record { at = w; from = omega arith; below = omega arith; here = p; there = i }

-- a sum is positive where a part is, and only there
pub sum_positive : (n : ℕ) (f : ℕ → ℕ) → 0 < sum_below n f → (j : ℕ) × (j < n) × (0 < f j)
unfolding sum_below
sum_positive zero f l = absurd (omega arith)
sum_positive (suc n) f l = go (dec_lt 0 (f n)) (sum_positive n f)
  where
    go : Dec (0 < f n) → (0 < sum_below n f → (j : ℕ) × (j < n) × (0 < f j)) → (j : ℕ) × (j < suc n) × (0 < f j)
    go (yes p) ih = (n, omega arith, p)
    go (no p) ih = let r = ih (omega arith) in (r.0, omega (arith, r.1), r.2)

pub part_positive : (n : ℕ) (f : ℕ → ℕ) (j : ℕ) → j < n → f j ≤ sum_below n f
unfolding sum_below
part_positive zero f j l = absurd (omega arith)
part_positive (suc n) f j l = go (lt_suc l) (part_positive n f j)
  where
    go : (j < n) ⊎ (j ≡ n) → (j < n → f j ≤ sum_below n f) → f j ≤ sum_below n f + f n
    go (inl b) ih = omega (arith, ih b)
    go (inr e) ih = rw e (omega arith)
