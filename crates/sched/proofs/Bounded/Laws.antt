-- What the searches, tests and sums of `Bounded` give.
use Rattle.std.specs.Prelude.{ℕ, zero, suc, ◌+◌, ◌≤◌, ◌<◌, ◌≡◌, refl, Bool, true, false, ◌&&◌, ◌||◌, List, [], ◌∷◌, ◌⊎◌, length, get_or}
use Rattle.std.proofs.Common.{sym, ap, ap₂, ◌∙◌, inl, inr, arith}
use Rattle.std.proofs.Math.Option.{Option, none, some}
use Rattle.std.proofs.Math.Decide.{ℕ_discrete}
use Rattle.std.proofs.Math.Numerals.{unary_clauses}
use Rattle.sched.specs.Bounded.{any_below, all_below, sum_below, least_from, last_below, values_from, total}

-- a number below suc m is below m or is m
pub lt_suc : {j m : ℕ} → j < suc m → (j < m) ⊎ (j ≡ m)
lt_suc {j} {m} l = go (ℕ_discrete j m)
  where
    go : Dec (j ≡ m) → (j < m) ⊎ (j ≡ m)
    go (yes e) = inr e
    go (no n) = inl (omega arith)

-- a Bool is one of the two, with the equation at hand
pub by_bool {ℓ} : {A : Type ℓ} (b : Bool) → (b ≡ true → A) → (b ≡ false → A) → A
by_bool true t f = t refl
by_bool false t f = f refl

pub true_not_false : {A : Type 0} (b : Bool) → b ≡ true → b ≡ false → A
true_not_false b t f = let z : ◌≡◌ {A = Bool} true false = sym t ∙ f in let w : ◌≡◌ {A = ℕ} 0 1 = cc in absurd (omega arith)

pub and_true : (a b : Bool) → a && b ≡ true → (a ≡ true) × (b ≡ true)
and_true true b e = (refl, e)
and_true false b e = true_not_false false e refl

pub or_true : (a b : Bool) → a || b ≡ true → (a ≡ true) ⊎ (b ≡ true)
or_true true b e = inl refl
or_true false b e = inr e

pub or_false : (a b : Bool) → a || b ≡ false → (a ≡ false) × (b ≡ false)
or_false true b e = true_not_false true refl e
or_false false b e = (refl, e)

pub or_right : (a b : Bool) → b ≡ true → a || b ≡ true
or_right true b e = refl
or_right false b e = e

pub or_left : (a b : Bool) → a ≡ true → a || b ≡ true
or_left true b e = refl
or_left false b e = true_not_false false e refl

-- tests of some and of every number

pub any_intro : (n : ℕ) (f : ℕ → Bool) (i : ℕ) → i < n → f i ≡ true → any_below n f ≡ true
unfolding any_below
any_intro zero f i l e = absurd (omega arith)
any_intro (suc n) f i l e = go (lt_suc l) (any_intro n f i)
  where
    go : (i < n) ⊎ (i ≡ n) → (i < n → f i ≡ true → any_below n f ≡ true) → any_below n f || f n ≡ true
    go (inl m) ih = or_left (any_below n f) (f n) (ih m e)
    go (inr q) ih = or_right (any_below n f) (f n) (ap f (sym q) ∙ e)

pub any_elim : (n : ℕ) (f : ℕ → Bool) → any_below n f ≡ true → (i : ℕ) × (i < n) × (f i ≡ true)
unfolding any_below
any_elim zero f e = true_not_false false e refl
any_elim (suc n) f e = go (or_true (any_below n f) (f n) e) (any_elim n f)
  where
    go : (any_below n f ≡ true) ⊎ (f n ≡ true) → (any_below n f ≡ true → (i : ℕ) × (i < n) × (f i ≡ true)) → (i : ℕ) × (i < suc n) × (f i ≡ true)
    go (inl h) ih = let r = ih h in (r.0, omega (arith, r.1), r.2)
    go (inr h) ih = (n, omega arith, h)

pub any_none : (n : ℕ) (f : ℕ → Bool) → any_below n f ≡ false → (i : ℕ) → i < n → f i ≡ false
any_none n f e i l = by_bool (f i) (λ t. true_not_false (any_below n f) (any_intro n f i l t) e) (λ x. x)

pub any_refute : (n : ℕ) (f : ℕ → Bool) → ((i : ℕ) → i < n → f i ≡ false) → any_below n f ≡ false
any_refute n f h =
    by_bool (any_below n f) (λ t. let r = any_elim n f t in true_not_false (f r.0) r.2 (h r.0 r.1)) (λ x. x)

pub all_intro : (n : ℕ) (f : ℕ → Bool) → ((i : ℕ) → i < n → f i ≡ true) → all_below n f ≡ true
unfolding all_below
all_intro zero f h = refl
all_intro (suc n) f h = rw (all_intro n f (λ i l. h i (omega arith))) (h n (omega arith))

pub all_elim : (n : ℕ) (f : ℕ → Bool) → all_below n f ≡ true → (i : ℕ) → i < n → f i ≡ true
unfolding all_below
all_elim zero f e i l = absurd (omega arith)
all_elim (suc n) f e i l = go (lt_suc l) (all_elim n f)
  where
    go : (i < n) ⊎ (i ≡ n) → (all_below n f ≡ true → (k : ℕ) → k < n → f k ≡ true) → f i ≡ true
    go (inl m) ih = ih (and_true (all_below n f) (f n) e).0 i m
    go (inr q) ih = ap f q ∙ (and_true (all_below n f) (f n) e).1

-- searches

-- x is the least of the k numbers from t on of which f holds
pub record LeastIn (t k : ℕ) (f : ℕ → Bool) (x : ℕ) : Type 0 where
  pub from : t ≤ x
  pub below : x < t + k
  pub holds : f x ≡ true
  pub first : (i : ℕ) → t ≤ i → i < x → f i ≡ false

pub least_some : (k t : ℕ) (f : ℕ → Bool) (x : ℕ) → least_from k t f ≡ some x → LeastIn t k f x
unfolding least_from
least_some zero t f x e = let z : ◌≡◌ {A = ℕ} 0 1 = cc in absurd (omega arith)
least_some (suc k) t f x e = go (f t) refl e (least_some k (suc t) f x)
  where
    go : (b : Bool) → f t ≡ b → ◌≡◌ {A = Option ℕ} (elim b [ true ↦ some t | false ↦ least_from k (suc t) f ]) (some x) → (least_from k (suc t) f ≡ some x → LeastIn (suc t) k f x) → LeastIn t (suc k) f x
    go true q h ih = let s : t ≡ x = cc in record { from = omega arith; below = omega arith; holds = ap f (sym s) ∙ q; first = λ i l m. absurd (omega arith) }
    go false q h ih =
        let r = ih h in
        record {
          from = omega (arith, r.from);
          below = omega (arith, r.below);
          holds = r.holds;
          first = λ i l m. here i l m (ℕ_discrete i t) r.first;
        }
      where
        here : (i : ℕ) → t ≤ i → i < x → Dec (i ≡ t) → ((j : ℕ) → suc t ≤ j → j < x → f j ≡ false) → f i ≡ false
        here i l m (yes s) more = ap f s ∙ q
        here i l m (no s) more = more i (omega arith) m

pub least_none : (k t : ℕ) (f : ℕ → Bool) → least_from k t f ≡ none → (i : ℕ) → t ≤ i → i < t + k → f i ≡ false
unfolding least_from
least_none zero t f e i l m = absurd (omega arith)
least_none (suc k) t f e i l m = go (f t) refl e (ℕ_discrete i t) (least_none k (suc t) f)
  where
    go : (b : Bool) → f t ≡ b → ◌≡◌ {A = Option ℕ} (elim b [ true ↦ some t | false ↦ least_from k (suc t) f ]) none → Dec (i ≡ t) → (least_from k (suc t) f ≡ none → (j : ℕ) → suc t ≤ j → j < suc t + k → f j ≡ false) → f i ≡ false
    go true q h d ih = let z : ◌≡◌ {A = ℕ} 0 1 = cc in absurd (omega arith)
    go false q h (yes s) ih = ap f s ∙ q
    go false q h (no s) ih = ih h i (omega arith) (omega arith)

-- x is the greatest number below n of which f holds
pub record Last (n : ℕ) (f : ℕ → Bool) (x : ℕ) : Type 0 where
  pub below : x < n
  pub holds : f x ≡ true
  pub last : (i : ℕ) → x < i → i < n → f i ≡ false

pub last_some : (n : ℕ) (f : ℕ → Bool) (x : ℕ) → last_below n f ≡ some x → Last n f x
unfolding last_below
last_some zero f x e = let z : ◌≡◌ {A = ℕ} 0 1 = cc in absurd (omega arith)
last_some (suc n) f x e = go (f n) refl e (last_some n f x)
  where
    go : (b : Bool) → f n ≡ b → ◌≡◌ {A = Option ℕ} (elim b [ true ↦ some n | false ↦ last_below n f ]) (some x) → (last_below n f ≡ some x → Last n f x) → Last (suc n) f x
    go true q h ih = let s : n ≡ x = cc in record { below = omega arith; holds = ap f (sym s) ∙ q; last = λ i l m. absurd (omega arith) }
    go false q h ih =
        let r = ih h in
        record { below = omega (arith, r.below); holds = r.holds; last = λ i l m. here i l (lt_suc m) r.last }
      where
        here : (i : ℕ) → x < i → (i < n) ⊎ (i ≡ n) → ((j : ℕ) → x < j → j < n → f j ≡ false) → f i ≡ false
        here i l (inl m) more = more i l m
        here i l (inr s) more = ap f s ∙ q

pub last_none : (n : ℕ) (f : ℕ → Bool) → last_below n f ≡ none → (i : ℕ) → i < n → f i ≡ false
unfolding last_below
last_none zero f e i l = absurd (omega arith)
last_none (suc n) f e i l = go (f n) refl e (lt_suc l) (last_none n f)
  where
    go : (b : Bool) → f n ≡ b → ◌≡◌ {A = Option ℕ} (elim b [ true ↦ some n | false ↦ last_below n f ]) none → (i < n) ⊎ (i ≡ n) → (last_below n f ≡ none → (j : ℕ) → j < n → f j ≡ false) → f i ≡ false
    go true q h d ih = let z : ◌≡◌ {A = ℕ} 0 1 = cc in absurd (omega arith)
    go false q h (inl m) ih = ih h i m
    go false q h (inr s) ih = ap f s ∙ q

-- the values of a function, one by one

pub values_length : {A : Type 0} (k t : ℕ) (f : ℕ → A) → length (values_from k t f) ≡ k
unfolding values_from
values_length zero t f = refl
values_length (suc k) t f = ap suc (values_length k (suc t) f)

pub values_at : {A : Type 0} (k t : ℕ) (f : ℕ → A) (i : ℕ) (d : A) → i < k → get_or (values_from k t f) i d ≡ f (t + i)
unfolding values_from
values_at zero t f i d l = absurd (omega arith)
values_at (suc k) t f zero d l = simp unary_clauses refl
values_at (suc k) t f (suc i) d l = values_at k (suc t) f i d (omega arith) ∙ ap f (omega arith)

-- sums

pub sum_ext : (n : ℕ) (f g : ℕ → ℕ) → ((i : ℕ) → i < n → f i ≡ g i) → sum_below n f ≡ sum_below n g
unfolding sum_below
sum_ext zero f g h = refl
sum_ext (suc n) f g h = ap₂ ◌+◌ (sum_ext n f g (λ i l. h i (omega arith))) (h n (omega arith))

pub sum_mono : (n : ℕ) (f g : ℕ → ℕ) → ((i : ℕ) → i < n → f i ≤ g i) → sum_below n f ≤ sum_below n g
unfolding sum_below
sum_mono zero f g h = omega arith
sum_mono (suc n) f g h = omega (arith, sum_mono n f g (λ i l. h i (omega arith)), h n (omega arith))

pub sum_add : (n : ℕ) (f g : ℕ → ℕ) → sum_below n (λ i. f i + g i) ≡ sum_below n f + sum_below n g
unfolding sum_below
sum_add zero f g = omega arith
sum_add (suc n) f g = omega (arith, sum_add n f g)

pub sum_zero : (n : ℕ) (f : ℕ → ℕ) → ((i : ℕ) → i < n → f i ≡ 0) → sum_below n f ≡ 0
unfolding sum_below
sum_zero zero f h = refl
sum_zero (suc n) f h = omega (arith, sum_zero n f (λ i l. h i (omega arith)), h n (omega arith))

-- no term is more than the sum
pub sum_term : (n : ℕ) (f : ℕ → ℕ) (j : ℕ) → j < n → f j ≤ sum_below n f
unfolding sum_below
sum_term zero f j l = absurd (omega arith)
sum_term (suc n) f j l = go (lt_suc l) (sum_term n f j)
  where
    go : (j < n) ⊎ (j ≡ n) → (j < n → f j ≤ sum_below n f) → f j ≤ sum_below n f + f n
    go (inl m) ih = omega (arith, ih m)
    go (inr q) ih = omega (arith, ap f q)

-- the first term taken off a sum
pub sum_first : (n : ℕ) (f : ℕ → ℕ) → sum_below (suc n) f ≡ f 0 + sum_below n (λ i. f (suc i))
unfolding sum_below
sum_first zero f = omega arith
sum_first (suc n) f = omega (arith, sum_first n f)

pub sum_total : (l : List ℕ) → sum_below (length l) (λ i. get_or l i 0) ≡ total l
unfolding sum_below total
sum_total [] = refl
sum_total (x ∷ xs) = sum_first (length xs) (λ i. get_or (x ∷ xs) i 0) ∙ ap (λ (k : ℕ). x + k) (sum_total xs)
