-- What holds of the jobs from some place of an order on.
use Rattle.std.specs.Prelude.{ℕ, zero, suc, ◌≤◌, ◌<◌, ◌≡◌, refl, ◌⊎◌, length, get_or, drop}
use mathlib.Core.List.Memᴰ.{cases_cons as apart}
use mathlib.Core.List.Memᴰ.{head as here}
use mathlib.Core.List.Memᴰ.{tail as there}
use mathlib.Core.List.{List, [], ◌∷◌, Memᴰ as Among}
use Rattle.std.proofs.Common.{inl, inr, ⊎_elim, arith}
use Rattle.sched.specs.Jobs.{Jobs, count}
use Rattle.laws_skeleton.specs.Windows.{window_end}
use Rattle.laws_skeleton.specs.Order.{Rising, Order}

-- the jobs from some place on: those before have windows that end no later
pub record Rest (J : Jobs) (js : List ℕ) : Type 0 where
  pub rising : Rising J js
  pub listed : (j : ℕ) → Among j js → j < count J
  pub before : (j : ℕ) → j < count J → Among j js ⊎ ((k : ℕ) → Among k js → window_end J j ≤ window_end J k)

pub order_rest : (J : Jobs) (order : List ℕ) → Order J order → Rest J order
order_rest J order o = record { rising = o.rising; listed = o.listed; before = λ j l. inl (o.all j l) }

pub rest_next : (J : Jobs) (j : ℕ) (js : List ℕ) → Rest J (j ∷ js) → Rest J js
rest_next J j js r = record {
  rising = r.rising.1;
  listed = λ k m. r.listed k (there m);
  before = λ k l. ⊎_elim (λ (m : Among k (j ∷ js)). inside k (apart m)) (outside k) (r.before k l);
}
  where
    Before : ℕ → List ℕ → Type 0
    Before k l = (i : ℕ) → Among i l → window_end J k ≤ window_end J i

    inside : (k : ℕ) → (k ≡ j) ⊎ Among k js → Among k js ⊎ Before k js
    inside k (inl q) = inr (rw q r.rising.0)
    inside k (inr n) = inl n

    outside : (k : ℕ) → Before k (j ∷ js) → Among k js ⊎ Before k js
    outside k f = inr (λ i m. f i (there m))

-- the jobs from place i on are jobs of the list, for code that goes by places

pub order_job : (J : Jobs) (order : List ℕ) → Order J order → (i : ℕ) → i < length order → get_or order i 0 < count J
order_job J order o i l = o.listed (get_or order i 0) (at order i l)
  where
    at : (ks : List ℕ) (i : ℕ) → i < length ks → Among (get_or ks i 0) ks
    at [] i l = absurd (omega arith)
    at (k ∷ ks) zero l = here refl
    at (k ∷ ks) (suc i) l = there (at ks i (omega arith))

pub order_behind : (J : Jobs) (order : List ℕ) → Order J order → (i j : ℕ) → Among j (drop i order) → j < count J
order_behind J order o i j m = o.listed j (up i order m)
  where
    up : (i : ℕ) (ks : List ℕ) → Among j (drop i ks) → Among j ks
    up zero ks m = m
    up (suc i) [] m = m
    up (suc i) (k ∷ ks) m = there (up i ks m)
