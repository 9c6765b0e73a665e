-- The jobs of the ranks by release, from the back: their releases fall.
use Prim.Native.Nat.{ℕ, suc, ◌+◌, ◌≤◌, ◌<◌}
use Rattle.std.specs.Prelude.{◌≡◌, length}
use Rattle.std.proofs.Math.Path.{refl, ap}
use Rattle.std.proofs.Common.{sym, ◌∙◌, arith}
use mathlib.Core.List.{List, [], ◌∷◌, map, reverse, reverse_aux}
use Rattle.sched.specs.Bounded.{sum_below, total}
use Rattle.sched.proofs.Bounded.Laws.{sum_first}
use Rattle.laws_edf.specs.Overload.Order.{AtMost, Falling, InOrder}
use Rattle.laws_edf.specs.Orders.{Before, job_at}
use Rattle.orders.specs.Rising.{rising_by}
use Rattle.orders.specs.Rising.Laws.{Each, each_map, Rises, rising_below, rising_length, rising_once, rising_rises}
use Rattle.orders.specs.Rising.Members.{rising_sorted}

-- no key of the list is above a later one
abbrev Climbs : (ℕ → ℕ) → List ℕ → Type 0
Climbs key [] = Unit {0}
Climbs key (x ∷ l) = Each (λ y. key x ≤ key y) l × Climbs key l

-- l in reverse in front of r

total_reverse : (f : ℕ → ℕ) (l r : List ℕ) → total (map f (reverse_aux l r)) ≡ total (map f l) + total (map f r)
unfolding total
total_reverse f [] r = omega arith
total_reverse f (x ∷ l) r = omega (arith, total_reverse f l (x ∷ r))

at_most_reverse : (key : ℕ → ℕ) (v : ℕ) (l r : List ℕ) → Each (λ x. key x ≤ v) l → AtMost key v r → AtMost key v (reverse_aux l r)
at_most_reverse key v [] r e a = a
at_most_reverse key v (x ∷ l) r (p, e) a = at_most_reverse key v l (x ∷ r) e (p, a)

-- no number of r has a greater key than one of l
above : (key : ℕ → ℕ) (x : ℕ) (l r : List ℕ) → Each (λ y. key x ≤ key y) l → Each (λ y. AtMost key (key y) r) l → Each (λ y. AtMost key (key y) (x ∷ r)) l
above key x [] r f a = tt
above key x (y ∷ l) r (f, fs) (a, rest) = ((f, a), above key x l r fs rest)

falling_reverse : (key : ℕ → ℕ) (l r : List ℕ) → Climbs key l → Falling key r → Each (λ y. AtMost key (key y) r) l → Falling key (reverse_aux l r)
falling_reverse key [] r s f a = f
falling_reverse key (x ∷ l) r (s, ss) f (a, rest) = falling_reverse key l (x ∷ r) ss (a, f) (above key x l r s rest)

each_true : (P : ℕ → Type 0) (l : List ℕ) → ((x : ℕ) → P x) → Each P l
each_true P [] h = tt
each_true P (x ∷ l) h = (h x, each_true P l h)

-- the values of the numbers in a list

module _ (g : ℕ → ℕ) where
  each_value : (P : ℕ → Type 0) (l : List ℕ) → Each (λ x. P (g x)) l → Each P (map g l)
  each_value P [] e = tt
  each_value P (x ∷ l) (p, e) = (p, each_value P l e)

  rises_climbs : (key : ℕ → ℕ) (l : List ℕ) → Rises (λ k. key (g k)) l → Climbs key (map g l)
  rises_climbs key [] r = tt
  rises_climbs key (x ∷ l) (f, r) = (
    each_value (λ y. key (g x) ≤ key y) l (each_map (Before (λ k. key (g k)) x) (λ y. key (g x) ≤ key (g y)) l (λ y b. b.sooner) f),
    rises_climbs key l r,
  )

  total_value : (f : ℕ → ℕ) (l : List ℕ) → total (map f (map g l)) ≡ total (map (λ k. f (g k)) l)
  unfolding total
  total_value f [] = refl
  total_value f (x ∷ l) = ap (λ (s : ℕ). f (g x) + s) (total_value f l)

-- the values of a list by place
total_places : (f : ℕ → ℕ) (l : List ℕ) → sum_below (length l) (λ k. f (job_at l k)) ≡ total (map f l)
unfolding sum_below total
total_places f [] = refl
total_places f (x ∷ l) = sum_first (length l) (λ k. f (job_at (x ∷ l) k)) ∙ ap (λ (s : ℕ). f x + s) (total_places f l)

-- a sum over the places of the sort is one over the numbers
pub places_sum : (key f : ℕ → ℕ) (n : ℕ) → sum_below n (λ k. f (job_at (rising_by key n) k)) ≡ sum_below n f
places_sum key f n =
    ap (λ (m : ℕ). sum_below m (λ k. f (job_at (rising_by key n) k))) (sym (rising_length key n)) ∙ total_places f (rising_by key n) ∙ rising_once key f n

module _ (key other : ℕ → ℕ) (n : ℕ) (ranks : List ℕ) (e : ranks ≡ rising_by other n) where
  long : length ranks ≡ n
  long = ap length e ∙ rising_length other n

  once : (f : ℕ → ℕ) (l : List ℕ) → l ≡ rising_by (λ k. key (job_at ranks k)) n → total (map f (map (job_at ranks) l)) ≡ sum_below n f
  once f l s =
      total_value (job_at ranks) f l
      ∙ ap (λ (r : List ℕ). total (map (λ k. f (job_at ranks k)) r)) s
      ∙ rising_once (λ k. key (job_at ranks k)) (λ k. f (job_at ranks k)) n
      ∙ ap (λ (m : ℕ). sum_below m (λ k. f (job_at ranks k))) (sym long)
      ∙ total_places f ranks
      ∙ ap (λ (r : List ℕ). total (map f r)) e
      ∙ rising_once other f n

  below : (l : List ℕ) → l ≡ rising_by (λ k. key (job_at ranks k)) n → Each (λ x. x < n) (map (job_at ranks) l)
  below l s =
      each_value (job_at ranks) (λ x. x < n) l
      (rw s
      (each_map (λ k. k < n) (λ k. job_at ranks k < n) (rising_by (λ k. key (job_at ranks k)) n) (λ k m. rw e ((rising_sorted other n).known k m)) (rising_below (λ k. key (job_at ranks k)) n)))

  pub in_order : (l : List ℕ) → l ≡ rising_by (λ k. key (job_at ranks k)) n → InOrder key n (reverse (map (job_at ranks) l))
  unfolding total
  in_order l s =
      let js = map (job_at ranks) l in
      record {
        once = λ f. omega (arith, total_reverse f js [], once f l s);
        below = at_most_reverse suc n js [] (below l s) tt;
        falling = falling_reverse key js []
            (rises_climbs (job_at ranks) key l (rw s (rising_rises (λ k. key (job_at ranks k)) n))) tt (each_true (λ y. AtMost key (key y) []) js (λ y. tt));
      }
