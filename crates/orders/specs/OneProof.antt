-- Jobs are in order in one way only: a struct can hold that they are.
use Rattle.std.specs.Prelude.{ℕ, ◌≤◌, ◌<◌, ◌≡◌, List, length, get_or}
use Rattle.std.specs.Coded.{le_prop, Π_prop}
use Rattle.std.proofs.Common.{sym, ◌∙◌}
use Rattle.std.proofs.Math.Decide.{ℕ_discrete}
use mathlib.Core.HLevel.{is_prop→PathP}
use native.Mathlib.Nat.{ℕ_set}
use Rattle.laws_edf.specs.Orders.{Before, Sorted, Orders, rank_release}
use Rattle.laws_edf.proofs.Orders.Laws.{places_differ}

Before-prop : (key : ℕ → ℕ) (a b : ℕ) → IsProp (Before key a b)
Before-prop key a b x y =
    let sooner_prop : IsProp (key a ≤ key b) = le_prop in
    let lower_prop : IsProp (key b ≤ key a → a < b) = Π_prop (λ _. le_prop) in
    λ i. record {
      sooner = sooner_prop x.sooner y.sooner i;
      lower = lower_prop x.lower y.lower i;
    }

module _ {n : ℕ} {key : ℕ → ℕ} {l : List ℕ} (s : Sorted n key l) where
  -- a number stands at one place
  place_once : (i k : ℕ) → i < n → k < n → get_or l i 0 ≡ get_or l k 0 → i ≡ k
  place_once i k a b e = go (ℕ_discrete i k)
    where
      go : Dec (i ≡ k) → i ≡ k
      go (yes q) = q
      go (no d) = absurd (places_differ s i k a b d e)

  place-prop : (j : ℕ) → IsProp ((k : ℕ) × (k < n) × (get_or l k 0 ≡ j))
  place-prop j x y =
      let at : x.0 ≡ y.0 = place_once x.0 y.0 x.1 y.1 (x.2 ∙ sym y.2) in
      λ i. (at i, is_prop→PathP (λ h. at h < n) (λ _. le_prop) x.1 y.1 i, is_prop→PathP (λ h. get_or l (at h) 0 ≡ j) (λ _. ℕ_set _ _) x.2 y.2 i)

Sorted-prop : (n : ℕ) (key : ℕ → ℕ) (l : List ℕ) → IsProp (Sorted n key l)
Sorted-prop n key l x y =
    let long_prop : IsProp (length l ≡ n) = ℕ_set _ _ in
    let known_prop : IsProp ((k : ℕ) → k < n → get_or l k 0 < n) = Π_prop (λ _. Π_prop (λ _. le_prop)) in
    let all_prop : IsProp ((j : ℕ) → j < n → (k : ℕ) × (k < n) × (get_or l k 0 ≡ j)) = Π_prop (λ j. Π_prop (λ _. place-prop x j)) in
    let rising_prop : IsProp ((i k : ℕ) → i < k → k < n → Before key (get_or l i 0) (get_or l k 0)) =
    Π_prop (λ i. Π_prop (λ k. Π_prop (λ _. Π_prop (λ _. Before-prop key _ _)))) in
    λ i. record {
      long = long_prop x.long y.long i;
      known = known_prop x.known y.known i;
      all = all_prop x.all y.all i;
      rising = rising_prop x.rising y.rising i;
    }

pub Orders-prop : (releases deadlines ranks arrivals : List ℕ) → IsProp (Orders releases deadlines ranks arrivals)
Orders-prop releases deadlines ranks arrivals x y =
    let same_prop : IsProp (length deadlines ≡ length releases) = ℕ_set _ _ in
    λ i. record {
      same = same_prop x.same y.same i;
      by_deadline = Sorted-prop (length releases) (λ j. get_or deadlines j 0) ranks x.by_deadline y.by_deadline i;
      by_release = Sorted-prop (length releases) (rank_release releases ranks) arrivals x.by_release y.by_release i;
    }
