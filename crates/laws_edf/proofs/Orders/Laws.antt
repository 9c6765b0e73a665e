-- What holds of every sorted list: no number stands in it twice, and there is only one such list.
use Rattle.std.specs.Prelude.{ℕ, zero, suc, ◌≤◌, ◌<◌, ◌≡◌, List, ◌⊎◌, ◌≢◌, get_or}
use Rattle.std.proofs.Common.{sym, ap, subst, ◌∙◌, inl, inr, arith, ext_get_or}
use Rattle.std.proofs.Math.Decide.{dec_lt, ℕ_discrete}
use Rattle.laws_edf.specs.Orders.{Before, Sorted}

pub before_apart : (key : ℕ → ℕ) (a b : ℕ) → Before key a b → a ≢ b
before_apart key a b s e = omega (arith, s.lower (rw e (omega arith)))

module _ {n : ℕ} {key : ℕ → ℕ} {l : List ℕ} (s : Sorted n key l) where
  -- two places have two numbers
  pub places_differ : (i k : ℕ) → i < n → k < n → i ≢ k → get_or l i 0 ≢ get_or l k 0
  places_differ i k a b n e = go (dec_lt i k)
    where
      go : Dec (i < k) → ⊥
      go (yes m) = before_apart key (get_or l i 0) (get_or l k 0) (s.rising i k m b) e
      go (no m) = before_apart key (get_or l k 0) (get_or l i 0) (s.rising k i (omega arith) a) (sym e)

-- where two sorted lists agree before place k, the number of the one at k is that of the other, or stands before it
later :
    {n : ℕ} {key : ℕ → ℕ} {l m : List ℕ} → Sorted n key l → Sorted n key m → (k : ℕ) → k < n →
    ((i : ℕ) → i < k → get_or l i 0 ≡ get_or m i 0) → (get_or l k 0 ≡ get_or m k 0) ⊎ Before key (get_or l k 0) (get_or m k 0)
later {n = n} {key = key} {l = l} {m = m} s o k b same = go (s.all (get_or m k 0) (o.known k b))
  where
    go : (i : ℕ) × (i < n) × (get_or l i 0 ≡ get_or m k 0) → (get_or l k 0 ≡ get_or m k 0) ⊎ Before key (get_or l k 0) (get_or m k 0)
    go (i, c, q) = by (ℕ_discrete i k) (dec_lt i k)
      where
        by : Dec (i ≡ k) → Dec (i < k) → (get_or l k 0 ≡ get_or m k 0) ⊎ Before key (get_or l k 0) (get_or m k 0)
        by (yes e) d = inl (ap (λ (x : ℕ). get_or l x 0) (sym e) ∙ q)
        by (no e) (yes d) = absurd (places_differ o i k c b e (sym (same i d) ∙ q))
        by (no e) (no d) = inr (subst (Before key (get_or l k 0)) q (s.rising k i (omega arith) c))

-- there is one sorted list
pub sorted_one : {n : ℕ} {key : ℕ → ℕ} {l m : List ℕ} → Sorted n key l → Sorted n key m → l ≡ m
sorted_one {n = n} {key = key} {l = l} {m = m} s o =
    ext_get_or 0 l m (s.long ∙ sym o.long) (λ k b. upto (suc k) (omega (arith, s.long)) k (omega arith))
  where
    apart : (a b : ℕ) → (a ≡ b) ⊎ Before key a b → (b ≡ a) ⊎ Before key b a → a ≡ b
    apart a b (inl e) _ = e
    apart a b (inr f) (inl e) = sym e
    apart a b (inr f) (inr g) = absurd (omega (arith, f.sooner, g.sooner, f.lower g.sooner, g.lower f.sooner))

    upto : (k : ℕ) → k ≤ n → (i : ℕ) → i < k → get_or l i 0 ≡ get_or m i 0
    upto zero b i c = absurd (omega arith)
    upto (suc k) b i c = go (ℕ_discrete i k) (upto k (omega arith))
      where
        go : Dec (i ≡ k) → ((i : ℕ) → i < k → get_or l i 0 ≡ get_or m i 0) → get_or l i 0 ≡ get_or m i 0
        go (yes e) same = rw e (apart _ _ (later s o k (omega arith) same) (later o s k (omega arith) (λ j d. sym (same j d))))
        go (no e) same = same i (omega arith)
