-- The last slot that holds a byte: searching for it downwards, and keeping it after a store.
use Prim.Native.Nat.{ℕ, zero, suc, ◌-◌, ◌≤◌, ◌<◌, max}
use Rattle.std.specs.Prelude.{◌≡◌, List, ◌⊎◌, ◌≢◌, length, get_or, set}
use Rattle.std.proofs.Math.Path.{refl, sym}
use Rattle.std.proofs.Common.{ap, ◌∙◌, inl, inr, arith, eq-eqb, ne_eqb, get_or-set_same, get_or-set_other}
use Rattle.std.proofs.Math.Decide.{ℕ_discrete}
use Rattle.std.proofs.lemmas.List.{set-get_or}
use Rattle.sched.proofs.Bounded.Laws.{lt_suc}
use Rattle.laws_extension.specs.Chain.{end_below}

-- One turn of the search downwards

pub end_here : (j s : ℕ) (table : List ℕ) → get_or table s 0 ≡ j → end_below j (suc s) table ≡ suc s
unfolding end_below
end_here j s table e = rw (eq-eqb (get_or table s 0) j e, end_below)

pub end_lower : (j s : ℕ) (table : List ℕ) → get_or table s 0 ≢ j → end_below j (suc s) table ≡ end_below j s table
unfolding end_below
end_lower j s table f = rw (ne_eqb (get_or table s 0) j f, end_below)

-- the same in the words of a loop that has come down to s
module _ (j : ℕ) (table : List ℕ) (all : ℕ) where
  pub scan_turn : (s : ℕ) → 0 < s → get_or table (s - 1) 0 ≢ j → all ≡ end_below j s table → all ≡ end_below j (s - 1) table
  scan_turn zero l f e = absurd (omega arith)
  scan_turn (suc s) l f e =
      let q : suc s - 1 ≡ s = omega arith in
      rw q (e ∙ end_lower j s table (rw q at f))

  pub scan_found : (s : ℕ) → 0 < s → get_or table (s - 1) 0 ≡ j → all ≡ end_below j s table → all ≡ s
  scan_found zero l f e = absurd (omega arith)
  scan_found (suc s) l f e =
      let q : suc s - 1 ≡ s = omega arith in
      e ∙ end_here j s table (rw q at f)

-- a search that has j below it does not run out
pub scan_above : (j : ℕ) (table : List ℕ) (s t : ℕ) → t < s → get_or table t 0 ≡ j → get_or table (s - 1) 0 ≢ j → t < s - 1
scan_above j table s t l e f = go (ℕ_discrete (s - 1) t)
  where
    go : Dec (s - 1 ≡ t) → t < s - 1
    go (yes q) = absurd (f (rw q e))
    go (no g) = omega arith

-- What the end says

-- e is one more than the last slot below s that holds j, or 0 where none does
pub record Ends (j s : ℕ) (table : List ℕ) (e : ℕ) : Type 0 where
  pub within : e ≤ s
  pub holds : (t : ℕ) → e ≡ suc t → get_or table t 0 ≡ j
  pub last : (t : ℕ) → e ≤ t → t < s → get_or table t 0 ≢ j

pub ends_below : (j s : ℕ) (table : List ℕ) → Ends j s table (end_below j s table)
unfolding end_below
ends_below j zero table =
    record { within = omega arith; holds = λ t e. absurd (omega arith); last = λ t l m. absurd (omega arith) }
ends_below j (suc s) table = go (ℕ_discrete (get_or table s 0) j) (ends_below j s table)
  where
    go : Dec (get_or table s 0 ≡ j) → Ends j s table (end_below j s table) → Ends j (suc s) table (end_below j (suc s) table)
    go (yes e) c =
        rw (end_here j s table e)
        (record {
          within = omega arith;
          holds = λ t q. let i : t ≡ s = omega arith in rw i e;
          last = λ t l m. absurd (omega arith);
        })
    go (no f) c =
        rw (end_lower j s table f)
        (record { within = omega (arith, c.within); holds = c.holds; last = λ t l m. high t l (lt_suc m) })
      where
        high : (t : ℕ) → end_below j s table ≤ t → (t < s) ⊎ (t ≡ s) → get_or table t 0 ≢ j
        high t l (inl m) = c.last t l m
        high t l (inr q) = rw q f

-- Where a slot takes another byte

-- tables with the same byte in slot s
end_turn : (j s : ℕ) (a b : List ℕ) → get_or a s 0 ≡ get_or b s 0 → end_below j s a ≡ end_below j s b → end_below j (suc s) a ≡ end_below j (suc s) b
end_turn j s a b e below = go (ℕ_discrete (get_or b s 0) j)
  where
    go : Dec (get_or b s 0 ≡ j) → end_below j (suc s) a ≡ end_below j (suc s) b
    go (yes q) = end_here j s a (e ∙ q) ∙ sym (end_here j s b q)
    go (no f) = end_lower j s a (λ q. f (sym e ∙ q)) ∙ below ∙ sym (end_lower j s b f)

module _ (table : List ℕ) (t : ℕ) (inside : t < length table) where
  there : (v s : ℕ) → s ≡ t → get_or (set table t v) s 0 ≡ v
  there v s e = rw e (get_or-set_same table t v 0 inside)

  aside : (v s : ℕ) → s ≢ t → get_or (set table t v) s 0 ≡ get_or table s 0
  aside v s f = get_or-set_other table t s v 0 f

  end_under : (j v s : ℕ) → s ≤ t → end_below j s (set table t v) ≡ end_below j s table
  unfolding end_below
  end_under j v zero l = refl
  end_under j v (suc s) l = end_turn j s (set table t v) table (aside v s (omega arith)) (end_under j v s (omega arith))

  -- the end of a job whose byte is neither of the two
  pub end_kept : (j v w : ℕ) → j ≢ v → j ≢ w → (h : ℕ) → end_below j h (set table t v) ≡ end_below j h (set table t w)
  unfolding end_below
  end_kept j v w f g zero = refl
  end_kept j v w f g (suc s) = go (ℕ_discrete s t) (end_kept j v w f g s)
    where
      go : Dec (s ≡ t) → end_below j s (set table t v) ≡ end_below j s (set table t w) →
          end_below j (suc s) (set table t v) ≡ end_below j (suc s) (set table t w)
      go (yes e) ih =
          end_lower j s (set table t v) (λ q. f (sym q ∙ there v s e)) ∙ ih ∙ sym (end_lower j s (set table t w) (λ q. g (sym q ∙ there w s e)))
      go (no e) ih = end_turn j s (set table t v) (set table t w) (aside v s e ∙ sym (aside w s e)) ih

  -- slot t, which was blank, takes job j
  pub end_gained : (j blank : ℕ) → blank ≢ j → (h : ℕ) → t < h → end_below j h (set table t j) ≡ max (end_below j h (set table t blank)) (suc t)
  end_gained j blank f zero l = absurd (omega arith)
  end_gained j blank f (suc s) l = go (ℕ_discrete s t) (ℕ_discrete (get_or table s 0) j) (λ m. end_gained j blank f s m)
    where
      go : Dec (s ≡ t) → Dec (get_or table s 0 ≡ j) → (t < s → end_below j s (set table t j) ≡ max (end_below j s (set table t blank)) (suc t)) →
          end_below j (suc s) (set table t j) ≡ max (end_below j (suc s) (set table t blank)) (suc t)
      go (yes e) _ ih =
          rw (end_here j s (set table t j) (there j s e), end_lower j s (set table t blank) (λ q. f (sym (there blank s e) ∙ q)))
          (omega (arith, (ends_below j s (set table t blank)).within))
      go (no e) (yes q) ih =
          rw (end_here j s (set table t j) (aside j s e ∙ q), end_here j s (set table t blank) (aside blank s e ∙ q)) (omega arith)
      go (no e) (no g) ih =
          rw (end_lower j s (set table t j) (λ q. g (sym (aside j s e) ∙ q)), end_lower j s (set table t blank) (λ q. g (sym (aside blank s e) ∙ q)))
          (ih (omega arith))

  -- slot t, the last of job j, is left blank
  pub end_blank : (j blank : ℕ) → blank ≢ j → (h : ℕ) → end_below j h table ≡ suc t → end_below j t table ≡ end_below j h (set table t blank)
  unfolding end_below
  end_blank j blank f zero top = absurd (omega arith)
  end_blank j blank f (suc s) top = go (ℕ_discrete (get_or table s 0) j) (λ e. end_blank j blank f s e)
    where
      go : Dec (get_or table s 0 ≡ j) → (end_below j s table ≡ suc t → end_below j t table ≡ end_below j s (set table t blank)) →
          end_below j t table ≡ end_below j (suc s) (set table t blank)
      go (yes q) ih =
          let e : s ≡ t = omega (arith, end_here j s table q) in
          rw (end_lower j s (set table t blank) (λ q. f (sym (there blank s e) ∙ q)), e) (sym (end_under j blank t (omega arith)))
      go (no g) ih =
          let low = sym (end_lower j s table g) ∙ top in
          let e : s ≢ t = omega (arith, (ends_below j s table).within) in
          ih low ∙ sym (end_lower j s (set table t blank) (λ q. g (sym (aside blank s e) ∙ q)))

  pub end_unblanked : (j blank h : ℕ) → end_below j h table ≡ suc t → (i : ℕ) → i ≢ j → i ≢ blank → end_below i h table ≡ end_below i h (set table t blank)
  end_unblanked j blank h top i f g =
      let held = (ends_below j h table).holds t top in
      ap (end_below i h) (sym (set-get_or table t 0) ∙ ap (set table t) held) ∙ end_kept i j blank f g h
