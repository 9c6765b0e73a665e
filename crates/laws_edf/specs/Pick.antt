-- A view of the job that is picked. Proofs go by cases on it and never open `earliest`.
use Prim.Native.Nat.{ℕ, zero, suc, ◌≤◌, ◌<◌}
use Rattle.std.specs.Prelude.{◌≡◌, refl, Bool, true, false, ◌⊎◌, ltb}
use Rattle.std.proofs.Common.{ap, ◌∙◌, inl, inr, arith, leb-true, ltb-true, ltb-false, le-leb, lt-ltb}
use Rattle.std.proofs.Math.Option.{Option, none, some}
use Rattle.sched.proofs.Bounded.Laws.{lt_suc, by_bool, true_not_false, and_true}
use Rattle.steps.specs.Table.{earliest, earlier}
use Rattle.laws_edf.specs.Run.{Spans, State, servable, Eligible, pick, chosen}

-- Earliest deadlines below n

-- k comes before j, or is j
pub record First (d : ℕ → ℕ) (k j : ℕ) : Type 0 where
  pub sooner : d k ≤ d j
  pub lower : d j ≤ d k → k ≤ j

-- only one job comes first
pub first_unique : (d : ℕ → ℕ) (k j : ℕ) → First d k j → First d j k → k ≡ j
first_unique d k j a b = omega (arith, a.lower b.sooner, b.lower a.sooner)

pub record Earliest (d : ℕ → ℕ) (f : ℕ → Bool) (n k : ℕ) : Type 0 where
  pub below : k < n
  pub holds : f k ≡ true
  pub first : (j : ℕ) → j < n → f j ≡ true → First d k j

abbrev pub EarliestView : (ℕ → ℕ) → (ℕ → Bool) → ℕ → Option ℕ → Type 0
EarliestView d f n none = (j : ℕ) → j < n → f j ≡ false
EarliestView d f n (some k) = Earliest d f n k

module _ (d : ℕ → ℕ) (f : ℕ → Bool) where
  pass_over : (n : ℕ) (o : Option ℕ) → f n ≡ false → EarliestView d f n o → EarliestView d f (suc n) o
  pass_over n none e v = λ j h. go j (lt_suc h)
    where
      go : (j : ℕ) → (j < n) ⊎ (j ≡ n) → f j ≡ false
      go j (inl l) = v j l
      go j (inr q) = ap f q ∙ e
  pass_over n (some k) e v =
      record { below = omega arith; holds = v.holds; first = λ j h t. go j t (lt_suc h) }
    where
      go : (j : ℕ) → f j ≡ true → (j < n) ⊎ (j ≡ n) → First d k j
      go j t (inl l) = v.first j l t
      go j t (inr q) = true_not_false (f j) t (ap f q ∙ e)

  take_in : (n : ℕ) (o : Option ℕ) → f n ≡ true → EarliestView d f n o → EarliestView d f (suc n) (earlier d n o)
  take_in n none e v =
      record { below = omega arith; holds = e; first = λ j h t. go j t (lt_suc h) }
    where
      go : (j : ℕ) → f j ≡ true → (j < n) ⊎ (j ≡ n) → First d n j
      go j t (inl l) = true_not_false (f j) t (v j l)
      go j t (inr q) = let i : d j ≡ d n = ap d q in record { sooner = omega arith; lower = λ _. omega arith }
  take_in n (some k) e v = by_bool (ltb (d n) (d k)) new old
    where
      ahead : d n < d k → (j : ℕ) → f j ≡ true → (j < n) ⊎ (j ≡ n) → First d n j
      ahead l j t (inl b) = let s = v.first j b t in record { sooner = omega arith; lower = λ m. omega arith }
      ahead l j t (inr q) = let i : d j ≡ d n = ap d q in record { sooner = omega arith; lower = λ _. omega arith }

      new : ltb (d n) (d k) ≡ true → EarliestView d f (suc n) (earlier d n (some k))
      new c = rw (c, EarliestView) (record { below = omega arith; holds = e; first = λ j h t. ahead (ltb-true _ _ c) j t (lt_suc h) })

      behind : d k ≤ d n → (j : ℕ) → f j ≡ true → (j < n) ⊎ (j ≡ n) → First d k j
      behind l j t (inl b) = v.first j b t
      behind l j t (inr q) = let i : d j ≡ d n = ap d q in record { sooner = omega arith; lower = λ _. omega (arith, v.below) }

      old : ltb (d n) (d k) ≡ false → EarliestView d f (suc n) (earlier d n (some k))
      old c = rw (c, EarliestView) (record { below = omega (arith, v.below); holds = v.holds; first = λ j h t. behind (ltb-false _ _ c) j t (lt_suc h) })

  pub earliest_view : (n : ℕ) → EarliestView d f n (earliest d f n)
  unfolding earliest
  earliest_view zero = λ j h. absurd (omega arith)
  earliest_view (suc n) =
      by_bool (f n) (λ e. rw (e, earliest) (take_in n (earliest d f n) e (earliest_view n)))
      (λ e. rw (e, earliest) (pass_over n (earliest d f n) e (earliest_view n)))

-- The job that a slot serves

pub record Chosen (F : Spans) (t : ℕ) (L : State) (k : ℕ) : Type 0 where
  pub able : Eligible F t L k
  pub first : (j : ℕ) → Eligible F t L j → First F.d k j

-- with b for awake: either somebody is served, the first of the eligible, or nobody is eligible or the slot sleeps
abbrev pub View : Spans → Bool → ℕ → State → Option ℕ → Type 0
View F b t L none = b ≡ true → (j : ℕ) → Eligible F t L j → ⊥
View F b t L (some k) = (b ≡ true) × Chosen F t L k

pub eligible : (F : Spans) (t : ℕ) (L : State) (j : ℕ) → j < F.n → servable F t L j ≡ true → Eligible F t L j
eligible F t L j h e =
    let (ab, c) = and_true _ _ e in
    let (a, b) = and_true _ _ ab in
    record { below = h; released = leb-true _ _ a; before = ltb-true _ _ b; unit = ltb-true _ _ c }

pub servable_if : (F : Spans) (t : ℕ) (L : State) (j : ℕ) → Eligible F t L j → servable F t L j ≡ true
servable_if F t L j e = simp (le-leb _ _ e.released, lt-ltb _ _ e.before, lt-ltb _ _ e.unit)

pub view : (F : Spans) (b : Bool) (t : ℕ) (L : State) → View F b t L (chosen F b t L)
unfolding chosen pick
view F false t L = λ e. true_not_false false e refl
view F true t L = go (pick F t L) (earliest_view F.d (servable F t L) F.n)
  where
    go : (o : Option ℕ) → EarliestView F.d (servable F t L) F.n o → View F true t L o
    go none v = λ _ j e. true_not_false (servable F t L j) (servable_if F t L j e) (v j e.below)
    go (some k) v = (
      refl,
      record {
        able = eligible F t L k v.below v.holds;
        first = λ j e. v.first j e.below (servable_if F t L j e);
      },
    )

-- So what a slot serves is known from what is eligible.

module _ (F : Spans) (t : ℕ) (L : State) where
  chosen_by : (k : ℕ) (o : Option ℕ) → Chosen F t L k → View F true t L o → o ≡ some k
  chosen_by k none c v = absurd (v refl k c.able)
  chosen_by k (some m) c v = ap some (first_unique F.d m k (v.1.first k c.able) (c.first m v.1.able))

  pub chosen_is : (k : ℕ) → Chosen F t L k → chosen F true t L ≡ some k
  chosen_is k c = chosen_by k (chosen F true t L) c (view F true t L)

  none_by : (o : Option ℕ) → ((j : ℕ) → Eligible F t L j → ⊥) → View F true t L o → o ≡ none
  none_by none f v = refl
  none_by (some m) f v = absurd (f m v.1.able)

  pub chosen_none : ((j : ℕ) → Eligible F t L j → ⊥) → chosen F true t L ≡ none
  chosen_none f = none_by (chosen F true t L) f (view F true t L)
