-- The search over all placements, `most_from`, finds what the run serves.
use Rattle.std.specs.Prelude.{ℕ, zero, suc, ◌+◌, ◌-◌, ◌≤◌, ◌<◌, max, ◌≡◌, refl, Bool, true, false, List, [], ◌∷◌, ◌⊎◌, length, get_or}
use Rattle.std.proofs.Common.{ap, sym, ◌∙◌, inl, inr, get_or-set_same, get_or-set_other}
use Rattle.std.proofs.Math.Path.{fun_ext}
use Rattle.std.proofs.Math.Option.{Option, none, some}
use native.Mathlib.Omega.{arith}
use Rattle.std.proofs.Math.Decide.{ℕ_discrete, dec_lt}
use Rattle.std.proofs.Math.ListN.{get_or-eq_default}
use Rattle.std.proofs.Math.Seq.{set_out}
use Rattle.sched.specs.Bounded.{max_below}
use Rattle.sched.proofs.Bounded.Laws.{lt_suc, by_bool}
use Rattle.sched.specs.Jobs.{Jobs, count}
use Rattle.sched.specs.Slots.{awake}
use Rattle.steps.specs.Workable.{placeable, lower, most_from}
use Rattle.laws_edf.specs.Run.{Spans, State, spans, chosen, lowered, after, gain, vol}
use Rattle.laws_edf.specs.Pick.{View, view, eligible, servable_if}
use Rattle.laws_edf.specs.Units.{lowered_there, lowered_elsewhere}
use Rattle.laws_edf.specs.Exchange.{any_choice}

-- a list of units as a state
abbrev pub state_of : List ℕ → State
state_of l j = get_or l j 0

pub state_lowered : (l : List ℕ) (k : ℕ) → state_of (lower l k) ≡ lowered (state_of l) k
state_lowered l k = fun_ext (λ j. go j (ℕ_discrete j k) (dec_lt k (length l)))
  where
    go : (j : ℕ) → Dec (j ≡ k) → Dec (k < length l) → get_or (lower l k) j 0 ≡ lowered (state_of l) k j
    go j (yes e) (yes b) = rw e (get_or-set_same l k (get_or l k 0 - 1) 0 b ∙ sym (lowered_there (state_of l) k))
    go j (yes e) (no b) =
        rw e
        (omega (
          arith,
          ap (λ (x : List ℕ). get_or x k 0) (set_out l k (get_or l k 0 - 1) (omega arith)),
          get_or-eq_default l 0 {n = k} (omega arith),
          lowered_there (state_of l) k,
        ))
    go j (no f) b = get_or-set_other l k j (get_or l k 0 - 1) 0 f ∙ sym (lowered_elsewhere (state_of l) k j f)

max_below_at_most : (n : ℕ) (f : ℕ → ℕ) (v : ℕ) → ((j : ℕ) → j < n → f j ≤ v) → max_below n f ≤ v
unfolding max_below
max_below_at_most zero f v h = omega arith
max_below_at_most (suc n) f v h = omega (arith, max_below_at_most n f v (λ j l. h j (omega arith)), h n (omega arith))

max_below_at_least : (n : ℕ) (f : ℕ → ℕ) (j : ℕ) → j < n → f j ≤ max_below n f
unfolding max_below
max_below_at_least zero f j l = absurd (omega arith)
max_below_at_least (suc n) f j l = go (lt_suc l) (max_below_at_least n f j)
  where
    go : (j < n) ⊎ (j ≡ n) → (j < n → f j ≤ max_below n f) → f j ≤ max (max_below n f) (f n)
    go (inl b) ih = omega (arith, ih b)
    go (inr e) ih = rw e (omega arith)

-- the units where job j is served now and v k from then on, or 0
abbrev tried : Jobs → ℕ → List ℕ → (ℕ → ℕ) → ℕ → ℕ
tried J t l v j = elim (placeable J t l j) [ true ↦ suc (v j) | false ↦ 0 ]

module _ (J : Jobs) (t : ℕ) (l : List ℕ) (v : ℕ → ℕ) (j : ℕ) where
  tried_able : placeable J t l j ≡ true → tried J t l v j ≡ suc (v j)
  tried_able e = rw (e, tried)

  tried_not : placeable J t l j ≡ false → tried J t l v j ≡ 0
  tried_not e = rw (e, tried)

module _ (J : Jobs) (S : ℕ → Bool) (h t : ℕ) (l : List ℕ) (v : ℕ → ℕ) (known : (j : ℕ) → v j ≡ vol (spans J) S h (suc t) (lowered (state_of l) j)) where
  tried_at_most : S t ≡ true → (j : ℕ) → j < count J → tried J t l v j ≤ vol (spans J) S (suc h) t (state_of l)
  tried_at_most w j b = by_bool (placeable J t l j) able not_able
    where
      able : placeable J t l j ≡ true → tried J t l v j ≤ vol (spans J) S (suc h) t (state_of l)
      able e =
          let c = any_choice (spans J) S h t (state_of l) (some j) (w, eligible (spans J) t (state_of l) j b e) in
          omega (arith, tried_able J t l v j e, known j)

      not_able : placeable J t l j ≡ false → tried J t l v j ≤ vol (spans J) S (suc h) t (state_of l)
      not_able e = omega (arith, tried_not J t l v j e)

  tried_pick : (b : Bool) (o : Option ℕ) → View (spans J) b t (state_of l) o →
      gain o + vol (spans J) S h (suc t) (after (state_of l) o) ≤ max (vol (spans J) S h (suc t) (state_of l)) (max_below (count J) (tried J t l v))
  tried_pick b none w = omega arith
  tried_pick b (some k) w =
      omega (
        arith,
        max_below_at_least (count J) (tried J t l v) k w.1.able.below,
        tried_able J t l v k (servable_if (spans J) t (state_of l) k w.1.able),
        known k,
      )

  -- a slot's choice of the best is the run's choice
  best_is_run : S t ≡ true → max (vol (spans J) S h (suc t) (state_of l)) (max_below (count J) (tried J t l v)) ≡ vol (spans J) S (suc h) t (state_of l)
  unfolding vol
  best_is_run w =
      omega (
        arith,
        any_choice (spans J) S h t (state_of l) none tt,
        max_below_at_most (count J) (tried J t l v) (vol (spans J) S (suc h) t (state_of l)) (tried_at_most w),
        tried_pick (S t) (chosen (spans J) (S t) t (state_of l)) (view (spans J) (S t) t (state_of l)),
      )

pub vol_asleep : (F : Spans) (S : ℕ → Bool) (h t : ℕ) (L : State) → S t ≡ false → vol F S (suc h) t L ≡ vol F S h (suc t) L
unfolding vol chosen
vol_asleep F S h t L e = rw (e, vol, chosen) (omega arith)

-- rest holds the slots of S from t on
abbrev pub Reads : (ℕ → Bool) → ℕ → List Bool → Type 0
Reads S t rest = (i : ℕ) → i < length rest → get_or rest i false ≡ S (t + i)

pub reads_whole : (S : List Bool) → Reads (awake S) 0 S
reads_whole S i l = let e : i ≡ 0 + i = omega arith in ap (awake S) e

module _ (S : ℕ → Bool) (t : ℕ) (b : Bool) (rest : List Bool) (e : Reads S t (b ∷ rest)) where
  pub reads_head : S t ≡ b
  reads_head = let q : t + 0 ≡ t = omega arith in sym (rw q at (e 0 (omega arith)))

  pub reads_tail : Reads S (suc t) rest
  reads_tail i l = let q : t + suc i ≡ suc t + i = omega arith in rw q at (e (suc i) (omega arith))

pub search_is_run : (J : Jobs) (S : ℕ → Bool) (rest : List Bool) (t : ℕ) (l : List ℕ) → Reads S t rest →
    most_from J t l rest ≡ vol (spans J) S (length rest) t (state_of l)
unfolding most_from vol
search_is_run J S [] t l e = refl
search_is_run J S (false ∷ rest) t l e =
    search_is_run J S rest (suc t) l (reads_tail S t false rest e)
    ∙ sym (vol_asleep (spans J) S (length rest) t (state_of l) (reads_head S t false rest e))
search_is_run J S (true ∷ rest) t l e =
    ap (λ (x : ℕ). max x (max_below (count J) (tried J t l (λ j. most_from J (suc t) (lower l j) rest)))) (search_is_run J S rest (suc t) l (reads_tail S t true rest e))
    ∙ best_is_run J S (length rest) t l (λ j. most_from J (suc t) (lower l j) rest)
    (λ j. search_is_run J S rest (suc t) (lower l j) (reads_tail S t true rest e) ∙ ap (λ (X : State). vol (spans J) S (length rest) (suc t) X) (state_lowered l j))
    (reads_head S t true rest e)
