-- The literal definition of the least skeleton goes through all sets in order of precedence and keeps the first of least energy.
-- Here: a set that costs at most as much as any other and precedes its equals is the one that is found.
use Rattle.std.specs.Prelude.{ℕ, zero, suc, ◌≤◌, ◌≡◌, Bool, true, false, ◌⊎◌, length, leb}
use Rattle.std.proofs.Math.Path.{refl}
use Rattle.std.proofs.Common.{sym, ap, ◌∙◌, inl, inr, ⊎_elim, arith, leb-true, le-leb}
use mathlib.Core.List.Memᴰ.{append_cases as sides}
use mathlib.Core.List.Memᴰ.{append_left as in_left}
use mathlib.Core.List.Memᴰ.{append_right as in_right}
use mathlib.Core.List.Memᴰ.{cases_cons as apart}
use mathlib.Core.List.Memᴰ.{head as here}
use mathlib.Core.List.Memᴰ.{not-nil as nowhere}
use mathlib.Core.List.Memᴰ.{tail as there}
use mathlib.Core.List.{List, [], ◌∷◌, ◌++◌, map, Memᴰ as Among}
use Rattle.sched.specs.Bounded.{keep, first_least}
use Rattle.sched.proofs.Bounded.Laws.{by_bool}
use Rattle.sched.specs.Jobs.{Jobs}
use Rattle.sched.specs.Energy.{energy}
use Rattle.steps.specs.Skeleton.{is_skeleton, skeletons, least_of, least_skeleton, all_sets}
use Rattle.steps.specs.Skeleton.{Precedes, Least}
use Rattle.laws_skeleton.proofs.Precedence.{precedes_both}

-- each set of the list precedes those behind it
abbrev Ordered : List (List Bool) → Type 0
Ordered [] = Unit {0}
Ordered (S ∷ l) = ((R : List Bool) → Among R l → Precedes S R) × Ordered l

-- the search

module _ (price : List Bool → ℕ) where
  found_first : (S R : List Bool) (l : List (List Bool)) → price S ≤ price (first_least price R l) → first_least price S (R ∷ l) ≡ S
  unfolding first_least
  found_first S R l h = rw (le-leb _ _ h, first_least)

  found_later : (S R : List Bool) (l : List (List Bool)) → leb (price S) (price (first_least price R l)) ≡ false
      → first_least price S (R ∷ l) ≡ first_least price R l
  unfolding first_least
  found_later S R l e = rw (e, first_least)

  found_alone : (S : List Bool) → first_least price S [] ≡ S
  unfolding first_least
  found_alone S = refl

  found_among : (S : List Bool) (l : List (List Bool)) → Among (first_least price S l) (S ∷ l)
  found_among S [] = here (found_alone S)
  found_among S (R ∷ l) =
      by_bool (leb (price S) (price (first_least price R l)))
      (λ e. here (found_first S R l (leb-true _ _ e)))
      (λ e. rw (found_later S R l e) (there (found_among R l)))

  -- the set of least price that precedes its equals
  record Best (B : List Bool) (l : List (List Bool)) : Type 0 where
    there : Among B l
    least : (S : List Bool) → Among S l → price B ≤ price S
    ties : (S : List Bool) → Among S l → price S ≡ price B → Precedes B S

  found_best : (B S : List Bool) (l : List (List Bool)) → Ordered (S ∷ l) → Best B (S ∷ l) → first_least price S l ≡ B
  found_best B S [] o best = go (apart best.there)
    where
      go : (B ≡ S) ⊎ Among B [] → first_least price S [] ≡ B
      go (inl e) = found_alone S ∙ sym e
      go (inr m) = absurd (nowhere m)
  found_best B S (R ∷ l) o best = go (apart best.there) (found_best B R l o.1)
    where
      later : first_least price R l ≡ B → Among B (R ∷ l) → first_least price S (R ∷ l) ≡ B
      later e m =
          by_bool (leb (price S) (price (first_least price R l)))
          (λ y. let h : price S ≤ price (first_least price R l) = leb-true _ _ y in let g : price S ≤ price B = rw e at h in
          found_first S R l h ∙ precedes_both S B (o.0 B m) (best.ties S (here refl) (omega (arith, best.least S (here refl)))))
          (λ n. found_later S R l n ∙ e)

      go : (B ≡ S) ⊎ Among B (R ∷ l) → (Best B (R ∷ l) → first_least price R l ≡ B) → first_least price S (R ∷ l) ≡ B
      go (inl e) ih = found_first S R l (rw e at (best.least (first_least price R l) (there (found_among R l)))) ∙ sym e
      go (inr m) ih = later (ih (record { there = m; least = λ T i. best.least T (there i); ties = λ T i. best.ties T (there i) })) m

-- those kept

module _ (f : List Bool → Bool) where
  keep_yes : (S : List Bool) (l : List (List Bool)) → f S ≡ true → keep f (S ∷ l) ≡ S ∷ keep f l
  unfolding keep
  keep_yes S l e = rw (e, keep)

  keep_no : (S : List Bool) (l : List (List Bool)) → f S ≡ false → keep f (S ∷ l) ≡ keep f l
  unfolding keep
  keep_no S l e = rw (e, keep)

  keep_among : (l : List (List Bool)) (S : List Bool) → Among S l → f S ≡ true → Among S (keep f l)
  keep_among [] S m e = absurd (nowhere m)
  keep_among (R ∷ l) S m e =
      ⊎_elim
      (λ (q : S ≡ R). rw (keep_yes R l (rw q at e)) (here q))
      (λ (i : Among S l). let h = keep_among l S i e in by_bool (f R) (λ y. rw (keep_yes R l y) (there h)) (λ n. rw (keep_no R l n) h))
      (apart m)

  kept : (l : List (List Bool)) (S : List Bool) → Among S (keep f l) → Among S l × (f S ≡ true)
  unfolding keep
  kept [] S m = absurd (nowhere m)
  kept (R ∷ l) S m = by_bool (f R) (λ y. on y (apart (rw (keep_yes R l y) at m)) (kept l S)) (λ n. off (kept l S (rw (keep_no R l n) at m)))
    where
      off : Among S l × (f S ≡ true) → Among S (R ∷ l) × (f S ≡ true)
      off h = (there h.0, h.1)

      on : f R ≡ true → (S ≡ R) ⊎ Among S (keep f l) → (Among S (keep f l) → Among S l × (f S ≡ true)) → Among S (R ∷ l) × (f S ≡ true)
      on y (inl q) ih = (here q, rw q y)
      on y (inr i) ih = off (ih i)

  kept_ordered : (l : List (List Bool)) → Ordered l → Ordered (keep f l)
  unfolding keep
  kept_ordered [] o = tt
  kept_ordered (S ∷ l) o =
      let ih = kept_ordered l o.1 in
      by_bool (f S) (λ y. rw (keep_yes S l y) (λ R m. o.0 R (kept l R m).0, ih)) (λ n. rw (keep_no S l n) ih)

-- all sets of n slots

led_among : (b : Bool) (l : List (List Bool)) (S : List Bool) → Among S l → Among (b ∷ S) (map (λ T. b ∷ T) l)
led_among b [] S m = absurd (nowhere m)
led_among b (R ∷ l) S m = ⊎_elim (λ (q : S ≡ R). here (ap (λ (T : List Bool). b ∷ T) q)) (λ (i : Among S l). there (led_among b l S i)) (apart m)

-- a member of a list whose sets all begin with b
record Led (b : Bool) (l : List (List Bool)) (S : List Bool) : Type 0 where
  rest : List Bool
  is : S ≡ b ∷ rest
  inside : Among rest l

led : (b : Bool) (l : List (List Bool)) (S : List Bool) → Among S (map (λ T. b ∷ T) l) → Led b l S
led b [] S m = absurd (nowhere m)
led b (R ∷ l) S m =
    ⊎_elim
    (λ (q : S ≡ b ∷ R). record { rest = R; is = q; inside = here refl })
    (λ (i : Among S (map (λ T. b ∷ T) l)). let h = led b l S i in record { rest = h.rest; is = h.is; inside = there h.inside })
    (apart m)

led_ordered : (b : Bool) (l : List (List Bool)) → Ordered l → Ordered (map (λ T. b ∷ T) l)
led_ordered b [] o = tt
led_ordered b (S ∷ l) o = (λ R m. let h = led b l R m in rw h.is (same b h.rest (o.0 h.rest h.inside)), led_ordered b l o.1)
  where
    same : (b : Bool) (R : List Bool) → Precedes S R → Precedes (b ∷ S) (b ∷ R)
    same true R p = p
    same false R p = p

joined_ordered : (l m : List (List Bool)) → Ordered l → Ordered m → ((S R : List Bool) → Among S l → Among R m → Precedes S R) → Ordered (l ++ m)
joined_ordered [] m o p across = p
joined_ordered (S ∷ l) m o p across =
    (λ R i. ⊎_elim (o.0 R) (across S R (here refl)) (sides l i), joined_ordered l m o.1 p (λ T R i. across T R (there i)))

all_ordered : (n : ℕ) → Ordered (all_sets n)
unfolding all_sets
all_ordered zero = (λ R m. absurd (nowhere m), tt)
all_ordered (suc n) =
    let o = all_ordered n in
    joined_ordered
    (map (λ T. false ∷ T) (all_sets n))
    (map (λ T. true ∷ T) (all_sets n))
    (led_ordered false (all_sets n) o)
    (led_ordered true (all_sets n) o)
    (λ S R i j. rw ((led false (all_sets n) S i).is, (led true (all_sets n) R j).is) tt)

all_among : (S : List Bool) → Among S (all_sets (length S))
unfolding all_sets
all_among [] = here refl
all_among (false ∷ S) = in_left (map (λ T. true ∷ T) (all_sets (length S))) (led_among false (all_sets (length S)) S (all_among S))
all_among (true ∷ S) = in_right (map (λ T. false ∷ T) (all_sets (length S))) (led_among true (all_sets (length S)) S (all_among S))

all_length : (n : ℕ) (S : List Bool) → Among S (all_sets n) → length S ≡ n
unfolding all_sets
all_length zero S m = ⊎_elim (λ (q : S ≡ []). ap length q) (λ (i : Among S []). absurd (nowhere i)) (apart m)
all_length (suc n) S m = ⊎_elim (on false (all_length n)) (on true (all_length n)) (sides (map (λ T. false ∷ T) (all_sets n)) m)
  where
    on : (b : Bool) → ((T : List Bool) → Among T (all_sets n) → length T ≡ n) → Among S (map (λ T. b ∷ T) (all_sets n)) → length S ≡ suc n
    on b ih i = let h = led b (all_sets n) S i in ap length h.is ∙ ap suc (ih h.rest h.inside)

-- step 2

least_of_lem : (J : Jobs) (B : List Bool) (l : List (List Bool)) → Ordered l → Best (energy J) B l → least_of J l ≡ B
unfolding least_of
least_of_lem J B [] o best = absurd (nowhere best.there)
least_of_lem J B (S ∷ l) o best = found_best (energy J) B S l o best

-- a set with the properties that step 2 asks for is the set that step 2 takes
pub least_is : (J : Jobs) (B : List Bool) → Least J B → least_skeleton J ≡ B
unfolding least_skeleton skeletons
least_is J B h =
    least_of_lem J B (keep (is_skeleton J) (all_sets J.horizon)) (kept_ordered (is_skeleton J) (all_sets J.horizon) (all_ordered J.horizon)) best
  where
    long : (S : List Bool) → Among S (keep (is_skeleton J) (all_sets J.horizon)) → length S ≡ J.horizon
    long S m = all_length J.horizon S (kept (is_skeleton J) (all_sets J.horizon) S m).0

    ok : (S : List Bool) → Among S (keep (is_skeleton J) (all_sets J.horizon)) → is_skeleton J S ≡ true
    ok S m = (kept (is_skeleton J) (all_sets J.horizon) S m).1

    best : Best (energy J) B (keep (is_skeleton J) (all_sets J.horizon))
    best = record {
      there = keep_among (is_skeleton J) (all_sets J.horizon) B (rw (← h.long) (all_among B)) h.skeleton;
      least = λ S m. h.cheapest S (long S m) (ok S m);
      ties = λ S m e. h.first S (long S m) (ok S m) e;
    }
