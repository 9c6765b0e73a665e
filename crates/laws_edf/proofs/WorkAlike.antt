-- Step 4 under two rules: the same slots work. A slot works just where a released job is unfinished, and whichever of them runs, the units that are left of
-- released jobs are one less; so for this the deadlines do not matter, nor whether all volume can be worked.
use Rattle.std.specs.Prelude.{ℕ, suc, ◌≤◌, ◌<◌, Bool}
use Rattle.std.proofs.Math.Path.{◌≡◌, refl, sym, ap, ap₂}
use Rattle.std.proofs.Common.{◌∙◌, arith}
use Rattle.std.proofs.Math.Bool.{true, false}
use mathlib.Core.List.{List, [], ◌∷◌}
use Rattle.std.proofs.Math.Option.{Option, none, some}
use borrow.Author.Tests.{leb-true, le-leb, ltb-true, lt-ltb, ltb-false}
use Rattle.std.proofs.Math.ListN.{get_or}
use Rattle.std.proofs.Math.Dec.{leb, ltb}
use Rattle.sched.specs.Bounded.{sum_below}
use Rattle.sched.proofs.Bounded.Laws.{by_bool, and_true, sum_zero, sum_term}
use Rattle.sched.specs.Jobs.{Jobs, count, release, deadline}
use Rattle.steps.specs.Workable.{lower}
use Rattle.steps.specs.Table.{Rule, runnable, run_byte, serve, latest_of, fill_by}
use Rattle.sched.specs.Slots.{works, working_of}
use Rattle.laws_edf.specs.Run.{State, lowered}
use Rattle.laws_edf.specs.Rules.{OneOf, EarliestRule}
use Rattle.laws_edf.specs.Units.{lowered_there, lowered_elsewhere, sum_one_more}
use Rattle.laws_edf.specs.Search.{state_of, state_lowered}

module _ (J : Jobs) (few : count J ≤ 64) where
  -- the units left of job j, if it is released by slot u
  waiting : ℕ → List ℕ → ℕ → ℕ
  waiting u l j = elim (leb (release J j) u) [ true ↦ get_or l j 0 | false ↦ 0 ]

  -- of all jobs
  in_hand : ℕ → List ℕ → ℕ
  in_hand u l = sum_below (count J) (waiting u l)

  waiting_on : (u : ℕ) (l : List ℕ) (j : ℕ) → release J j ≤ u → waiting u l j ≡ get_or l j 0
  unfolding waiting
  waiting_on u l j r = rw (le-leb (release J j) u r, waiting)

  -- what a rule may give in slot t
  abbrev Takes : ℕ → List ℕ → Option ℕ → Type 0
  Takes t l o = OneOf (deadline J) (runnable J t l) (count J) o

  -- a job is in hand that can run: its units are
  some_in_hand : (t : ℕ) (l : List ℕ) (k : ℕ) → Takes t l (some k) → 0 < in_hand t l
  unfolding in_hand
  some_in_hand t l k v =
      let (released, unit) = and_true _ _ v.holds in
      omega (arith, ltb-true 0 (get_or l k 0) unit, waiting_on t l k (leb-true _ _ released), sum_term (count J) (waiting t l) k v.below)

  none_in_hand : (t : ℕ) (l : List ℕ) → Takes t l none → in_hand t l ≡ 0
  unfolding in_hand waiting
  none_in_hand t l v = sum_zero (count J) (waiting t l) (λ j m. by_bool (leb (release J j) t) (λ on. on_time j m on) (λ off. rw (off, waiting)))
    where
      on_time : (j : ℕ) → j < count J → leb (release J j) t ≡ true → waiting t l j ≡ 0
      on_time j m on =
          let not_left : ltb 0 (get_or l j 0) ≡ false = rw on at (v j m) in
          omega (arith, waiting_on t l j (leb-true _ _ on), ltb-false 0 (get_or l j 0) not_left)

  -- whichever runs, one unit less is in hand, from now on
  one_less : (t u : ℕ) (l : List ℕ) (k : ℕ) → t ≤ u → Takes t l (some k) → in_hand u l ≡ suc (in_hand u (lower l k))
  unfolding in_hand waiting
  one_less t u l k m v =
      let (released, unit) = and_true _ _ v.holds in
      let r = leb-true (release J k) t released in
      sum_one_more (count J) k (waiting u l) (waiting u (lower l k)) v.below
      (record {
        there = omega (arith, waiting_on u l k (omega arith), waiting_on u (lower l k) k (omega arith), at k, lowered_there (state_of l) k, ltb-true 0 (get_or l k 0) unit);
        elsewhere = λ j other. ap (λ (x : ℕ). elim (leb (release J j) u) as (λ _. ℕ) [ true ↦ x | false ↦ 0 ]) (sym (at j ∙ lowered_elsewhere (state_of l) k j other));
      })
    where
      at : (j : ℕ) → get_or (lower l k) j 0 ≡ lowered (state_of l) k j
      at j = ap (λ (L : State). L j) (state_lowered l k)

  job_works : (t : ℕ) (l : List ℕ) (k : ℕ) → Takes t l (some k) → works (run_byte (some k)) ≡ true
  job_works t l k v = lt-ltb k 64 (omega (arith, v.below))

  module _ (rule other : Rule) (ok : EarliestRule J rule) (ok' : EarliestRule J other) where
    -- with as many units in hand, now and at each later slot
    Alike : ℕ → List ℕ → List ℕ → Type 0
    Alike t l m = (u : ℕ) → t ≤ u → in_hand u l ≡ in_hand u m

    alike_from : (S : List Bool) (t : ℕ) (l m : List ℕ) (latest latest' : Option ℕ) → Alike t l m → working_of (fill_by rule t l latest S) ≡ working_of (fill_by other t m latest' S)
    unfolding fill_by Alike
    alike_from [] t l m latest latest' a = refl
    alike_from (false ∷ S) t l m latest latest' a = ap (λ (W : List Bool). false ∷ W) (alike_from S (suc t) l m latest latest' (λ u h. a u (omega arith)))
    alike_from (true ∷ S) t l m latest latest' a = go (rule t l latest) (other t m latest') (ok t l latest) (ok' t m latest') (alike_from S (suc t))
      where
        go : (o o' : Option ℕ) → Takes t l o → Takes t m o' →
            ((x y : List ℕ) (z z' : Option ℕ) → Alike (suc t) x y → working_of (fill_by rule (suc t) x z S) ≡ working_of (fill_by other (suc t) y z' S)) →
            ◌≡◌ {A = List Bool}
            (works (run_byte o) ∷ working_of (fill_by rule (suc t) (serve l o) (latest_of o latest) S))
            (works (run_byte o') ∷ working_of (fill_by other (suc t) (serve m o') (latest_of o' latest') S))
        go none none v v' ih = ap (λ (W : List Bool). false ∷ W) (ih l m latest latest' (λ u h. a u (omega arith)))
        go none (some k) v v' ih = absurd (omega (arith, none_in_hand t l v, some_in_hand t m k v', a t (omega arith)))
        go (some k) none v v' ih = absurd (omega (arith, some_in_hand t l k v, none_in_hand t m v', a t (omega arith)))
        go (some k) (some j) v v' ih =
            ap₂ (λ (b : Bool) (W : List Bool). b ∷ W) (job_works t l k v ∙ sym (job_works t m j v'))
            (ih (lower l k) (lower m j) (some k) (some j)
            (λ u h. omega (arith, one_less t u l k (omega arith) v, one_less t u m j (omega arith) v', a u (omega arith))))

    pub work_alike : (S : List Bool) (l : List ℕ) → working_of (fill_by rule 0 l none S) ≡ working_of (fill_by other 0 l none S)
    unfolding Alike
    work_alike S l = alike_from S 0 l l none none (λ u h. refl)
