-- Which job goes on. Proofs go by these laws and never open `urgent` or `going_on`.
use Rattle.std.specs.Prelude.{ℕ, zero, suc, ◌<◌, ◌≡◌, Bool, true, false, ◌&&◌, leb, ltb}
use Rattle.std.proofs.Math.Path.{refl}
use Rattle.std.proofs.Common.{sym, ap₂, subst, ◌∙◌, arith}
use Rattle.std.proofs.Math.Option.{Option, none, some}
use borrow.Author.Tests.{leb-true, le-leb, ltb-true, lt-ltb}
use Rattle.sched.specs.Bounded.{all_below}
use Rattle.sched.proofs.Bounded.Laws.{by_bool, true_not_false, and_true, all_intro, all_elim}
use Rattle.steps.specs.Table.{earlier, earliest, urgent, going_on}
use Rattle.laws_edf.specs.Pick.{Earliest, EarliestView, earliest_view}
use Rattle.laws_edf.specs.Rules.{Soonest, OneOf}

module _ (d : ℕ → ℕ) (f : ℕ → Bool) (n : ℕ) where
  -- what `urgent` tests of each job
  abbrev not_sooner : ℕ → ℕ → Bool
  not_sooner k j = elim (f j) [ true ↦ leb (d k) (d j) | false ↦ true ]

  pub urgent_soonest : (k : ℕ) → urgent d f n k ≡ true → Soonest d f n k
  unfolding urgent
  urgent_soonest k e =
      let (front, all) = and_true (ltb k n && f k) (all_below n (not_sooner k)) e in
      let (below, holds) = and_true (ltb k n) (f k) front in
      record {
        below = ltb-true k n below;
        holds = holds;
        first = λ j l h. omega (arith, leb-true (d k) (d j) (sym (rw (h, not_sooner)) ∙ all_elim n (not_sooner k) all j l));
      }

  pub soonest_urgent : (k : ℕ) → Soonest d f n k → urgent d f n k ≡ true
  unfolding urgent
  soonest_urgent k s =
      rw (lt-ltb k n s.below, s.holds)
      (all_intro n (not_sooner k) (λ j l. by_bool (f j) (λ h. rw (h, not_sooner) (le-leb (d k) (d j) (omega (arith, s.first j l h)))) (λ h. rw (h, not_sooner))))

  pub on_none : going_on d f n none ≡ earliest d f n
  unfolding going_on
  on_none = refl

  -- the latest goes on just where it is one of the soonest
  pub goes_on : (k : ℕ) → Soonest d f n k → going_on d f n (some k) ≡ some k
  unfolding going_on
  goes_on k s = rw (soonest_urgent k s, going_on)

  pub stops : (k : ℕ) → (Soonest d f n k → ⊥) → going_on d f n (some k) ≡ earliest d f n
  unfolding going_on
  stops k not_one = by_bool (urgent d f n k) (λ e. absurd (not_one (urgent_soonest k e))) (λ e. rw (e, going_on))

  pub earliest_one : OneOf d f n (earliest d f n)
  earliest_one = by_view (earliest d f n) (earliest_view d f n)
    where
      by_view : (o : Option ℕ) → EarliestView d f n o → OneOf d f n o
      by_view none v = v
      by_view (some k) v = record { below = v.below; holds = v.holds; first = λ j l h. (v.first j l h).sooner }

  pub goes_on_one : (latest : Option ℕ) → OneOf d f n (going_on d f n latest)
  goes_on_one none = rw on_none earliest_one
  goes_on_one (some k) =
      by_bool (urgent d f n k)
      (λ e. let s = urgent_soonest k e in rw (goes_on k s) s)
      (λ e. rw (stops k (λ s. true_not_false (urgent d f n k) (soonest_urgent k s) e)) earliest_one)

  -- a job that does not go on, because another ran last or none did, is the lowest of the soonest
  pub else_lowest : (latest : Option ℕ) (k : ℕ) → going_on d f n latest ≡ some k → (latest ≡ some k → ⊥) → Earliest d f n k
  else_lowest none k e other = subst (EarliestView d f n) (sym (on_none) ∙ e) (earliest_view d f n)
  else_lowest (some l) k e other =
      by_bool (urgent d f n l)
      (λ u. absurd (other (sym (goes_on l (urgent_soonest l u)) ∙ e)))
      (λ u. subst (EarliestView d f n) (sym (stops l (λ s. true_not_false (urgent d f n l) (soonest_urgent l s) u)) ∙ e) (earliest_view d f n))

  pub goes_none : ((j : ℕ) → j < n → f j ≡ false) → (latest : Option ℕ) → going_on d f n latest ≡ none
  goes_none nobody latest = by_one (going_on d f n latest) (goes_on_one latest)
    where
      by_one : (o : Option ℕ) → OneOf d f n o → o ≡ none
      by_one none v = refl
      by_one (some k) v = true_not_false (f k) v.holds (nobody k v.below)

  pub earliest_nobody : earliest d f n ≡ none → (j : ℕ) → j < n → f j ≡ false
  earliest_nobody e = subst (OneOf d f n) e earliest_one

-- only what f says of the jobs below n matters

earliest_alike : (d : ℕ → ℕ) (f g : ℕ → Bool) (n : ℕ) → ((j : ℕ) → j < n → f j ≡ g j) → earliest d f n ≡ earliest d g n
unfolding earliest
earliest_alike d f g zero h = refl
earliest_alike d f g (suc n) h =
    ap₂ (λ (b : Bool) (o : Option ℕ). elim b as (λ _. Option ℕ) [ true ↦ earlier d n o | false ↦ o ]) (h n (omega arith))
    (earliest_alike d f g n (λ j l. h j (omega arith)))

soonest_alike : (d : ℕ → ℕ) (f g : ℕ → Bool) (n k : ℕ) → ((j : ℕ) → j < n → f j ≡ g j) → Soonest d f n k → Soonest d g n k
soonest_alike d f g n k h s =
    record { below = s.below; holds = sym (h k s.below) ∙ s.holds; first = λ j l e. s.first j l (h j l ∙ e) }

pub goes_on_alike : (d : ℕ → ℕ) (f g : ℕ → Bool) (n : ℕ) (latest : Option ℕ) → ((j : ℕ) → j < n → f j ≡ g j) → going_on d f n latest ≡ going_on d g n latest
goes_on_alike d f g n none h = on_none d f n ∙ earliest_alike d f g n h ∙ sym (on_none d g n)
goes_on_alike d f g n (some k) h =
    by_bool (urgent d f n k)
    (λ e. let s = urgent_soonest d f n k e in goes_on d f n k s ∙ sym (goes_on d g n k (soonest_alike d f g n k h s)))
    (λ e.
    let not_one : Soonest d f n k → ⊥ = λ s. true_not_false (urgent d f n k) (soonest_urgent d f n k s) e in
    stops d f n k not_one ∙ earliest_alike d f g n h ∙ sym (stops d g n k (λ s. not_one (soonest_alike d g f n k (λ j l. sym (h j l)) s))))
