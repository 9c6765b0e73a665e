-- The interval that 01 shows is the one that `Shown` describes: from that of the least end (`Laws`).
use Rattle.std.specs.Prelude.{ℕ, ◌-◌, ◌≤◌, ◌<◌, ◌≡◌, Bool, true, false, ◌&&◌, ltb}
use Rattle.std.proofs.Math.Path.{refl}
use Rattle.std.proofs.Common.{ap, subst, arith}
use Rattle.std.proofs.Math.Option.{Option, none, some}
use Rattle.std.proofs.Math.Decide.{dec_lt}
use borrow.Author.Tests.{ltb-true, leb-true, lt-ltb, le-leb}
use Rattle.std.proofs.Math.Dec.{leb}
use Rattle.sched.specs.Bounded.{any_below, least_from, last_below}
use Rattle.sched.proofs.Bounded.Laws.{by_bool, true_not_false, and_true, any_intro, any_elim, LeastIn, least_some, least_none, Last, last_some, last_none}
use Rattle.sched.specs.Jobs.{Jobs}
use Rattle.steps.specs.Overload.{overloaded, volume_inside, overload_ending_at, shown_overload}
use Rattle.sched.specs.declared.Interval.{Interval}
use Rattle.steps.specs.Overload.{Overfull, Shown}
use Rattle.laws_edf.specs.Overload.{ShowsAll}
use Rattle.laws_edf.proofs.Overload.Laws.{not_overfull, ends_at, ends_at_lem, shows_start}

module _ (J : Jobs) where
  pub shows : ShowsAll J (shown_overload J)
  unfolding shown_overload overload_ending_at ends_at
  shows = go (least_from J.horizon 1 (ends_at J)) refl
    where
      go : (o : Option ℕ) → least_from J.horizon 1 (ends_at J) ≡ o → ShowsAll J (elim o [ none ↦ none | some b ↦ overload_ending_at J b ])
      go none e = λ a b o. true_not_false ((ends_at J) b) ((ends_at_lem J) a b o) (least_none J.horizon 1 (ends_at J) e b (omega (arith, o.span)) (omega (arith, o.within)))
      go (some b) e = (shows_start J) b (least_some J.horizon 1 (ends_at J) b e) (last_below b (λ a. overloaded J a b)) refl

  -- only one answer says what holds
  pub shows_one : (o p : Option Interval) → ShowsAll J o → ShowsAll J p → o ≡ p
  shows_one none none x y = refl
  shows_one none (some j) x y = absurd (x j.a j.b y.over)
  shows_one (some i) none x y = absurd (y i.a i.b x.over)
  shows_one (some i) (some j) x y = ap (λ (k : Interval). some k) same
    where
      eb : i.b ≡ j.b
      eb = omega (arith, x.least j.a j.b y.over, y.least i.a i.b x.over)

      ea : i.a ≡ j.a
      ea = omega (arith, x.greatest j.a (rw eb y.over), y.greatest i.a (rw (← eb) x.over))

      same : i ≡ j
      same = λ k. record { a = ea k; b = eb k }

  pub shown_none : shown_overload J ≡ none → (a b : ℕ) → overloaded J a b ≡ false
  shown_none e a b = (not_overfull J) a b ((subst (ShowsAll J) e shows) a b)

  -- an overloaded interval: so one is shown
  pub some_shown : (a b : ℕ) → Overfull J a b → (i : Interval) × (shown_overload J ≡ some i)
  some_shown a b over = go (shown_overload J) refl
    where
      go : (o : Option Interval) → shown_overload J ≡ o → (i : Interval) × (shown_overload J ≡ some i)
      go none e = absurd ((subst (ShowsAll J) e shows) a b over)
      go (some i) e = (i, e)

  pub shown_some : (i : Interval) → shown_overload J ≡ some i → Shown J i
  shown_some i e = subst (ShowsAll J) e shows
