-- The interval that 01 shows is the one that `Shown` describes, and there is one exactly where an interval is overloaded.
use Rattle.std.specs.Prelude.{ℕ, ◌-◌, ◌≤◌, ◌<◌, ◌≡◌, Bool, true, false, ◌&&◌, ltb}
use Rattle.std.proofs.Math.Path.{refl}
use Rattle.std.proofs.Common.{ap, subst, arith}
use Rattle.std.proofs.Math.Option.{Option, none, some}
use Rattle.std.proofs.Math.Decide.{dec_lt}
use borrow.Author.Tests.{ltb-true, leb-true, lt-ltb, le-leb}
use Rattle.std.proofs.Math.Dec.{leb}
use Rattle.sched.specs.Bounded.{any_below, least_from, last_below}
use Rattle.sched.proofs.Bounded.Laws.{by_bool, true_not_false, and_true, any_intro, any_elim, LeastIn, least_some, least_none, Last, last_some, last_none}
use Rattle.sched.specs.Jobs.{Jobs}
use Rattle.steps.specs.Overload.{overloaded, volume_inside, overload_ending_at, shown_overload}
use Rattle.sched.specs.declared.Interval.{Interval}
use Rattle.steps.specs.Overload.{Overfull, Shown}
use Rattle.laws_edf.specs.Overload.{ShowsAll}

module _ (J : Jobs) where
  pub overfull : (a b : ℕ) → overloaded J a b ≡ true → Overfull J a b
  unfolding overloaded
  overfull a b e =
      let s = and_true (ltb a b && leb b J.horizon) (ltb (b - a) (volume_inside J a b)) e in
      let t = and_true (ltb a b) (leb b J.horizon) s.0 in
      record { span = ltb-true a b t.0; within = leb-true b J.horizon t.1; more = ltb-true (b - a) (volume_inside J a b) s.1 }

  pub overfull_overloaded : (a b : ℕ) → Overfull J a b → overloaded J a b ≡ true
  unfolding overloaded
  overfull_overloaded a b o =
      rw (lt-ltb a b o.span, le-leb b J.horizon o.within, lt-ltb (b - a) (volume_inside J a b) o.more)

  pub not_overfull : (a b : ℕ) → (Overfull J a b → ⊥) → overloaded J a b ≡ false
  not_overfull a b n = by_bool (overloaded J a b) (λ t. absurd (n (overfull a b t))) (λ f. f)

  -- some overloaded interval ends at b
  unfoldable pub ends_at : ℕ → Bool
  ends_at b = any_below b (λ a. overloaded J a b)

  pub ends_at_lem : (a b : ℕ) → Overfull J a b → ends_at b ≡ true
  unfolding ends_at
  ends_at_lem a b o = any_intro b _ a o.span (overfull_overloaded a b o)

  pub shows_start : (b : ℕ) → LeastIn 1 J.horizon ends_at b → (o : Option ℕ) → last_below b (λ a. overloaded J a b) ≡ o → ShowsAll J (elim o [ none ↦ none | some a ↦ some (record { a = a; b = b }) ])
  unfolding ends_at
  shows_start b first none e =
      let r = any_elim b _ first.holds in
      true_not_false (overloaded J r.0 b) r.2 (last_none b _ e r.0 r.1)
  shows_start b first (some a) e = record { over = overfull a b l.holds; least = least; greatest = greatest }
    where
      l : Last b (λ a. overloaded J a b) a
      l = last_some b _ a e

      least : (x y : ℕ) → Overfull J x y → b ≤ y
      least x y o = go (dec_lt y b)
        where
          go : Dec (y < b) → b ≤ y
          go (yes m) = true_not_false (ends_at y) (ends_at_lem x y o) (first.first y (omega (arith, o.span)) m)
          go (no m) = omega arith

      greatest : (x : ℕ) → Overfull J x b → x ≤ a
      greatest x o = go (dec_lt a x)
        where
          go : Dec (a < x) → x ≤ a
          go (yes m) = true_not_false (overloaded J x b) (overfull_overloaded x b o) (l.last x m o.span)
          go (no m) = omega arith
