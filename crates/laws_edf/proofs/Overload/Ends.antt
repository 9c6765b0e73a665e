-- An overloaded interval can be cut back to one that starts with a job's release and ends with a job's deadline: where no job of it does,
-- one slot less has the same jobs.
use Prim.Native.Nat.{ℕ, zero, suc, ◌+◌, ◌≤◌, ◌<◌}
use Rattle.std.specs.Prelude.{◌≡◌, Bool, ◌&&◌, eqb}
use Rattle.std.proofs.Math.Path.{refl, sym, ap₂}
use Rattle.std.proofs.Common.{◌∙◌, arith}
use Rattle.std.proofs.Math.Bool.{true, false, and-false}
use Rattle.std.proofs.Math.Decide.{dec_le, dec_lt}
use borrow.Author.Tests.{le-leb, lt-leb, eqb-true, eqb-false}
use Rattle.std.proofs.Math.Dec.{leb}
use Rattle.sched.specs.Bounded.{any_below}
use Rattle.sched.proofs.Bounded.Laws.{by_bool, true_not_false, any_elim, any_none, sum_ext, sum_zero}
use Rattle.sched.specs.Jobs.{Jobs, count, release, deadline, volume}
use Rattle.sched.specs.Checks.{Passes}
use Rattle.steps.specs.Overload.{volume_if, volume_inside}
use Rattle.sched.specs.declared.Interval.{Interval}
use Rattle.steps.specs.Overload.{Overfull, Shown}

-- the volume of a job counts inside a..b, or not

pub counts : (c : Bool) (v : ℕ) → c ≡ true → ◌≡◌ {A = ℕ} (elim c [ true ↦ v | false ↦ 0 ]) v
counts true v e = refl
counts false v e = true_not_false false e refl

pub counts_not : (c : Bool) (v : ℕ) → c ≡ false → ◌≡◌ {A = ℕ} (elim c [ true ↦ v | false ↦ 0 ]) 0
counts_not true v e = true_not_false true refl e
counts_not false v e = refl

module _ (J : Jobs) where
  pub volume_if_inside : (a b j : ℕ) → a ≤ release J j → deadline J j ≤ b → volume_if J a b j ≡ volume J j
  unfolding volume_if
  volume_if_inside a b j l m = counts (leb a (release J j) && leb (deadline J j) b) (volume J j) (rw (le-leb a (release J j) l, le-leb (deadline J j) b m))

  pub volume_early : (a b j : ℕ) → release J j < a → volume_if J a b j ≡ 0
  unfolding volume_if
  volume_early a b j l = counts_not (leb a (release J j) && leb (deadline J j) b) (volume J j) (rw (lt-leb a (release J j) l))

  pub volume_late : (a b j : ℕ) → b < deadline J j → volume_if J a b j ≡ 0
  unfolding volume_if
  volume_late a b j l = counts_not (leb a (release J j) && leb (deadline J j) b) (volume J j) (rw (lt-leb (deadline J j) b l, and-false (leb a (release J j))))

  -- a job is inside two intervals alike where it passes their tests alike
  same_tests : (a b a' b' j : ℕ) → leb a (release J j) ≡ leb a' (release J j) → leb (deadline J j) b ≡ leb (deadline J j) b' → volume_if J a b j ≡ volume_if J a' b' j
  unfolding volume_if
  same_tests a b a' b' j x y = ap₂ (λ (r d : Bool). elim (r && d) [ true ↦ volume J j | false ↦ 0 ]) x y

  -- no job is inside an interval without slots
  empty_inside : Passes J → (a b : ℕ) → b ≤ a → volume_inside J a b ≡ 0
  unfolding volume_inside
  empty_inside p a b e = sum_zero (count J) (volume_if J a b) (λ j l. go j (p.good j l).span (dec_lt (release J j) a))
    where
      go : (j : ℕ) → release J j < deadline J j → Dec (release J j < a) → volume_if J a b j ≡ 0
      go j s (yes l) = volume_early a b j l
      go j s (no l) = volume_late a b j (omega arith)

  -- one slot less at the end has the same jobs inside, where none has its deadline there
  pub end_unused : (a b : ℕ) → ((k : ℕ) → k < count J → eqb (deadline J k) (suc b) ≡ false) → volume_inside J a (suc b) ≡ volume_inside J a b
  unfolding volume_inside
  end_unused a b h = sum_ext (count J) _ _ (λ j l. same_tests a (suc b) a b j refl (test (deadline J j) (eqb-false (deadline J j) (suc b) (h j l)) (dec_le (deadline J j) b)))
    where
      test : (d : ℕ) → (d ≡ suc b → ⊥) → Dec (d ≤ b) → leb d (suc b) ≡ leb d b
      test d n (yes l) = le-leb d (suc b) (omega arith) ∙ sym (le-leb d b l)
      test d n (no l) = lt-leb d (suc b) (omega arith) ∙ sym (lt-leb d b (omega arith))

  cut_end : Passes J → (a b : ℕ) → ((k : ℕ) → k < count J → eqb (deadline J k) (suc b) ≡ false) → Overfull J a (suc b) → Overfull J a b
  cut_end p a b h o = go (dec_lt a b)
    where
      go : Dec (a < b) → Overfull J a b
      go (yes l) = record { span = l; within = omega (arith, o.within); more = omega (arith, o.more, end_unused a b h) }
      go (no l) = absurd (omega (arith, o.more, end_unused a b h, empty_inside p a b (omega arith)))

  -- one slot less at the start has the same jobs inside, where none has its release there
  pub start_unused : (a b : ℕ) → ((k : ℕ) → k < count J → eqb (release J k) a ≡ false) → volume_inside J a b ≡ volume_inside J (suc a) b
  unfolding volume_inside
  start_unused a b h = sum_ext (count J) _ _ (λ j l. same_tests a b (suc a) b j (test (release J j) (eqb-false (release J j) a (h j l)) (dec_lt a (release J j))) refl)
    where
      test : (r : ℕ) → (r ≡ a → ⊥) → Dec (a < r) → leb a r ≡ leb (suc a) r
      test r n (yes l) = le-leb a r (omega arith) ∙ sym (le-leb (suc a) r l)
      test r n (no l) = lt-leb a r (omega arith) ∙ sym (lt-leb (suc a) r (omega arith))

  cut_start : Passes J → (a b : ℕ) → ((k : ℕ) → k < count J → eqb (release J k) a ≡ false) → Overfull J a b → Overfull J (suc a) b
  cut_start p a b h o = go (dec_lt (suc a) b)
    where
      go : Dec (suc a < b) → Overfull J (suc a) b
      go (yes l) = record { span = l; within = o.within; more = omega (arith, o.more, start_unused a b h) }
      go (no l) = absurd (omega (arith, o.more, start_unused a b h, empty_inside p (suc a) b (omega arith)))

  -- an overloaded interval cut back to a job's deadline
  pub to_deadline : Passes J → (a b : ℕ) → Overfull J a b → (k : ℕ) × (k < count J) × (deadline J k ≤ b) × Overfull J a (deadline J k)
  to_deadline p a zero o = absurd (omega (arith, o.span))
  to_deadline p a (suc b) o = by_bool (any_below (count J) (λ k. eqb (deadline J k) (suc b))) here (λ n. earlier (cut_end p a b (any_none (count J) _ n) o) (to_deadline p a b))
    where
      here : any_below (count J) (λ k. eqb (deadline J k) (suc b)) ≡ true → (k : ℕ) × (k < count J) × (deadline J k ≤ suc b) × Overfull J a (deadline J k)
      here e = let r = any_elim (count J) _ e in let q = eqb-true (deadline J r.0) (suc b) r.2 in (r.0, r.1, omega arith, rw q o)

      earlier : Overfull J a b → (Overfull J a b → (k : ℕ) × (k < count J) × (deadline J k ≤ b) × Overfull J a (deadline J k)) → (k : ℕ) × (k < count J) × (deadline J k ≤ suc b) × Overfull J a (deadline J k)
      earlier c ih = let r = ih c in (r.0, r.1, omega (arith, r.2), r.3)

  -- and to a job's release, h slots on at most
  to_release_in : Passes J → (h a b : ℕ) → b ≤ a + h → Overfull J a b → (k : ℕ) × (k < count J) × (a ≤ release J k) × Overfull J (release J k) b
  to_release_in p zero a b m o = absurd (omega (arith, o.span))
  to_release_in p (suc h) a b m o = by_bool (any_below (count J) (λ k. eqb (release J k) a)) here (λ n. later (cut_start p a b (any_none (count J) _ n) o) (to_release_in p h (suc a) b (omega arith)))
    where
      here : any_below (count J) (λ k. eqb (release J k) a) ≡ true → (k : ℕ) × (k < count J) × (a ≤ release J k) × Overfull J (release J k) b
      here e = let r = any_elim (count J) _ e in let q = eqb-true (release J r.0) a r.2 in (r.0, r.1, omega arith, rw q o)

      later : Overfull J (suc a) b → (Overfull J (suc a) b → (k : ℕ) × (k < count J) × (suc a ≤ release J k) × Overfull J (release J k) b) → (k : ℕ) × (k < count J) × (a ≤ release J k) × Overfull J (release J k) b
      later c ih = let r = ih c in (r.0, r.1, omega (arith, r.2), r.3)

  pub to_release : Passes J → (a b : ℕ) → Overfull J a b → (k : ℕ) × (k < count J) × (a ≤ release J k) × Overfull J (release J k) b
  to_release p a b o = to_release_in p b a b (omega arith) o

  -- so the shown interval ends with a job's deadline and starts with a job's release

  pub shown_deadline : Passes J → (i : Interval) → Shown J i → (k : ℕ) × (k < count J) × (deadline J k ≡ i.b)
  shown_deadline p i s = let r = to_deadline p i.a i.b s.over in (r.0, r.1, omega (arith, r.2, s.least i.a (deadline J r.0) r.3))

  pub shown_release : Passes J → (i : Interval) → Shown J i → (k : ℕ) × (k < count J) × (release J k ≡ i.a)
  shown_release p i s = let r = to_release p i.a i.b s.over in (r.0, r.1, omega (arith, r.2, s.greatest (release J r.0) r.3))
