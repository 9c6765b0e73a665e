-- Trying every pair finds the tightest interval, and there is only one.
use Prim.Native.Nat.{ℕ, zero, suc, ◌≤◌, ◌<◌}
use Rattle.std.specs.Prelude.{◌≡◌, Bool, ◌&&◌, ◌||◌, ◌⊎◌, leb, ltb, ℤ, ◌≤ℤ◌, ◌<ℤ◌}
use Rattle.std.proofs.Math.Path.{refl}
use Rattle.std.proofs.Common.{sym, ap, subst, ◌∙◌, inl, inr, arith}
use Rattle.std.proofs.Math.Bool.{true, false}
use borrow.Author.Tests.{lt-ltb, ltb-true, ltb-false, leb-true, leb-false}
use Rattle.std.specs.Int.Signed.{lt_z, le_z, ≤ℤ_refl, clash_ℤ}
use Rattle.sched.proofs.Bounded.Laws.{lt_suc, by_bool, true_not_false, and_true, or_true, or_false}
use Rattle.sched.specs.Jobs.{Jobs, count, release, deadline}
use Rattle.sched.specs.Checks.{Passes}
use Rattle.tightest.specs.declared.Tight.{Tight}
use Rattle.tightest.proofs.Signed.{less_is, less_not, at_most_is, at_most_not, less_at_most, at_most_trans, at_most_both}
use Rattle.tightest.specs.Slack.{slack_of, gauged, tighter, try_pair, try_starts, try_ends, tightest_of, ReleaseToDeadline, IsTightest, Gauged, AsGood}

pub as_good_self : (x : Tight) → AsGood x x
as_good_self x = record { slack = ≤ℤ_refl x.slack; end = λ e. omega arith; start = λ e f. omega arith }

pub as_good_trans : {x y z : Tight} → AsGood x y → AsGood y z → AsGood x z
as_good_trans {x = x} {y = y} {z = z} p q =
    record {
      slack = at_most_trans p.slack q.slack;
      end = λ e. omega (arith, p.end (middle e), q.end (e ∙ sym (middle e)));
      start = λ e f.
          let same : y.b ≡ x.b = omega (arith, p.end (middle e), q.end (e ∙ sym (middle e))) in
          omega (arith, p.start (middle e) same, q.start (e ∙ sym (middle e)) (f ∙ sym same));
    }
  where
    middle : z.slack ≡ x.slack → y.slack ≡ x.slack
    middle e = at_most_both (subst (λ (s : ℤ). y.slack ≤ℤ s) e q.slack) p.slack

-- less slack is enough
pub less_good : {x y : Tight} → x.slack <ℤ y.slack → AsGood x y
less_good {x = x} {y = y} l =
    record { slack = less_at_most l; end = λ e. clash e; start = λ e f. clash e }
  where
    clash : {A : Type 0} → y.slack ≡ x.slack → A
    clash e = clash_ℤ l (subst (λ (s : ℤ). y.slack ≤ℤ s) e (≤ℤ_refl y.slack))

-- `tighter` decides it

pub tighter_good : (x y : Tight) → tighter x y ≡ true → AsGood x y
unfolding tighter
tighter_good x y e = by_slack (or_true (lt_z x.slack y.slack) _ e)
  where
    by_start : x.slack ≤ℤ y.slack → (leb x.b y.b && ltb y.a x.a) ≡ true → AsGood x y
    by_start l f =
        let (end, start) = and_true (leb x.b y.b) (ltb y.a x.a) f in
        record { slack = l; end = λ e. leb-true x.b y.b end; start = λ e f. omega (arith, ltb-true y.a x.a start) }

    by_end : x.slack ≤ℤ y.slack → (ltb x.b y.b ≡ true) ⊎ ((leb x.b y.b && ltb y.a x.a) ≡ true) → AsGood x y
    by_end l (inl f) =
        let sooner = ltb-true x.b y.b f in
        record { slack = l; end = λ e. omega arith; start = λ e g. absurd (omega arith) }
    by_end l (inr f) = by_start l f

    by_slack :
        (lt_z x.slack y.slack ≡ true) ⊎
        ((le_z x.slack y.slack && (ltb x.b y.b || leb x.b y.b && ltb y.a x.a)) ≡ true) → AsGood x y
    by_slack (inl f) = less_good (less_is x.slack y.slack f)
    by_slack (inr f) =
        let (least, rest) = and_true (le_z x.slack y.slack) _ f in
        by_end (at_most_is x.slack y.slack least) (or_true (ltb x.b y.b) _ rest)

pub not_tighter_good : (x y : Tight) → tighter y x ≡ false → AsGood x y
unfolding tighter
not_tighter_good x y e =
    let (more, rest) = or_false (lt_z y.slack x.slack) _ e in
    record {
      slack = less_not y.slack x.slack more;
      end = λ s. ends s (or_false (ltb y.b x.b) _ (and_rest s rest));
      start = λ s f. starts f (or_false (ltb y.b x.b) _ (and_rest s rest));
    }
  where
    and_rest : y.slack ≡ x.slack → (le_z y.slack x.slack && (ltb y.b x.b || leb y.b x.b && ltb x.a y.a)) ≡ false →
        (ltb y.b x.b || leb y.b x.b && ltb x.a y.a) ≡ false
    and_rest s f =
        by_bool (le_z y.slack x.slack)
        (λ t. sym (ap (λ (c : Bool). c && (ltb y.b x.b || leb y.b x.b && ltb x.a y.a)) t) ∙ f)
        (λ t. absurd (at_most_not y.slack x.slack t (subst (λ (z : ℤ). y.slack ≤ℤ z) s (≤ℤ_refl y.slack))))

    ends : y.slack ≡ x.slack → (ltb y.b x.b ≡ false) × ((leb y.b x.b && ltb x.a y.a) ≡ false) → x.b ≤ y.b
    ends s (f, g) = ltb-false y.b x.b f

    starts : y.b ≡ x.b → (ltb y.b x.b ≡ false) × ((leb y.b x.b && ltb x.a y.a) ≡ false) → y.a ≤ x.a
    starts f (g, k) =
        by_bool (ltb x.a y.a)
        (λ t. by_bool (leb y.b x.b) (λ u. true_not_false _ (both u t) k) (λ u. absurd (omega (arith, leb-false y.b x.b u))))
        (λ t. ltb-false x.a y.a t)
      where
        both : {c d : Bool} → c ≡ true → d ≡ true → (c && d) ≡ true
        both u t = rw (u, t)

-- Every pair is tried

module _ (J : Jobs) where
  -- what a try leaves is as good as the best so far, and as good as what was tried
  pair_good : (best : Tight) (a b : ℕ) → AsGood (try_pair J best a b) best × (a < b → AsGood (try_pair J best a b) (gauged J a b))
  unfolding try_pair
  pair_good best a b = go (ltb a b && tighter (gauged J a b) best) refl
    where
      go : (t : Bool) → (ltb a b && tighter (gauged J a b) best) ≡ t →
          AsGood (elim t [ true ↦ gauged J a b | false ↦ best ]) best × (a < b → AsGood (elim t [ true ↦ gauged J a b | false ↦ best ]) (gauged J a b))
      go true e =
          (tighter_good (gauged J a b) best (and_true (ltb a b) (tighter (gauged J a b) best) e).1, λ l. as_good_self (gauged J a b))
      go false e = (
        as_good_self best,
        λ l.
            not_tighter_good best (gauged J a b) (sym (ap (λ (c : Bool). c && tighter (gauged J a b) best) (lt-ltb a b l)) ∙ e),
      )

  pair_gauged : (best : Tight) (i j : ℕ) → i < count J → j < count J → Gauged J best → Gauged J (try_pair J best (release J i) (deadline J j))
  unfolding try_pair
  pair_gauged best i j l m g = go (ltb (release J i) (deadline J j) && tighter (gauged J (release J i) (deadline J j)) best) refl
    where
      go : (t : Bool) → (ltb (release J i) (deadline J j) && tighter (gauged J (release J i) (deadline J j)) best) ≡ t →
          Gauged J (elim t [ true ↦ gauged J (release J i) (deadline J j) | false ↦ best ])
      go true e =
          record {
            spans = record {
              released = (i, l, refl);
              due = (j, m, refl);
              ahead = omega (arith, ltb-true (release J i) (deadline J j) (and_true (ltb (release J i) (deadline J j)) _ e).0);
            };
            slack_is = refl;
          }
      go false e = g

  starts_good : (best : Tight) (k j : ℕ) →
      AsGood (try_starts J best k j) best ×
      ((i : ℕ) → i < k → release J i < deadline J j → AsGood (try_starts J best k j) (gauged J (release J i) (deadline J j)))
  unfolding try_starts
  starts_good best zero j = (as_good_self best, λ i l m. absurd (omega arith))
  starts_good best (suc k) j =
      let (kept, all) = starts_good best k j in
      let (last, tried) = pair_good (try_starts J best k j) (release J k) (deadline J j) in
      (as_good_trans last kept, λ i l m. each last tried all i m (lt_suc l))
    where
      each : AsGood (try_pair J (try_starts J best k j) (release J k) (deadline J j)) (try_starts J best k j) →
          (release J k < deadline J j → AsGood (try_pair J (try_starts J best k j) (release J k) (deadline J j)) (gauged J (release J k) (deadline J j))) →
          ((i : ℕ) → i < k → release J i < deadline J j → AsGood (try_starts J best k j) (gauged J (release J i) (deadline J j))) →
          (i : ℕ) → release J i < deadline J j → (i < k) ⊎ (i ≡ k) →
          AsGood (try_pair J (try_starts J best k j) (release J k) (deadline J j)) (gauged J (release J i) (deadline J j))
      each last tried all i m (inl l) = as_good_trans last (all i l m)
      each last tried all i m (inr e) = rw e (tried (rw (← e) m))

  starts_gauged : (best : Tight) (k j : ℕ) → k ≤ count J → j < count J → Gauged J best → Gauged J (try_starts J best k j)
  unfolding try_starts
  starts_gauged best zero j l m g = g
  starts_gauged best (suc k) j l m g = pair_gauged (try_starts J best k j) k j (omega arith) m (starts_gauged best k j (omega arith) m g)

  ends_good : (best : Tight) (k : ℕ) →
      AsGood (try_ends J best k) best ×
      ((i j : ℕ) → i < count J → j < k → release J i < deadline J j → AsGood (try_ends J best k) (gauged J (release J i) (deadline J j)))
  unfolding try_ends
  ends_good best zero = (as_good_self best, λ i j l m. absurd (omega arith))
  ends_good best (suc k) =
      let (kept, all) = ends_good best k in
      let (last, tried) = starts_good (try_ends J best k) (count J) k in
      (as_good_trans last kept, λ i j l m n. each last tried all i j l n (lt_suc m))
    where
      each : AsGood (try_starts J (try_ends J best k) (count J) k) (try_ends J best k) →
          ((i : ℕ) → i < count J → release J i < deadline J k → AsGood (try_starts J (try_ends J best k) (count J) k) (gauged J (release J i) (deadline J k))) →
          ((i j : ℕ) → i < count J → j < k → release J i < deadline J j → AsGood (try_ends J best k) (gauged J (release J i) (deadline J j))) →
          (i j : ℕ) → i < count J → release J i < deadline J j → (j < k) ⊎ (j ≡ k) →
          AsGood (try_starts J (try_ends J best k) (count J) k) (gauged J (release J i) (deadline J j))
      each last tried all i j l n (inl m) = as_good_trans last (all i j l m n)
      each last tried all i j l n (inr e) = rw e (tried i l (rw (← e) n))

  ends_gauged : (best : Tight) (k : ℕ) → k ≤ count J → Gauged J best → Gauged J (try_ends J best k)
  unfolding try_ends
  ends_gauged best zero l g = g
  ends_gauged best (suc k) l g = starts_gauged (try_ends J best k) (count J) k (omega arith) (omega arith) (ends_gauged best k (omega arith) g)

  -- an interval that is as good as each is the tightest
  pub best_tightest : (x : Tight) → Gauged J x → ((a b : ℕ) → ReleaseToDeadline J a b → AsGood x (gauged J a b)) → IsTightest J x
  best_tightest x g best =
      record {
        spans = g.spans;
        slack_is = g.slack_is;
        least = λ a b s. (best a b s).slack;
        least_end = λ a b s e. (best a b s).end e;
        greatest_start = λ a s e. (best a x.b s).start e refl;
      }

  pub tightest_found : Passes J → 0 < count J → IsTightest J (tightest_of J)
  unfolding tightest_of
  tightest_found p some =
      best_tightest (try_ends J first (count J))
      (ends_gauged first (count J) (omega arith)
      (record { spans = record { released = (0, some, refl); due = (0, some, refl); ahead = omega (arith, (p.good 0 some).span) }; slack_is = refl }))
      (λ a b s. tried a b s s.released s.due)
    where
      first : Tight
      first = gauged J (release J 0) (deadline J 0)

      tried : (a b : ℕ) → ReleaseToDeadline J a b → (i : ℕ) × (i < count J) × (release J i ≡ a) → (j : ℕ) × (j < count J) × (deadline J j ≡ b) →
          AsGood (try_ends J first (count J)) (gauged J a b)
      tried a b s (i, l, e) (j, m, f) = rw (← e) (rw (← f) ((ends_good first (count J)).1 i j l m (omega (arith, s.ahead, e, f))))

  -- there is only one
  pub tightest_one : (x y : Tight) → IsTightest J x → IsTightest J y → x ≡ y
  tightest_one x y p q = λ k. record { slack = slacks k; a = starts k; b = ends k }
    where
      slacks : x.slack ≡ y.slack
      slacks =
          at_most_both (rw q.slack_is (p.least y.a y.b q.spans)) (rw p.slack_is (q.least x.a x.b p.spans))

      ends : x.b ≡ y.b
      ends =
          omega (
            arith,
            p.least_end y.a y.b q.spans (sym q.slack_is ∙ sym slacks),
            q.least_end x.a x.b p.spans (sym p.slack_is ∙ slacks),
          )

      starts : x.a ≡ y.a
      starts =
          omega (
            arith,
            p.greatest_start y.a (rw ends q.spans) (ap (slack_of J y.a) ends ∙ sym q.slack_is ∙ sym slacks),
            q.greatest_start x.a (rw (← ends) p.spans) (ap (slack_of J x.a) (sym ends) ∙ sym p.slack_is ∙ slacks),
          )
