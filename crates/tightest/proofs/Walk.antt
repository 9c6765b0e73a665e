-- The walk to one end b: the jobs by release, from the last before b to the first, and what holds on the way. The interval so far may reach less far than it
-- will, as long as jobs of its release are still to come.
use Prim.Native.Nat.{ℕ, zero, suc, ◌+◌, ◌-◌, ◌≤◌, ◌<◌}
use mathlib.Core.Path.{◌≡◌, refl, sym, ap, subst, ◌∙◌}
use mathlib.Core.List.{List}
use mathlib.Core.Logic.{◌⊎◌, inl, inr}
use native.Mathlib.Omega.{arith}
use native.Mathlib.Decide.{dec_lt, dec_le, ℕ_discrete}
use lib.IntN.{ℤ, pos, ◌-ℤ◌}
use lib.Signed.{◌≤ℤ◌, ≤ℤ_refl, clash_ℤ}
use Rattle.sched.specs.Bounded.{sum_below}
use Rattle.sched.proofs.Bounded.Laws.{sum_zero}
use Rattle.sched.specs.Jobs.{Jobs, count, release, deadline, volume}
use Rattle.sched.specs.Checks.{Passes}
use Rattle.steps.specs.Overload.{volume_if, volume_inside}
use Rattle.laws_edf.specs.Orders.{Sorted, job_at}
use Rattle.laws_edf.proofs.Overload.Ends.{volume_if_inside, volume_early, volume_late}
use Rattle.tightest.proofs.Signed.{until_same, until_at_most, until_less}
use Rattle.tightest.specs.Slack.{slack_of, ReleaseToDeadline}
use Rattle.tightest.specs.Search.{Visits, TightestTo}

module _ (J : Jobs) (order : List ℕ) (b : ℕ) where
  -- the release at a place of the order
  abbrev pub release_at : ℕ → ℕ
  release_at k = release J (job_at order k)

  -- how far work in one piece from a reaches
  abbrev pub reach : ℕ → ℕ
  reach a = a + volume_inside J a b

  -- the jobs from place `at` on are visited: `sum` is the volume of those due by b, and no release of which no job is still to come reaches further than
  -- `until`, nor just as far if it lies behind a
  pub record WalkedTo (at sum a until : ℕ) : Type 0 where
    pub within : at ≤ count J
    pub inside : (x : ℕ) → ((k : ℕ) → at ≤ k → k < count J → x ≤ release_at k) → volume_inside J x b ≡ sum + sum_below at (λ k. volume_if J x b (job_at order k))
    pub sooner : (k : ℕ) → k < at → release_at k ≤ a
    pub less_far : (k : ℕ) → k < at → release_at k + sum ≤ until
    pub spans : ReleaseToDeadline J a b
    pub fair : until ≤ reach a
    pub furthest : (k : ℕ) → at ≤ k → k < count J → release_at k < b → ((i : ℕ) → i < at → release_at i < release_at k) →
        (reach (release_at k) ≤ until) × (reach (release_at k) ≡ until → release_at k ≤ a)

-- a sum ends where only 0 follows
sum_front : (n c : ℕ) (f : ℕ → ℕ) → n ≤ c → ((k : ℕ) → n ≤ k → k < c → f k ≡ 0) → sum_below c f ≡ sum_below n f
unfolding sum_below
sum_front n zero f l h = let z : 0 ≡ n = omega arith in ap (λ (m : ℕ). sum_below m f) z
sum_front n (suc c) f l h = go (dec_le n c) (sum_front n c f)
  where
    go : Dec (n ≤ c) → (n ≤ c → ((k : ℕ) → n ≤ k → k < c → f k ≡ 0) → sum_below c f ≡ sum_below n f) → sum_below (suc c) f ≡ sum_below n f
    go (yes m) ih = omega (arith, ih m (λ k o q. h k o (omega arith)), h c m (omega arith))
    go (no m) ih = let z : suc c ≡ n = omega arith in ap (λ (i : ℕ). sum_below i f) z

module _ (J : Jobs) (p : Passes J) (order : List ℕ) (s : Sorted (count J) (release J) order)
    (sums : (f : ℕ → ℕ) → sum_below (count J) (λ k. f (job_at order k)) ≡ sum_below (count J) f)
    (b : ℕ) (ends : (j : ℕ) × (j < count J) × (deadline J j ≡ b)) where
  -- places behind another have no earlier release
  rising : (m k : ℕ) → m ≤ k → k < count J → release_at J order b m ≤ release_at J order b k
  rising m k l n = go (ℕ_discrete m k)
    where
      go : Dec (m ≡ k) → release_at J order b m ≤ release_at J order b k
      go (yes e) = omega (arith, ap (release_at J order b) e)
      go (no e) = (s.rising m k (omega arith) n).sooner

  -- the first n jobs are released before b, the others not, and so are not due by b
  pub walk_start : (n : ℕ) → 0 < n → n ≤ count J → release_at J order b (n - 1) < b → ((k : ℕ) → n ≤ k → k < count J → b ≤ release_at J order b k) →
      WalkedTo J order b n 0 (release_at J order b (n - 1)) (release_at J order b (n - 1))
  unfolding volume_inside
  walk_start n some within last rest =
      record {
        within = within;
        inside = λ x l. omega (arith, sums (volume_if J x b), sum_front n (count J) (λ k. volume_if J x b (job_at order k)) within (λ k m o. late x k m o));
        sooner = λ k l. rising k (n - 1) (omega arith) (omega arith);
        less_far = λ k l. omega (arith, rising k (n - 1) (omega arith) (omega arith));
        spans = record { released = (job_at order (n - 1), s.known (n - 1) (omega arith), refl); due = ends; ahead = last };
        fair = omega arith;
        furthest = λ k l m o. absurd (omega (arith, rest k l m));
      }
    where
      late : (x k : ℕ) → n ≤ k → k < count J → volume_if J x b (job_at order k) ≡ 0
      late x k m o = volume_late J x b (job_at order k) (omega (arith, rest k m o, (p.good (job_at order k) (s.known k o)).span))

  -- one job more, which adds the same to the volume inside from its release or any before it
  module _ (m sum a until : ℕ) (w : WalkedTo J order b (suc m) sum a until)
      (due : ℕ) (adds : (x : ℕ) → x ≤ release_at J order b m → volume_if J x b (job_at order m) ≡ due) where
    abbrev r : ℕ
    r = release_at J order b m

    here : m < count J
    here = omega (arith, w.within)

    inside' : (x : ℕ) → ((k : ℕ) → m ≤ k → k < count J → x ≤ release_at J order b k) → volume_inside J x b ≡ sum + due + sum_below m (λ k. volume_if J x b (job_at order k))
    unfolding sum_below
    inside' x l = omega (arith, w.inside x (λ k n o. l k (omega arith) o), adds x (l m (omega arith) here))

    -- from r work reaches so far, and no further if no job of this release is still to come

    reaches : r + (sum + due) ≤ reach J order b r
    reaches = omega (arith, inside' r (λ k n o. rising m k n o))

    reaches_just : ((i : ℕ) → i < m → release_at J order b i < r) → reach J order b r ≡ r + (sum + due)
    reaches_just earlier =
        omega (
          arith,
          inside' r (λ k n o. rising m k n o),
          sum_zero m (λ k. volume_if J r b (job_at order k)) (λ i l. volume_early J r b (job_at order i) (earlier i l)),
        )

    -- a release of which no job is still to come is r, or was so before
    settled : (k : ℕ) → m ≤ k → k < count J → ((i : ℕ) → i < m → release_at J order b i < release_at J order b k) →
        (release_at J order b k ≡ r) ⊎ ((suc m ≤ k) × ((i : ℕ) → i < suc m → release_at J order b i < release_at J order b k))
    settled k l n earlier = go (dec_lt r (release_at J order b k))
      where
        each : r < release_at J order b k → (i : ℕ) → i < suc m → Dec (i ≡ m) → release_at J order b i < release_at J order b k
        each h i o (yes e) = omega (arith, ap (release_at J order b) e)
        each h i o (no e) = earlier i (omega arith)

        later : r < release_at J order b k → Dec (k ≡ m) → suc m ≤ k
        later h (yes e) = absurd (omega (arith, ap (release_at J order b) e))
        later h (no e) = omega arith

        go : Dec (r < release_at J order b k) →
            (release_at J order b k ≡ r) ⊎ ((suc m ≤ k) × ((i : ℕ) → i < suc m → release_at J order b i < release_at J order b k))
        go (yes h) = inr (later h (ℕ_discrete k m), λ i o. each h i o (ℕ_discrete i m))
        go (no h) = inl (omega (arith, rising m k l n))

    -- the same for the release of each place, from the same for r
    at_last : (top start : ℕ) → until ≤ top → (until ≡ top → a ≤ start) →
        (((i : ℕ) → i < m → release_at J order b i < r) → (reach J order b r ≤ top) × (reach J order b r ≡ top → r ≤ start)) →
        (k : ℕ) → m ≤ k → k < count J → release_at J order b k < b → ((i : ℕ) → i < m → release_at J order b i < release_at J order b k) →
        (reach J order b (release_at J order b k) ≤ top) × (reach J order b (release_at J order b k) ≡ top → release_at J order b k ≤ start)
    at_last top start up keeps here k l n o earlier = go (settled k l n earlier)
      where
        go : (release_at J order b k ≡ r) ⊎ ((suc m ≤ k) × ((i : ℕ) → i < suc m → release_at J order b i < release_at J order b k)) →
            (reach J order b (release_at J order b k) ≤ top) × (reach J order b (release_at J order b k) ≡ top → release_at J order b k ≤ start)
        go (inl e) = subst (λ (x : ℕ). (reach J order b x ≤ top) × (reach J order b x ≡ top → x ≤ start)) (sym e) (here (λ i l. omega (arith, earlier i l, e)))
        go (inr (later, before)) =
            let (far, ties) = w.furthest k later n o before in
            (omega arith, λ e. omega (arith, ties (omega arith), keeps (omega arith)))

    pub walk_further : until < r + (sum + due) → WalkedTo J order b m (sum + due) r (r + (sum + due))
    walk_further l =
        record {
          within = omega (arith, w.within);
          inside = inside';
          sooner = λ k n. rising k m (omega arith) here;
          less_far = λ k n. omega (arith, rising k m (omega arith) here);
          spans = record { released = (job_at order m, s.known m here, refl); due = ends; ahead = omega (arith, w.sooner m (omega arith), w.spans.ahead) };
          fair = reaches;
          furthest = at_last (r + (sum + due)) r (omega arith) (λ e. absurd (omega arith))
              (λ earlier. (omega (arith, reaches_just earlier), λ e. omega arith));
        }

    pub walk_kept : r + (sum + due) ≤ until → WalkedTo J order b m (sum + due) a until
    walk_kept l =
        record {
          within = omega (arith, w.within);
          inside = inside';
          sooner = λ k n. w.sooner k (omega arith);
          less_far = λ k n. omega (arith, rising k m (omega arith) here);
          spans = w.spans;
          fair = w.fair;
          furthest = at_last until a (omega arith) (λ e. omega arith)
              (λ earlier. (omega (arith, reaches_just earlier), λ e. w.sooner m (omega arith)));
        }

  pub walk_visit : (m sum a until sum' a' until' : ℕ) → WalkedTo J order b (suc m) sum a until →
      Visits b (release_at J order b m) (deadline J (job_at order m)) (volume J (job_at order m)) sum a until sum' a' until' → WalkedTo J order b m sum' a' until'
  walk_visit m sum a until sum' a' until' w v = go (dec_le (deadline J (job_at order m)) b)
    where
      to : {x y z : ℕ} → sum' ≡ x → a' ≡ y → until' ≡ z → WalkedTo J order b m x y z → WalkedTo J order b m sum' a' until'
      to e f g w' = rw (e, f, g) w'

      go : Dec (deadline J (job_at order m) ≤ b) → WalkedTo J order b m sum' a' until'
      go (yes l) = by_reach (dec_lt until (release_at J order b m + (sum + volume J (job_at order m))))
        where
          adds : (x : ℕ) → x ≤ release_at J order b m → volume_if J x b (job_at order m) ≡ volume J (job_at order m)
          adds x n = volume_if_inside J x b (job_at order m) n l

          by_reach : Dec (until < release_at J order b m + (sum + volume J (job_at order m))) → WalkedTo J order b m sum' a' until'
          by_reach (yes h) =
              let (start, far) = v.further l h in
              to (v.sum_is l) start far (walk_further m sum a until w (volume J (job_at order m)) adds h)
          by_reach (no h) =
              let (start, far) = v.kept l (omega arith) in
              to (v.sum_is l) start far (walk_kept m sum a until w (volume J (job_at order m)) adds (omega arith))
      go (no l) =
          let (all, start, far) = v.late (omega arith) in
          to (all ∙ sym (zero_more sum)) start far
          (walk_kept m sum a until w 0 (λ x n. volume_late J x b (job_at order m) (omega arith)) (omega (arith, w.less_far m (omega arith))))
        where
          zero_more : (n : ℕ) → n + 0 ≡ n
          zero_more n = omega arith

  pub walk_end : (sum a until : ℕ) → WalkedTo J order b 0 sum a until → TightestTo J b (record { slack = pos b -ℤ pos until; a = a; b = b })
  unfolding slack_of
  walk_end sum a until w =
      record {
        gauged_is = record { spans = w.spans; slack_is = until_same a b (volume_inside J a b) until (omega (arith, w.fair, (each a w.spans).0)) };
        end_is = refl;
        best = λ x spans.
            let (far, ties) = each x spans in
            record {
              slack = until_at_most x b (volume_inside J x b) until far;
              end = λ e. omega arith;
              start = λ e f. ties (just x far e);
            };
      }
    where
      each : (x : ℕ) → ReleaseToDeadline J x b → (reach J order b x ≤ until) × (reach J order b x ≡ until → x ≤ a)
      each x spans =
          let (i, l, e) = spans.released in
          let (k, n, f) = s.all i l in
          let q : release_at J order b k ≡ x = ap (release J) f ∙ e in
          subst (λ (y : ℕ). (reach J order b y ≤ until) × (reach J order b y ≡ until → y ≤ a)) q
          (w.furthest k (omega arith) n (omega (arith, q, spans.ahead)) (λ i l. absurd (omega arith)))

      just : (x : ℕ) → reach J order b x ≤ until → slack_of J x b ≡ pos b -ℤ pos until → reach J order b x ≡ until
      just x far e = go (dec_lt (reach J order b x) until)
        where
          go : Dec (reach J order b x < until) → reach J order b x ≡ until
          go (yes l) =
              clash_ℤ (until_less x b (volume_inside J x b) until l) (subst (λ (z : ℤ). slack_of J x b ≤ℤ z) e (≤ℤ_refl (slack_of J x b)))
          go (no l) = omega arith
