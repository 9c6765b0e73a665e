-- The walk of the code, for every list with these lists, and what it may read on the way.
use Prim.Native.Nat.{ℕ, suc, ◌+◌, ◌-◌, ◌*◌, ◌≤◌, ◌<◌}
use mathlib.Core.Path.{◌≡◌, refl, sym, ap, subst, ◌∙◌}
use mathlib.Core.List.{List}
use native.Mathlib.Omega.{arith}
use native.Mathlib.Decide.{dec_lt, dec_le}
use lib.ListN.{length, get_or}
use lib.IntN.{pos, ◌-ℤ◌}
use Rattle.sched.specs.Bounded.{sum_below}
use Rattle.sched.specs.Jobs.{Jobs, count, release, deadline}
use Rattle.laws_edf.specs.Orders.{Sorted, job_at}
use Rattle.orders.specs.Rising.{rising_by, key_of}
use Rattle.orders.specs.Rising.Members.{rising_sorted}
use Rattle.orders.specs.Views.Falling.{places_sum}
use Rattle.orders.specs.Lists.{ListsOf, release_is, deadline_is, volume_is}
use Rattle.tightest.specs.Search.{widest, Arranged, EndsAt, Startable, CountsBefore, Visits, TightestTo}
use Rattle.tightest.proofs.Walk.{WalkedTo, walk_start, walk_visit, walk_end}

module _ {releases deadlines volumes order : List ℕ} (a : Arranged releases deadlines volumes order) where
  -- the jobs of any list with these lists, by release
  module _ {J : Jobs} (p : ListsOf J releases deadlines volumes) where
    order_of : order ≡ rising_by (release J) (count J)
    order_of = a.order_is ∙ ap (λ (l : List ℕ). rising_by (key_of l) (length l)) (sym p.releases_are)

    sorted : Sorted (count J) (release J) order
    sorted = subst (Sorted (count J) (release J)) (sym order_of) (rising_sorted (release J) (count J))

    sums : (f : ℕ → ℕ) → sum_below (count J) (λ k. f (job_at order k)) ≡ sum_below (count J) f
    sums f = ap (λ (l : List ℕ). sum_below (count J) (λ k. f (job_at l k))) order_of ∙ places_sum (release J) f (count J)

    few : count J ≡ length releases
    few = ap length p.releases_are

    ending : {b : ℕ} → EndsAt deadlines b → (j : ℕ) × (j < count J) × (deadline J j ≡ b)
    ending (j, l, e) = (j, omega (arith, p.passes.same_deadlines, ap length p.deadlines_are), deadline_is p j ∙ e)

  given : ListsOf (widest releases deadlines volumes) releases deadlines volumes
  given = record { passes = a.passes; releases_are = refl; deadlines_are = refl; volumes_are = refl }

  order_long : length order ≡ length releases
  order_long = (sorted given).long ∙ few given

  pub known_at : (k : ℕ) → k < length order → get_or order k 0 < length releases
  known_at k l = omega (arith, (sorted given).known k (omega (arith, order_long, few given)), few given)

  -- each of the three lists has an entry for it

  pub due_at : (k : ℕ) → k < length order → get_or order k 0 < length deadlines
  due_at k l = omega (arith, known_at k l, given.passes.same_deadlines, few given, ap length given.deadlines_are)

  pub volume_at : (k : ℕ) → k < length order → get_or order k 0 < length volumes
  volume_at k l = omega (arith, known_at k l, given.passes.same_volumes, few given, ap length given.volumes_are)

  -- the job that is due at b is released before
  pub startable : {b : ℕ} → EndsAt deadlines b → Startable releases order b
  startable {b = b} e =
      let (j, l, due) = ending given e in
      let (k, m, q) = (sorted given).all j l in
      record {
        known = known_at;
        place = k;
        below = omega (arith, order_long, few given);
        sooner = omega (arith, ap (λ (i : ℕ). get_or releases i 0) q, release_is given j, (given.passes.good j l).span);
      }

pub last_place : {releases order : List ℕ} {b n : ℕ} → CountsBefore releases order b n → n - 1 < length order
last_place c = omega (arith, c.some, c.within)

-- the jobs from place `at` on are visited, and the numbers stay small
pub record Walking (releases deadlines volumes order : List ℕ) (b at sum a until : ℕ) : Type 0 where
  pub arranged : Arranged releases deadlines volumes order
  pub ends : EndsAt deadlines b
  pub within : at ≤ length order
  pub small : sum ≤ 65535 * (length order - at)
  pub near : until ≤ 4096 + sum
  pub walked : (J : Jobs) → ListsOf J releases deadlines volumes → WalkedTo J order b at sum a until

-- a release is at most 4,096
low : {releases deadlines volumes order : List ℕ} → Arranged releases deadlines volumes order → (k : ℕ) → k < length order → get_or releases (get_or order k 0) 0 ≤ 4096
low {order = order} a k l =
    let p = given a in
    let good = p.passes.good (get_or order k 0) (omega (arith, known_at a k l, few a p)) in
    omega (arith, good.span, good.within, p.passes.high, release_is p (get_or order k 0))

pub walking_start :
    {releases deadlines volumes order : List ℕ} {b n : ℕ} → Arranged releases deadlines volumes order → EndsAt deadlines b → CountsBefore releases order b n →
    {last : ℕ} → last ≡ get_or releases (get_or order (n - 1) 0) 0 → Walking releases deadlines volumes order b n 0 last last
walking_start {releases = releases} {deadlines = deadlines} {volumes = volumes} {order = order} {b = b} {n = n} a ends c {last = last} e =
    record {
      arranged = a;
      ends = ends;
      within = c.within;
      small = omega arith;
      near = omega (arith, e, low a (n - 1) (last_place c));
      walked = λ J p.
          let s : (k : ℕ) → release J (job_at order k) ≡ get_or releases (get_or order k 0) 0 = λ k. release_is p (job_at order k) in
          let first = s (n - 1) ∙ sym e in
          subst (λ (x : ℕ). WalkedTo J order b n 0 x x) first
          (walk_start J p.passes order (sorted a p) (sums a p) b (ending a p ends) n c.some (omega (arith, c.within, order_long a, few a p))
          (omega (arith, c.last, s (n - 1))) (λ k l m. omega (arith, c.rest k l (omega (arith, order_long a, few a p)), s k)));
    }

module _ {releases deadlines volumes order : List ℕ} {b at sum a until : ℕ} (w : Walking releases deadlines volumes order b at sum a until) where
  -- the sum stays small
  pub walking_sum : sum ≤ 4194240
  walking_sum =
      let p = given w.arranged in
      omega (arith, w.small, w.within, order_long w.arranged, few w.arranged p, p.passes.few)

  pub walking_until : until < 2147483648
  walking_until = omega (arith, w.near, walking_sum)

  pub walking_end : at ≤ 0 → (J : Jobs) → ListsOf J releases deadlines volumes → TightestTo J b (record { slack = pos b -ℤ pos until; a = a; b = b })
  walking_end l J p =
      let z : at ≡ 0 = omega arith in
      walk_end J p.passes order (sorted w.arranged p) (sums w.arranged p) b (ending w.arranged p w.ends) sum a until
      (subst (λ (k : ℕ). WalkedTo J order b k sum a until) z (w.walked J p))

  module _ (more : 0 < at) where
    pub walking_place : at - 1 < length order
    walking_place = omega (arith, w.within)

    abbrev job : ℕ
    job = get_or order (at - 1) 0

    pub walking_visit :
        {sum' a' until' : ℕ} → get_or volumes job 0 < 65536 →
        Visits b (get_or releases job 0) (get_or deadlines job 0) (get_or volumes job 0) sum a until sum' a' until' →
        Walking releases deadlines volumes order b (at - 1) sum' a' until'
    walking_visit {sum' = sum'} {a' = a'} {until' = until'} low_volume v =
        record {
          arranged = w.arranged;
          ends = w.ends;
          within = omega (arith, w.within);
          small = by_due (dec_le (get_or deadlines job 0) b);
          near = near' (dec_le (get_or deadlines job 0) b) (dec_lt until (get_or releases job 0 + (sum + get_or volumes job 0)));
          walked = λ J p.
              let up : at ≡ suc (at - 1) = omega arith in
              walk_visit J p.passes order (sorted w.arranged p) (sums w.arranged p) b (ending w.arranged p w.ends) (at - 1) sum a until sum' a' until'
              (subst (λ (k : ℕ). WalkedTo J order b k sum a until) up (w.walked J p))
              (rw (release_is p job, deadline_is p job, volume_is p job) v);
        }
      where
        by_due : Dec (get_or deadlines job 0 ≤ b) → sum' ≤ 65535 * (length order - (at - 1))
        by_due (yes l) = omega (arith, v.sum_is l, w.small, w.within)
        by_due (no l) = let (same, start, far) = v.late (omega arith) in omega (arith, w.small, w.within)

        near' : Dec (get_or deadlines job 0 ≤ b) → Dec (until < get_or releases job 0 + (sum + get_or volumes job 0)) → until' ≤ 4096 + sum'
        near' (yes l) (yes h) = let (start, far) = v.further l h in omega (arith, v.sum_is l, low w.arranged (at - 1) walking_place)
        near' (yes l) (no h) = let (start, far) = v.kept l (omega arith) in omega (arith, v.sum_is l, w.near)
        near' (no l) h = let (same, start, far) = v.late (omega arith) in omega (arith, w.near)
