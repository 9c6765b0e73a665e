-- An event of the pass: the lowest rank that waits is served, until the next one comes or until its last unit.
use Prim.Native.Nat.{ℕ, ◌+◌, ◌-◌, ◌^◌, ◌≤◌, ◌<◌}
use mathlib.Core.Path.{◌≡◌, refl, sym, ap, subst, ◌∙◌}
use mathlib.Core.Bool.{Bool, true}
use mathlib.Core.List.{List}
use mathlib.Core.Logic.{◌⊎◌, inl, inr, ◌≢◌}
use native.Mathlib.Decide.{ℕ_discrete}
use native.Mathlib.Omega.{arith}
use lib.ListN.{length, get_or, set, length-set}
use lib.Seq.{get_or-set_same, get_or-set_other}
use lib.Count.{count_trailing_zeros}
use Rattle.sched.specs.Bounded.{sum_below}
use Rattle.sched.specs.Jobs.{Jobs, count, release, deadline}
use Rattle.laws_edf.specs.Search.{state_of}
use Rattle.laws_edf.specs.Orders.{Sorted, job_at, rank_release}
use Rattle.laws_edf.proofs.Orders.Laws.{places_differ}
use Rattle.laws_edf.specs.Overload.Late.{Ran, Stint}
use Rattle.laws_edf.specs.Units.{sum_more}
use Rattle.laws_edf.proofs.Overload.Late.Laws.{ran_stint}
use Rattle.queue.specs.Arrivals.{waits}
use Rattle.queue.specs.Mask.{mask}
use Rattle.queue.specs.Mask.Laws.{Joins, mask_joins, mask_alike}
use Rattle.step1_overload.specs.Pass.{EndAfter, never, PassAt, Turned}
use Rattle.step1_overload.proofs.Waiting.{waits_come, waits_units, waits_if, waits_not, LeastOf, lowest_bit}
use Rattle.step1_overload.proofs.ToCome.{list_of, Waits, still}
use Rattle.orders.specs.declared.ordered_jobs.OrderedJobs.{OrderedJobs}
use Rattle.step1_overload.specs.declared.Pass.{Pass}

module _
    {jobs : OrderedJobs} {h q : ℕ} {start : Bool} {volumes left : List ℕ} {p : Pass} (s : PassAt (list_of jobs h q start volumes) jobs left p)
    (more : p.t < never) (some_bit : p.waiting ≡ 0 → ⊥) where
  abbrev J : Jobs
  J = list_of jobs h q start volumes

  few : count J ≤ 64
  few = s.passes.few

  arriving : Sorted (count J) (rank_release J.releases jobs.ranks.now) jobs.arrivals.now
  arriving = jobs.orders.by_release

  sorted : Sorted (count J) (deadline J) jobs.ranks.now
  sorted = jobs.orders.by_deadline

  abbrev low : ℕ
  low = count_trailing_zeros 64 p.waiting

  abbrev job : ℕ
  job = job_at jobs.ranks.now (count_trailing_zeros 64 p.waiting)

  -- the ranks that wait when these units are left
  abbrev waiting : List ℕ → ℕ → Bool
  waiting units = waits jobs.ranks.now jobs.arrivals.now p.next 0 (state_of units)

  lowest : LeastOf (waiting left) (count J) p.waiting few s.came.bits_are low
  lowest = lowest_bit (waiting left) (count J) p.waiting few s.came.bits_are some_bit

  known : job < count J
  known = sorted.known low lowest.below

  pub served_listed : low < length jobs.ranks.now
  served_listed = omega (arith, lowest.below, sorted.long)

  pub served_rank : low < 64
  served_rank = omega (arith, lowest.below, few)

  pub served_left : job < length left
  served_left = omega (arith, known, few, s.long)

  pub served_deadline : job < length J.deadlines
  served_deadline = omega (arith, known, s.passes.same_deadlines)

  units : 0 < get_or left job 0
  units = waits_units jobs.ranks.now jobs.arrivals.now p.next (state_of left) low lowest.on

  -- it has come before
  place : (i : ℕ) × (i < p.next) × (get_or jobs.arrivals.now i 0 ≡ low)
  place = waits_come jobs.ranks.now jobs.arrivals.now p.next (state_of left) low lowest.on

  has_come : release J job ≤ p.t
  has_come = omega (arith, s.came.by_now place.0 place.1, ap (λ (k : ℕ). release J (job_at jobs.ranks.now k)) place.2)

  -- v units are left of it after x slots
  module _ (v x : ℕ) (pos : 0 < x) (whole : v + x ≡ get_or left job 0) where
    abbrev after : List ℕ
    after = set left job v

    here_left : get_or after job 0 ≡ v
    here_left = get_or-set_same left job v 0 served_left

    others_left : (j : ℕ) → j ≢ job → get_or after j 0 ≡ get_or left j 0
    others_left j n = get_or-set_other left job j v 0 n

    sum_left : sum_below (count J) (state_of left) ≡ sum_below (count J) (state_of after) + x
    sum_left =
        sum_more (count J) (state_of after) (state_of left) job x known (omega (arith, here_left)) (λ j n. sym (others_left j n))

    short : p.t + x < never
    short = omega (arith, s.small (more), sum_left, s.few, s.passes.high)

    -- other ranks wait as before
    others_wait : (i : ℕ) → i < count J → i ≢ low → waiting left i ≡ waiting after i
    others_wait i l n = sym (rw (others_left (job_at jobs.ranks.now i) (places_differ sorted i low l lowest.below n)))

    -- a rank that is still to come is another
    later_left :
        (i : ℕ) → p.next ≤ i → i < count J → get_or after (job_at jobs.ranks.now (get_or jobs.arrivals.now i 0)) 0 ≡ get_or left (job_at jobs.ranks.now (get_or jobs.arrivals.now i 0)) 0
    later_left i l m =
        let other : get_or jobs.arrivals.now i 0 ≢ low = λ e. places_differ arriving place.0 i (omega (arith, place.1)) m (λ q. omega (arith, place.1)) (place.2 ∙ sym e) in
        others_left _ (places_differ sorted (get_or jobs.arrivals.now i 0) low (arriving.known i m) lowest.below other)

    module _ (room : p.t + x ≤ p.coming) where
      first : (j : ℕ) → j < count J → 0 < get_or left j 0 → (deadline J job ≤ deadline J j) ⊎ (p.t + x ≤ release J j)
      first j l u = go (still s j l u)
        where
          sooner : (i : ℕ) → i < count J → low ≤ i → Dec (low ≡ i) → deadline J job ≤ deadline J (job_at jobs.ranks.now i)
          sooner i m a (yes e) = omega (arith, ap (λ (k : ℕ). deadline J (job_at jobs.ranks.now k)) e)
          sooner i m a (no n) = (sorted.rising low i (omega arith) m).sooner

          go : Waits J jobs left p.next j ⊎ (p.coming ≤ release J j) → (deadline J job ≤ deadline J j) ⊎ (p.t + x ≤ release J j)
          go (inl h) =
              let up = lowest.first h.rank h.below h.now in
              inl (omega (arith, sooner h.rank h.below up (ℕ_discrete low h.rank), ap (deadline J) h.job))
          go (inr h) = inr (omega arith)

      stint : Stint J (state_of left) (state_of after) p.t job x
      stint = record {
        known = known;
        released = has_come;
        some = pos;
        units = omega (arith, here_left);
        same = others_left;
        first = first;
      }

      served_turn :
          (bits end : ℕ) → bits ≡ mask (waiting after) (count J) → Ran J (state_of after) (p.t + x) end →
          Turned J jobs left p after (record p { t = p.t + x; waiting = bits; end = end })
      served_turn bits end b r = record {
        pass = record {
          passes = s.passes;
          long = length-set left job v ∙ s.long;
          came = record { most = s.came.most; bits_are = b; by_now = λ i l. omega (arith, s.came.by_now i l) };
          coming_is = s.coming_is;
          ahead = room;
          fresh = λ i l m. omega (arith, later_left i l m, s.fresh i l m);
          ran = r;
          small = λ l. omega (arith, s.small (more), sum_left);
          few = s.few;
          done = λ l. absurd (omega (arith, short));
        };
        less = omega (arith, sum_left);
      }

  -- until the next rank comes: it waits on

  still_waits : (v x : ℕ) → 0 < x → v + x ≡ get_or left job 0 → 0 < v → (i : ℕ) → i < count J → waiting left i ≡ waiting (set left job v) i
  still_waits v x pos whole some i b = go (ℕ_discrete i low)
    where
      on : waiting (set left job v) low ≡ true
      on = waits_if jobs.ranks.now jobs.arrivals.now p.next (state_of (set left job v)) low place.0 place.1 place.2 (omega (arith, some, here_left v x pos whole))

      go : Dec (i ≡ low) → waiting left i ≡ waiting (set left job v) i
      go (yes q) = rw q (lowest.on ∙ sym on)
      go (no n) = others_wait v x pos whole i b n

  pub part_turn :
      p.t < p.coming → p.coming - p.t < get_or left job 0 →
      Turned J jobs left p (set left job (get_or left job 0 - (p.coming - p.t))) (record p { t = p.coming })
  part_turn l m =
      let v = get_or left job 0 - (p.coming - p.t) in
      let x = p.coming - p.t in
      let pos : 0 < x = omega arith in
      let whole : v + x ≡ get_or left job 0 = omega arith in
      let up : p.t + x ≡ p.coming = omega arith in
      let room : p.t + x ≤ p.coming = omega arith in
      let r =
      ran_stint J (state_of left) (state_of (set left job v)) p.t job x p.end p.end s.passes s.ran (stint v x pos whole room)
      (omega arith) (λ z d. absurd (omega (arith, here_left v x pos whole))) (inl refl) in
      let alike = mask_alike _ _ (count J) (still_waits v x pos whole (omega arith)) in
      subst (λ (y : ℕ). Turned J jobs left p (set left job v) (record p { t = y })) up
      (served_turn v x pos whole room p.waiting p.end (s.came.bits_are ∙ alike) r)

  -- until its last unit: it leaves the bits

  whole_left : 0 + get_or left job 0 ≡ get_or left job 0
  whole_left = omega arith

  leaves : p.waiting ≡ mask (waiting (set left job 0)) (count J) + 2 ^ low
  leaves =
      let joins : Joins (count J) (waiting (set left job 0)) (waiting left) low =
      record {
        out = waits_not jobs.ranks.now jobs.arrivals.now p.next (state_of (set left job 0)) low (here_left 0 (get_or left job 0) units whole_left);
        within = lowest.on;
        same = others_wait 0 (get_or left job 0) units whole_left;
      } in
      s.came.bits_are ∙ mask_joins (count J) _ _ low joins lowest.below

  pub served_bit : 2 ^ low ≤ p.waiting
  served_bit = omega (arith, leaves)

  pub finish_turn :
      (cut end : ℕ) → cut ≡ 2 ^ low → p.t < p.coming → get_or left job 0 ≤ p.coming - p.t →
      EndAfter p.end (deadline J job) (p.t + get_or left job 0) end →
      Turned J jobs left p (set left job 0) (record p { t = p.t + get_or left job 0; waiting = p.waiting - cut; end = end })
  finish_turn cut end q l m e =
      let x = get_or left job 0 in
      let room : p.t + x ≤ p.coming = omega arith in
      let r =
      ran_stint J (state_of left) (state_of (set left job 0)) p.t job x p.end end s.passes s.ran (stint 0 x units whole_left room)
      e.least (λ z d. e.passed d) e.either in
      served_turn 0 x units whole_left room (p.waiting - cut) end (omega (arith, leaves)) r
