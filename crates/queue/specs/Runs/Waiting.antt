-- The ranks that wait are those that a slot may serve, and stay so from slot to slot.
use Rattle.std.specs.Prelude.{ℕ, suc, ◌≤◌, ◌<◌, ◌≡◌, refl, Bool, true, false, ◌&&◌, List, length, get_or, leb, ltb, eqb}
use Rattle.std.proofs.Math.Path.{sym}
use Rattle.std.proofs.Common.{ap, subst, ◌∙◌, arith, le-leb, lt-ltb, le-ltb, eqb-true}
use Rattle.std.proofs.Math.Option.{Option}
use Rattle.std.proofs.Math.Decide.{dec_lt}
use Rattle.std.proofs.lemmas.Bool.{lt-leb, eqb-false}
use Rattle.sched.specs.Bounded.{any_below}
use Rattle.sched.proofs.Bounded.Laws.{any_elim, any_none}
use Rattle.laws_edf.specs.Run.{State}
use Rattle.laws_edf.specs.Search.{state_of}
use Rattle.laws_edf.specs.Orders.{Sorted, job_at}
use Rattle.orders.specs.declared.ordered_jobs.OrderedJobs.{OrderedJobs}
use Rattle.queue.specs.declared.Ready.{Ready}
use Rattle.queue.specs.Mask.{mask}
use Rattle.queue.specs.Mask.Laws.{mask_alike, mask_none}
use Rattle.queue.specs.Ranks.{spans_of, serves_rank}
use Rattle.queue.specs.Serving.{After}
use Rattle.queue.specs.Arrivals.{comes_at, goes_at, come, waits, ReadyAt}
use Rattle.queue.specs.Arrivals.Laws.{later_rises}
use Rattle.queue.specs.Runs.{Lookable, Looked}

module _ {jobs : OrderedJobs} {left : List ℕ} {t : ℕ} {last : Ready} (g : Lookable jobs left t last) where
  abbrev releases : List ℕ
  releases = jobs.releases.now

  abbrev deadlines : List ℕ
  deadlines = jobs.deadlines.now

  abbrev ranks : List ℕ
  ranks = jobs.ranks.now

  abbrev arrivals : List ℕ
  arrivals = jobs.arrivals.now

  abbrev next : ℕ
  next = last.next

  abbrev gone : ℕ
  gone = last.gone

  ranks_sorted : Sorted (length releases) (λ j. get_or deadlines j 0) ranks
  ranks_sorted = jobs.orders.by_deadline

  same : length deadlines ≡ length releases
  same = jobs.orders.same

  -- before slot u, the ranks that wait are those that slot t may serve
  module _ (before : t < last.until) where
    released : (k : ℕ) → k < length releases → (b : Bool) → come arrivals next k ≡ b → leb (get_or releases (job_at ranks k) 0) t ≡ b
    released k l true e =
        let f = any_elim next (λ i. eqb (get_or arrivals i 0) k) e in
        let q : get_or arrivals f.0 0 ≡ k = eqb-true _ _ f.2 in
        le-leb _ t (subst (λ (j : ℕ). get_or releases (job_at ranks j) 0 ≤ t) q (g.ready.came.by_now f.0 f.1))
    released k l false e =
        let f = jobs.orders.by_release.all k l in
        lt-leb _ t (subst (λ (j : ℕ). t < get_or releases (job_at ranks j) 0) f.2 (go f.0 f.1 f.2 (dec_lt f.0 next)))
      where
        go : (i : ℕ) → i < length releases → get_or arrivals i 0 ≡ k → Dec (i < next) → t < comes_at releases ranks arrivals i
        go i m q (yes a) = absurd (eqb-false (get_or arrivals i 0) k (any_none next (λ j. eqb (get_or arrivals j 0) k) e i a) q)
        go i m q (no a) =
            let r = later_rises (length releases) (comes_at releases ranks arrivals) next i (omega arith) m (λ n. (jobs.orders.by_release.rising next i n m).sooner) in
            omega (arith, g.ready.next_release)

    expires : (k : ℕ) → k < length releases → Dec (k < gone) → ltb t (get_or deadlines (job_at ranks k) 0) ≡ leb gone k
    expires k l (yes a) = le-ltb t _ (g.ready.went.by_now k a) ∙ sym (lt-leb gone k a)
    expires k l (no a) =
        let r = later_rises (length deadlines) (goes_at deadlines ranks) gone k (omega arith) (omega (arith, same)) (λ n. (ranks_sorted.rising gone k n l).sooner) in
        lt-ltb t _ (omega (arith, g.ready.next_deadline)) ∙ sym (le-leb gone k (omega arith))

    alike : (L : State) (k : ℕ) → k < length releases → serves_rank (spans_of releases deadlines) ranks t L k ≡ waits ranks arrivals next gone L k
    alike L k l =
        ap (λ (b : Bool). b && ltb t (get_or deadlines (job_at ranks k) 0) && ltb 0 (L (job_at ranks k))) (released k l (come arrivals next k) refl)
        ∙ ap (λ (b : Bool). come arrivals next k && b && ltb 0 (L (job_at ranks k))) (expires k l (dec_lt k gone))

    bits_serve : last.mask ≡ mask (serves_rank (spans_of releases deadlines) ranks t (state_of left)) (length releases)
    bits_serve =
        g.ready.came.bits_are
        ∙ mask_alike (waits ranks arrivals next gone (state_of left)) (serves_rank (spans_of releases deadlines) ranks t (state_of left)) (length releases) (λ k l. sym (alike (state_of left) k l))

    -- it stays so for what is left when a rank is served
    ready_served : (left' : List ℕ) (bits' : ℕ) → bits' ≡ mask (serves_rank (spans_of releases deadlines) ranks t (state_of left')) (length releases)
        → ReadyAt jobs.releases.now jobs.deadlines.now jobs.ranks.now jobs.arrivals.now left' t (record last { mask = bits' })
    ready_served left' bits' e =
        record {
          came = record {
            most = g.ready.came.most;
            bits_are = e ∙ mask_alike (serves_rank (spans_of releases deadlines) ranks t (state_of left')) (waits ranks arrivals next gone (state_of left')) (length releases) (alike (state_of left'));
            by_now = g.ready.came.by_now;
          };
          went = g.ready.went;
          next_release = g.ready.next_release;
          next_deadline = g.ready.next_deadline;
        }

-- from slot to slot

module _ (releases deadlines ranks arrivals : List ℕ) where
  pub ready_later : (left : List ℕ) (t : ℕ) (r : Ready) → ReadyAt releases deadlines ranks arrivals left t r → ReadyAt releases deadlines ranks arrivals left (suc t) r
  ready_later left t r s =
      record {
        came = record { most = s.came.most; bits_are = s.came.bits_are; by_now = λ i l. omega (arith, s.came.by_now i l) };
        went = record { most = s.went.most; by_now = λ k l. omega (arith, s.went.by_now k l) };
        next_release = s.next_release;
        next_deadline = s.next_deadline;
      }

  -- a run that begins with slot t has seen nobody come and nobody expire
  pub ready_first : (left : List ℕ) (t : ℕ) → ReadyAt releases deadlines ranks arrivals left t (record { mask = 0; next = 0; gone = 0; until = 0 })
  unfolding any_below
  ready_first left t =
      record {
        came = record {
          most = omega arith;
          bits_are = sym (mask_none (waits ranks arrivals 0 0 (state_of left)) (length releases) (λ k. refl));
          by_now = λ i l. absurd (omega arith);
        };
        went = record { most = omega arith; by_now = λ k l. absurd (omega arith) };
        next_release = omega arith;
        next_deadline = omega arith;
      }

-- a slot that has been looked at

module _ {jobs : OrderedJobs} {left : List ℕ} {t : ℕ} {last fresh : Ready} (g : Lookable jobs left t last) (k : Looked jobs left t fresh) where
  again : Lookable jobs left t fresh
  again = record { short = g.short; room = g.room; ready = k.ready }

  pub looked_bits : fresh.mask ≡ mask (serves_rank (spans_of jobs.releases.now jobs.deadlines.now) jobs.ranks.now t (state_of left)) (length jobs.releases.now)
  looked_bits = bits_serve again k.before

  pub ready_after : (job : Option ℕ) (byte bits' : ℕ) (left' : List ℕ) → After (spans_of jobs.releases.now jobs.deadlines.now) jobs.ranks.now t left job byte bits' left' → ReadyAt jobs.releases.now jobs.deadlines.now jobs.ranks.now jobs.arrivals.now left' (suc t) (record fresh { mask = bits' })
  ready_after job byte bits' left' a =
      ready_later jobs.releases.now jobs.deadlines.now jobs.ranks.now jobs.arrivals.now left' t _ (ready_served again k.before left' bits' a.bits_are)
