-- One rank more expires or is released: how the ranks that wait change.
use Prim.Native.Nat.{ℕ, suc, ◌+◌, ◌*◌, ◌^◌, ◌≤◌, ◌<◌}
use mathlib.Core.Path.{◌≡◌, refl, ap, subst, ◌∙◌}
use mathlib.Core.Bool.{Bool, true, false, ◌&&◌}
use mathlib.Core.List.{List}
use mathlib.Core.Logic.{◌≢◌}
use native.Mathlib.Decide.{ℕ_discrete}
use native.Mathlib.Numerals.{add-one}
use native.Mathlib.Omega.{arith}
use borrow.Author.Tests.{le-ltb}
use lib.ListN.{length, get_or}
use lib.Dec.{leb, ltb}
use lib.Pow.{pow_mono}
use Rattle.laws_edf.specs.Search.{state_of}
use Rattle.laws_edf.specs.Orders.{job_at}
use Rattle.laws_edf.proofs.Orders.Laws.{places_differ}
use Rattle.sched.specs.Bits.{bit}
use Rattle.orders.specs.declared.ordered_jobs.OrderedJobs.{OrderedJobs}
use Rattle.queue.specs.Mask.{mask}
use Rattle.queue.specs.Mask.Laws.{mask_joins, mask_alike, mask_lt}
use Rattle.queue.specs.Arrivals.{comes_at, goes_at, or_beyond, come, waits, Come, Gone}
use Rattle.queue.specs.Arrivals.Laws.{beyond_in, come_fresh, come_itself, come_others}
use Rattle.queue.specs.Runs.{Expired, Arrivable, Arrived}

-- what comes at some slot, or never

pub beyond_out : (n : ℕ) (f : ℕ → ℕ) (i : ℕ) → n ≤ i → or_beyond n f i ≡ 65536
unfolding or_beyond
beyond_out n f i l = rw (le-ltb i n l, or_beyond)

-- expiring

-- the deadline of the next rank has passed too
pub gone_turn : (deadlines ranks : List ℕ) (t k x : ℕ) → k < length deadlines → x ≡ or_beyond (length deadlines) (goes_at deadlines ranks) k → x ≤ t → Gone deadlines ranks t k → Gone deadlines ranks t (k + 1)
gone_turn deadlines ranks t k x b e l w =
    record { most = omega arith; by_now = λ i m. go i m (ℕ_discrete i k) }
  where
    go : (i : ℕ) → i < k + 1 → Dec (i ≡ k) → goes_at deadlines ranks i ≤ t
    go i m (yes q) = rw q (omega (arith, e, beyond_in (length deadlines) (goes_at deadlines ranks) k b))
    go i m (no q) = w.by_now i (omega arith)

module _ (jobs : OrderedJobs) (t : ℕ) where
  -- every deadline has passed
  pub gone_all : (gone k : ℕ) → t < 65536 → gone ≤ k → k ≡ length jobs.ranks.now → Gone jobs.deadlines.now jobs.ranks.now t k → Expired jobs t gone (length jobs.ranks.now)
  gone_all gone k short more e w =
      let o = jobs.orders in
      record {
        went = subst (Gone jobs.deadlines.now jobs.ranks.now t) e w;
        more = omega (arith, e);
        later = omega (arith, beyond_out (length jobs.deadlines.now) (goes_at jobs.deadlines.now jobs.ranks.now) (length jobs.ranks.now) (omega (arith, o.same, o.by_deadline.long)));
      }

-- arriving

module _ {jobs : OrderedJobs} {left : List ℕ} {t bits next gone : ℕ} (g : Arrivable jobs left t bits next gone) where
  abbrev releases : List ℕ
  releases = jobs.releases.now

  abbrev ranks : List ℕ
  ranks = jobs.ranks.now

  abbrev arrivals : List ℕ
  arrivals = jobs.arrivals.now

  module _ (i : ℕ) where
    module _ (l : i < length releases) where
      -- the rank is not among those before it
      fresh : come arrivals i (get_or arrivals i 0) ≡ false
      fresh = come_fresh arrivals i (λ j m. places_differ jobs.orders.by_release j i (omega arith) l (λ e. omega arith))

      itself : come arrivals (suc i) (get_or arrivals i 0) ≡ true
      itself = come_itself arrivals i

      waits_others : (k : ℕ) → k ≢ get_or arrivals i 0 → waits ranks arrivals (suc i) gone (state_of left) k ≡ waits ranks arrivals i gone (state_of left) k
      waits_others k n = ap (λ (b : Bool). b && leb gone k && ltb 0 (get_or left (job_at ranks k) 0)) (come_others arrivals i k n)

      bits_turn : (b : Bool) → leb gone (get_or arrivals i 0) && ltb 0 (get_or left (job_at ranks (get_or arrivals i 0)) 0) ≡ b
          → mask (waits ranks arrivals (suc i) gone (state_of left)) (length releases) ≡ mask (waits ranks arrivals i gone (state_of left)) (length releases) + bit b * 2 ^ get_or arrivals i 0
      bits_turn true e =
          mask_joins (length releases) (waits ranks arrivals i gone (state_of left)) (waits ranks arrivals (suc i) gone (state_of left)) (get_or arrivals i 0)
          (record { out = rw fresh; within = rw itself e; same = λ k m n. waits_others k n }) (jobs.orders.by_release.known i l)
          ∙ omega arith
      bits_turn false e =
          mask_alike (waits ranks arrivals (suc i) gone (state_of left)) (waits ranks arrivals i gone (state_of left)) (length releases) (λ k m. go k (ℕ_discrete k (get_or arrivals i 0)))
          ∙ omega arith
        where
          go : (k : ℕ) → Dec (k ≡ get_or arrivals i 0) → waits ranks arrivals (suc i) gone (state_of left) k ≡ waits ranks arrivals i gone (state_of left) k
          go k (yes q) = rw q (rw (itself, fresh) e)
          go k (no n) = waits_others k n

    pub come_turn : (x bits' y : ℕ) → i < length releases → x ≡ or_beyond (length releases) (comes_at releases ranks arrivals) i → x ≤ t → Come jobs.releases.now jobs.ranks.now jobs.arrivals.now left t bits' i gone
        → y ≡ bit (leb gone (get_or arrivals i 0) && ltb 0 (get_or left (job_at ranks (get_or arrivals i 0)) 0)) * 2 ^ get_or arrivals i 0
        → Come jobs.releases.now jobs.ranks.now jobs.arrivals.now left t (bits' + y) (i + 1) gone
    come_turn x bits' y b e l c q =
        let d : comes_at releases ranks arrivals i ≤ t = omega (arith, e, beyond_in (length releases) (comes_at releases ranks arrivals) i b) in
        record {
          most = omega arith;
          bits_are = rw (q, add-one i) (omega (arith, c.bits_are, bits_turn b _ refl));
          by_now = λ j m. go j m d (ℕ_discrete j i);
        }
      where
        go : (j : ℕ) → j < i + 1 → comes_at releases ranks arrivals i ≤ t → Dec (j ≡ i) → comes_at releases ranks arrivals j ≤ t
        go j m b (yes p) = rw p b
        go j m b (no p) = c.by_now j (omega arith)

  -- every release has passed
  pub come_all : (bits' i : ℕ) → i ≡ length arrivals → Come jobs.releases.now jobs.ranks.now jobs.arrivals.now left t bits' i gone → Arrived jobs left t bits' (length arrivals) gone
  come_all bits' i e c =
      record {
        came = subst (λ (k : ℕ). Come jobs.releases.now jobs.ranks.now jobs.arrivals.now left t bits' k gone) e c;
        later = omega (arith, g.short, beyond_out (length releases) (comes_at releases ranks arrivals) (length arrivals) (omega (arith, jobs.orders.by_release.long)));
      }

  -- the bits fit in 64
  pub come_small : (bits' i : ℕ) → Come jobs.releases.now jobs.ranks.now jobs.arrivals.now left t bits' i gone → bits' < 2 ^ 64
  come_small bits' i c =
      let m = mask_lt (waits ranks arrivals i gone (state_of left)) (length releases) 0 in
      let p : 2 ^ length releases ≤ 2 ^ 64 = pow_mono {i = length releases} {j = 64} jobs.few in
      omega (arith, c.bits_are)
