-- Looking at a slot: expired ranks leave the bits, and released ones can join them.
use Prim.Native.Nat.{ℕ, ◌*◌, ◌/◌, ◌^◌, ◌≤◌, ◌<◌}
use mathlib.Core.Path.{◌≡◌, refl, sym, ap, ◌∙◌}
use mathlib.Core.Bool.{Bool, true, false, ◌&&◌}
use mathlib.Core.List.{List}
use native.Mathlib.Omega.{arith}
use borrow.Author.Tests.{le-leb, leb-true}
use lib.ListN.{length}
use lib.Dec.{leb, ltb}
use Rattle.laws_edf.specs.Search.{state_of}
use Rattle.laws_edf.specs.Orders.{job_at}
use Rattle.orders.specs.declared.ordered_jobs.OrderedJobs.{OrderedJobs}
use Rattle.queue.specs.declared.Ready.{Ready}
use Rattle.queue.specs.Mask.Laws.{mask_alike, mask_drops}
use Rattle.queue.specs.Arrivals.{comes_at, goes_at, or_beyond, come, waits, Come}
use Rattle.queue.specs.Runs.{Expired, Arrivable, Arrived, Lookable, Looked}

-- expired ranks leave the bits

narrowed : (c a b u : Bool) → (a ≡ true → b ≡ true) → a && (c && b && u) ≡ c && a && u
narrowed c true b u h = rw (h refl)
narrowed true false b u h = refl
narrowed false false b u h = refl

drop_come : (jobs : OrderedJobs) (left : List ℕ) (t bits next gone all y : ℕ) → gone ≤ all → y ≡ bits / 2 ^ all * 2 ^ all → Come jobs.releases.now jobs.ranks.now jobs.arrivals.now left t bits next gone → Come jobs.releases.now jobs.ranks.now jobs.arrivals.now left t y next all
drop_come jobs left t bits next gone all y l e c =
    let L = state_of left in
    let n = length jobs.releases.now in
    let arrivals = jobs.arrivals.now in
    let ranks = jobs.ranks.now in
    record {
      most = c.most;
      bits_are = e ∙ ap (λ (x : ℕ). x / 2 ^ all * 2 ^ all) c.bits_are ∙ sym (mask_drops (waits ranks arrivals next gone L) n all)
          ∙ mask_alike (λ k. leb all k && waits ranks arrivals next gone L k) (waits ranks arrivals next all L) n
          (λ k m. narrowed (come arrivals next k) (leb all k) (leb gone k) (ltb 0 (L (job_at ranks k))) (λ q. le-leb gone k (omega (arith, leb-true all k q))));
      by_now = c.by_now;
    }

-- looking at a slot

module _ {jobs : OrderedJobs} {left : List ℕ} {t : ℕ} {last : Ready} (g : Lookable jobs left t last) where
  pub look_arrivable : {all : ℕ} → Expired jobs t last.gone all → (y : ℕ) → y ≡ last.mask / 2 ^ all * 2 ^ all → Arrivable jobs left t y last.next all
  look_arrivable {all = all} x y e =
      record { short = g.short; room = g.room; came = drop_come jobs left t last.mask last.next last.gone all y x.more e g.ready.came }

-- what the calls gave, together; `until` is the earlier of a and b
pub look_done : {jobs : OrderedJobs} {left : List ℕ} {t gone all : ℕ} → Expired jobs t gone all → (bits next a b until : ℕ) → Arrived jobs left t bits next all
    → a ≡ or_beyond (length jobs.releases.now) (comes_at jobs.releases.now jobs.ranks.now jobs.arrivals.now) next
    → b ≡ or_beyond (length jobs.deadlines.now) (goes_at jobs.deadlines.now jobs.ranks.now) all
    → until ≤ a → until ≤ b → (t < a → t < b → t < until)
    → Looked jobs left t (record { mask = bits; next = next; gone = all; until = until })
look_done x bits next a b until r p q first second either =
    record {
      ready = record { came = r.came; went = x.went; next_release = omega (arith, p, first); next_deadline = omega (arith, q, second) };
      before = either (omega (arith, p, r.later)) (omega (arith, q, x.later));
    }
