-- Which ranks have been released and have not expired, by how far one has gone through them.
use Rattle.std.specs.Prelude.{ℕ, ◌≤◌, ◌<◌, ◌≡◌, Bool, true, false, ◌&&◌, List, length, get_or, leb, ltb, eqb}
use Rattle.sched.specs.Bounded.{any_below}
use Rattle.laws_edf.specs.Run.{State}
use Rattle.laws_edf.specs.Search.{state_of}
use Rattle.laws_edf.specs.Orders.{job_at, rank_release}
use Rattle.queue.specs.declared.Ready.{Ready}
use Rattle.queue.specs.Mask.{mask}
pub mod Laws

-- the release of the rank at place i of arrivals
abbrev pub comes_at : List ℕ → List ℕ → List ℕ → ℕ → ℕ
comes_at releases ranks arrivals i = rank_release releases ranks (get_or arrivals i 0)

-- the deadline of rank k
abbrev pub goes_at : List ℕ → List ℕ → ℕ → ℕ
goes_at deadlines ranks k = get_or deadlines (job_at ranks k) 0

-- f of a number below n, else a slot behind every table
unfoldable pub or_beyond : ℕ → (ℕ → ℕ) → ℕ → ℕ
or_beyond n f i = elim (ltb i n) [ true ↦ f i | false ↦ 65536 ]

-- rank k is one of the first `next` of arrivals
abbrev pub come : List ℕ → ℕ → ℕ → Bool
come arrivals next k = any_below next (λ i. eqb (get_or arrivals i 0) k)

-- rank k has come, is none of the first `gone`, and has units
abbrev pub waits : List ℕ → List ℕ → ℕ → ℕ → State → ℕ → Bool
waits ranks arrivals next gone L k = come arrivals next k && leb gone k && ltb 0 (L (job_at ranks k))

-- the ranks that have come by slot t are the first `next` of arrivals at least; the bits are those that wait
pub record Come (releases ranks arrivals left : List ℕ) (t bits next gone : ℕ) : Type 0 where
  pub most : next ≤ length releases
  pub bits_are : bits ≡ mask (waits ranks arrivals next gone (state_of left)) (length releases)
  pub by_now : (i : ℕ) → i < next → comes_at releases ranks arrivals i ≤ t

-- the first `gone` ranks have expired by slot t
pub record Gone (deadlines ranks : List ℕ) (t gone : ℕ) : Type 0 where
  pub most : gone ≤ length deadlines
  pub by_now : (k : ℕ) → k < gone → goes_at deadlines ranks k ≤ t

-- the mask is what slot t may serve if it lies before slot `until`; else some releases and deadlines are still to be seen
pub record ReadyAt (releases deadlines ranks arrivals left : List ℕ) (t : ℕ) (ready : Ready) : Type 0 where
  pub came : Come releases ranks arrivals left t ready.mask ready.next ready.gone
  pub went : Gone deadlines ranks t ready.gone
  pub next_release : ready.until ≤ or_beyond (length releases) (comes_at releases ranks arrivals) ready.next
  pub next_deadline : ready.until ≤ or_beyond (length deadlines) (goes_at deadlines ranks) ready.gone
