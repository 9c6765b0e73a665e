-- What serving one of the ranks that wait changes, and what a slot that has served is like.
use Rattle.std.specs.Prelude.{ℕ, ◌-◌, ◌^◌, ◌≤◌, ◌<◌, ◌≡◌, true, false, List, length, get_or, eqb}
use Rattle.std.proofs.Math.Option.{Option}
use Rattle.std.specs.Int.Count.{count_trailing_zeros}
use Rattle.sched.specs.Slots.{idle}
use Rattle.steps.specs.Table.{run_byte}
use Rattle.steps.specs.Workable.{lower}
use Rattle.laws_edf.specs.Run.{Spans, Eligible, after}
use Rattle.laws_edf.specs.Search.{state_of}
use Rattle.laws_edf.specs.Orders.{job_at}
use Rattle.queue.specs.Mask.{mask}
use Rattle.queue.specs.Ranks.{serves_rank}
pub mod Laws
pub mod Lowest

-- rank k can be served
pub record CanServe (k bits : ℕ) (ranks left : List ℕ) : Type 0 where
  pub rank : k < 64
  pub listed : k < length ranks
  pub job : job_at ranks k < length left
  pub unit : 0 < get_or left (job_at ranks k) 0
  pub set : 2 ^ k ≤ bits

-- the bits once rank k has been served: a job whose last unit is served leaves them
unfoldable pub served_bits : ℕ → ℕ → List ℕ → List ℕ → ℕ
served_bits k bits ranks left = elim (eqb (get_or left (job_at ranks k) 0 - 1) 0) [ true ↦ bits - 2 ^ k | false ↦ bits ]

-- rank k is served
pub record Serves (k bits : ℕ) (ranks left : List ℕ) (byte bits' : ℕ) (left' : List ℕ) : Type 0 where
  pub byte_is : byte ≡ job_at ranks k
  pub bits_are : bits' ≡ served_bits k bits ranks left
  pub left_is : left' ≡ lower left (job_at ranks k)

abbrev pub lowest : ℕ → ℕ
lowest bits = count_trailing_zeros 64 bits

abbrev pub CanServeLowest : ℕ → List ℕ → List ℕ → Type 0
CanServeLowest bits ranks left = CanServe (lowest bits) bits ranks left

-- the lowest rank is served, if there is one
pub record ServesLowest (bits : ℕ) (ranks left : List ℕ) (byte bits' : ℕ) (left' : List ℕ) : Type 0 where
  pub idles : bits ≡ 0 → (byte ≡ idle) × (bits' ≡ 0) × (left' ≡ left)
  pub serves : 0 < bits → Serves (lowest bits) bits ranks left byte bits' left'

-- rank k waits before slot t
pub record Waits (F : Spans) (ranks : List ℕ) (t : ℕ) (left : List ℕ) (k : ℕ) : Type 0 where
  pub below : k < F.n
  pub able : Eligible F t (state_of left) (job_at ranks k)

-- slot t has run the job, if there is one: its byte, what is left, and the bits of the ranks that it could still serve
pub record After (F : Spans) (ranks : List ℕ) (t : ℕ) (left : List ℕ) (job : Option ℕ) (byte bits' : ℕ) (left' : List ℕ) : Type 0 where
  pub byte_is : byte ≡ run_byte job
  pub left_is : state_of left' ≡ after (state_of left) job
  pub bits_are : bits' ≡ mask (serves_rank F ranks t (state_of left')) F.n
