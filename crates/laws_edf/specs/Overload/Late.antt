-- One pass over the slots: all are awake, and of the released jobs the one with the earliest deadline is served, behind its deadline, too. The
-- least deadline that a job is finished behind is the least end of an overloaded interval.
use Rattle.std.specs.Prelude.{ℕ, ◌+◌, ◌-◌, ◌≤◌, ◌<◌, ◌≡◌, true, false, ◌&&◌, ◌⊎◌, ◌≢◌, leb}
use Rattle.sched.specs.Bounded.{sum_below}
use Rattle.sched.specs.Jobs.{Jobs, count, release, deadline, volume}
use Rattle.steps.specs.Overload.{Overfull}

-- the units of job j that were served, if a ≤ r and d ≤ b; L are the units that are left
unfoldable pub served_if : Jobs → (ℕ → ℕ) → ℕ → ℕ → ℕ → ℕ
served_if J L a b j = elim (leb a (release J j) && leb (deadline J j) b) [ true ↦ volume J j - L j | false ↦ 0 ]

-- those of the jobs inside the interval together
unfoldable pub served_inside : Jobs → (ℕ → ℕ) → ℕ → ℕ → ℕ
served_inside J L a b = sum_below (count J) (served_if J L a b)

-- all slots from `from` to t have served jobs inside from..b, and no job due by b that is released before has units left
pub record Busy (J : Jobs) (L : ℕ → ℕ) (t b : ℕ) : Type 0 where
  pub from : ℕ
  pub past : from ≤ t
  pub full : t - from ≤ served_inside J L from b
  pub others : (j : ℕ) → j < count J → 0 < L j → deadline J j ≤ b → from ≤ release J j

-- the slots before t have served all but L; `end` is the least deadline of a job that was finished behind it, or any slot behind the horizon
pub record Ran (J : Jobs) (L : ℕ → ℕ) (t end : ℕ) : Type 0 where
  pub kept : (j : ℕ) → j < count J → L j ≤ volume J j
  pub most : (a b : ℕ) → served_inside J L a b ≤ t - a
  pub busy : (b : ℕ) → Busy J L t b
  pub in_time : (a b : ℕ) → b < end → ((j : ℕ) → j < count J → 0 < L j → deadline J j ≤ b → t ≤ release J j) → served_inside J L a b ≤ b - a
  pub late : end ≤ J.horizon → (a : ℕ) × Overfull J a end

-- x slots from t on serve job m, and no job that comes before it has units left and is released before they end
pub record Stint (J : Jobs) (L L' : ℕ → ℕ) (t m x : ℕ) : Type 0 where
  pub known : m < count J
  pub released : release J m ≤ t
  pub some : 0 < x
  pub units : L' m + x ≡ L m
  pub same : (j : ℕ) → j ≢ m → L' j ≡ L j
  pub first : (j : ℕ) → j < count J → 0 < L j → (deadline J m ≤ deadline J j) ⊎ (t + x ≤ release J j)
