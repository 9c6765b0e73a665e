-- 01, "Words of the plan": overloaded intervals, and the one that is shown.
use Rattle.std.specs.Prelude.{ℕ, ◌-◌, ◌≤◌, ◌<◌, Bool, true, false, ◌&&◌, leb, ltb}
use Rattle.std.proofs.Math.Option.{Option, none, some}
use Rattle.sched.specs.Bounded.{sum_below, any_below, least_from, last_below}
use Rattle.sched.specs.Jobs.{Jobs, count, release, deadline, volume}
use Rattle.sched.specs.declared.Interval.{Interval}

-- the volume of job j if a ≤ r and d ≤ b
unfoldable pub volume_if : Jobs → ℕ → ℕ → ℕ → ℕ
volume_if J a b j = elim (leb a (release J j) && leb (deadline J j) b) [ true ↦ volume J j | false ↦ 0 ]

-- what the jobs inside the interval have together
unfoldable pub volume_inside : Jobs → ℕ → ℕ → ℕ
volume_inside J a b = sum_below (count J) (volume_if J a b)

-- "0 ≤ a < b ≤ H" and "more volume together than b−a"
unfoldable pub overloaded : Jobs → ℕ → ℕ → Bool
overloaded J a b = ltb a b && leb b J.horizon && ltb (b - a) (volume_inside J a b)

-- the greatest a for this b
unfoldable pub overload_ending_at : Jobs → ℕ → Option Interval
overload_ending_at J b =
    elim (last_below b (λ a. overloaded J a b)) [ none ↦ none | some a ↦ some (record { a = a; b = b }) ]

-- "The interval shown has the least b, and among those the greatest a."
unfoldable pub shown_overload : Jobs → Option Interval
shown_overload J =
    elim (least_from J.horizon 1 (λ b. any_below b (λ a. overloaded J a b))) [ none ↦ none | some b ↦ overload_ending_at J b ]

-- The same in words, for promises to name

-- "the jobs with a ≤ r and d ≤ b (and 0 ≤ a < b ≤ H) have more volume together than b−a"
pub record Overfull (J : Jobs) (a b : ℕ) : Type 0 where
  pub span : a < b
  pub within : b ≤ J.horizon
  pub more : b - a < volume_inside J a b

-- i is overloaded, no overloaded interval ends earlier, and none that ends with it starts later
pub record Shown (J : Jobs) (i : Interval) : Type 0 where
  pub over : Overfull J i.a i.b
  pub least : (a b : ℕ) → Overfull J a b → i.b ≤ b
  pub greatest : (a : ℕ) → Overfull J a i.b → a ≤ i.a
