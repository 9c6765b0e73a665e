-- How many jobs are released before b, counted down from all.
use Prim.Native.Nat.{ℕ, ◌-◌, ◌≤◌, ◌<◌}
use mathlib.Core.Path.{◌≡◌, ap}
use mathlib.Core.List.{List}
use native.Mathlib.Omega.{arith}
use native.Mathlib.Decide.{ℕ_discrete}
use lib.ListN.{length, get_or}
use Rattle.tightest.specs.Search.{Startable}

-- the jobs from place n on are not released before b
pub record Seeking (releases order : List ℕ) (b n : ℕ) : Type 0 where
  pub asked : Startable releases order b
  pub within : n ≤ length order
  pub ahead : asked.place < n
  pub rest : (k : ℕ) → n ≤ k → k < length order → b ≤ get_or releases (get_or order k 0) 0

pub seek_start : {releases order : List ℕ} {b : ℕ} → Startable releases order b → Seeking releases order b (length order)
seek_start a = record { asked = a; within = omega arith; ahead = a.below; rest = λ k l m. absurd (omega arith) }

module _ {releases order : List ℕ} {b n : ℕ} (s : Seeking releases order b n) where
  pub seek_on : b ≤ get_or releases (get_or order (n - 1) 0) 0 → Seeking releases order b (n - 1)
  seek_on l =
      record {
        asked = s.asked;
        within = omega (arith, s.within);
        ahead = other (ℕ_discrete s.asked.place (n - 1));
        rest = λ k m o. later k m o (ℕ_discrete k (n - 1));
      }
    where
      other : Dec (s.asked.place ≡ n - 1) → s.asked.place < n - 1
      other (yes e) = absurd (omega (arith, s.asked.sooner, ap (λ (k : ℕ). get_or releases (get_or order k 0) 0) e))
      other (no e) = omega (arith, s.ahead)

      later : (k : ℕ) → n - 1 ≤ k → k < length order → Dec (k ≡ n - 1) → b ≤ get_or releases (get_or order k 0) 0
      later k m o (yes e) = omega (arith, ap (λ (k : ℕ). get_or releases (get_or order k 0) 0) e)
      later k m o (no e) = s.rest k (omega arith) o
