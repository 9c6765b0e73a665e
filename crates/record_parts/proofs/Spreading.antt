-- The pass that puts each slot byte into its slot: an awake slot, a sleeping one, and the end.
use Prim.Native.Nat.{ℕ, ◌+◌, ◌≤◌, ◌<◌}
use mathlib.Core.Path.{◌≡◌, refl, sym, ap, ◌∙◌}
use mathlib.Core.Bool.{Bool, true, false}
use mathlib.Core.List.{List, [], ◌∷◌, ◌++◌}
use native.Mathlib.Numerals.{add-one}
use native.Mathlib.Omega.{arith}
use lib.ListN.{length, get_or, set, take, length-set}
use lib.Seq.{take_all, take-suc, take-suc-set}
use Rattle.sched.specs.Bits.{bit}
use Rattle.sched.specs.Slots.{awake}
use Rattle.sched.specs.Energy.{awake_slots}
use Rattle.record_parts.specs.Bytes.{spread}
use Rattle.record_parts.proofs.Bytes.Laws.{length_spread, spread_awake, spread_asleep, awake_up_to, awake_part}

-- the first t slots are filled, with the first `at` bytes
pub record Spreading (S : List Bool) (bytes table₀ table : List ℕ) (at t : ℕ) : Type 0 where
  pub long : length table ≡ length table₀
  pub used : at ≡ awake_slots (take t S)
  pub done : take t table ≡ take t (spread S bytes)

pub spreading_start : (S : List Bool) (bytes table : List ℕ) → Spreading S bytes table table 0 0
unfolding awake_slots
spreading_start S bytes table = record { long = refl; used = refl; done = refl }

module _ (S : List Bool) (bytes table₀ table : List ℕ) (at t : ℕ) (same : length S ≡ length table₀) (w : Spreading S bytes table₀ table at t) where
  module _ (l : t < length table) where
    inside : t < length S
    inside = omega (arith, w.long)

    one_more : (x : ℕ) → x ≡ get_or (spread S bytes) t 0 → take (t + 1) (set table t x) ≡ take (t + 1) (spread S bytes)
    one_more x e =
        rw add-one
        (take-suc-set table t x l
        ∙ ap (λ (front : List ℕ). front ++ (x ∷ [])) w.done
        ∙ ap (λ (y : ℕ). take t (spread S bytes) ++ (y ∷ [])) e
        ∙ sym (take-suc (spread S bytes) t 0 (omega (arith, length_spread S bytes, inside))))

    up_to : (b : Bool) → awake S t ≡ b → at + bit b ≡ awake_slots (take (t + 1) S)
    up_to b e = rw add-one (omega (arith, w.used, awake_up_to S t inside, ap bit e))

    pub spreading_room : awake S t ≡ true → awake_slots S ≤ length bytes → at < length bytes
    spreading_room e enough = omega (arith, up_to true e, awake_part S (t + 1))

    pub spreading_awake : awake S t ≡ true → Spreading S bytes table₀ (set table t (get_or bytes at 0)) (at + 1) (t + 1)
    spreading_awake e =
        record {
          long = simp length-set w.long;
          used = up_to true e;
          done = one_more (get_or bytes at 0) (ap (λ (n : ℕ). get_or bytes n 0) w.used ∙ sym (spread_awake S bytes t inside e));
        }

    pub spreading_asleep : awake S t ≡ false → Spreading S bytes table₀ (set table t 255) at (t + 1)
    spreading_asleep e =
        record {
          long = simp length-set w.long;
          used = omega (arith, up_to false e);
          done = one_more 255 (sym (spread_asleep S bytes t inside e));
        }

  pub spreading_end : length table ≤ t → table ≡ spread S bytes
  spreading_end l =
      sym (take_all t table l) ∙ w.done ∙ take_all t (spread S bytes) (omega (arith, length_spread S bytes, w.long))
