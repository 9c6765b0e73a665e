-- A byte all along a stretch, one place a turn.
use Prim.Native.Nat.{ℕ, suc, ◌+◌, ◌-◌, ◌≤◌, ◌<◌}
use mathlib.Core.Path.{◌≡◌, refl, sym, ap, ◌∙◌}
use mathlib.Core.List.{List, [], ◌∷◌, ◌++◌, append-nil, append_assoc}
use native.Mathlib.Numerals.{add-one}
use native.Mathlib.Omega.{arith}
use lib.ListN.{length, take, drop, set, length-set, replicate, replicate-append-replicate, take-append-drop}
use lib.Seq.{take-suc-set, drop-set-lt, drop-drop}
use Rattle.sched.specs.Buffers.{poured}

-- the bytes from place `from` up to place t are `byte`, the others as they were
pub record Poured (table₀ : List ℕ) (from to byte : ℕ) (table : List ℕ) (t : ℕ) : Type 0 where
  pub start : from ≤ t
  pub within : t ≤ to
  pub long : to ≤ length table
  pub kept : length table ≡ length table₀
  pub done : take t table ≡ take from table₀ ++ replicate (t - from) byte
  pub rest : drop t table ≡ drop t table₀

module _ (table₀ : List ℕ) (from to byte : ℕ) where
  pub poured_start : from ≤ to → to ≤ length table₀ → Poured table₀ from to byte table₀ from
  poured_start l m =
      let none : from - from ≡ 0 = omega arith in
      record {
        start = omega arith;
        within = l;
        long = m;
        kept = refl;
        done = sym
            (ap (λ (n : ℕ). take from table₀ ++ replicate n byte) none ∙ append-nil (take from table₀));
        rest = refl;
      }

  pub poured_turn : (table : List ℕ) (t : ℕ) → t < to → Poured table₀ from to byte table t → Poured table₀ from to byte (set table t byte) (t + 1)
  poured_turn table t l m = record {
    start = omega (arith, m.start);
    within = omega arith;
    long = simp length-set m.long;
    kept = length-set table t byte ∙ m.kept;
    done = simp add-one step;
    rest = drop-set-lt (t + 1) table t byte (omega arith) ∙ sym (drop-drop 1 t table) ∙ ap (drop 1) m.rest ∙ drop-drop 1 t table₀;
  }
    where
      step : take (suc t) (set table t byte) ≡ take from table₀ ++ replicate (suc t - from) byte
      step =
          let more : suc t - from ≡ t - from + 1 = omega (arith, m.start) in
          take-suc-set table t byte (omega (arith, m.long))
          ∙ ap (λ (r : List ℕ). r ++ (byte ∷ [])) m.done
          ∙ append_assoc (take from table₀) (replicate (t - from) byte) (byte ∷ [])
          ∙ ap (λ (r : List ℕ). take from table₀ ++ r) (replicate-append-replicate (t - from) 1 byte ∙ ap (λ (n : ℕ). replicate n byte) (sym more))

  pub poured_end : (table : List ℕ) (t : ℕ) → to ≤ t → Poured table₀ from to byte table t → table ≡ poured from to byte table₀
  poured_end table t l m =
      let e : t ≡ to = omega (arith, m.within) in
      sym (take-append-drop t table)
      ∙ ap (λ (r : List ℕ). r ++ drop t table) m.done
      ∙ ap (λ (r : List ℕ). (take from table₀ ++ replicate (t - from) byte) ++ r) m.rest
      ∙ append_assoc (take from table₀) (replicate (t - from) byte) (drop t table₀)
      ∙ ap (λ (n : ℕ). poured from n byte table₀) e
