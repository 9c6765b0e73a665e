-- The loop that puts notes back: what is left to put back gives what all of it does.
use Prim.Native.Nat.{ℕ, zero, suc, ◌+◌, ◌-◌, ◌≤◌, ◌<◌}
use mathlib.Core.Path.{◌≡◌, sym, ◌∙◌}
use mathlib.Core.List.{List}
use native.Mathlib.Numerals.{add-one}
use native.Mathlib.Omega.{arith}
use lib.ListN.{length, get_or, set, length-set}
use Rattle.step3_slot.specs.Notes.{slot_held, undone_reach, undone_table, Undoable, Undone}

reach_turn : (t : ℕ) (takers taken reach : List ℕ) (i : ℕ) → 0 < i →
    undone_reach i t takers taken reach ≡ undone_reach (i - 1) (get_or taken (i - 1) 0) takers taken (set reach (get_or takers (i - 1) 0) (t + 1))
unfolding undone_reach
reach_turn t takers taken reach zero l = absurd (omega arith)
reach_turn t takers taken reach (suc i) l = let q : suc i - 1 ≡ i = omega arith in rw (q, add-one)

pub held_first : (takers ranks : List ℕ) (i : ℕ) → i ≡ 0 → 255 ≡ slot_held i takers ranks
unfolding slot_held
held_first takers ranks i z = rw z

pub held_later : (takers ranks : List ℕ) (i : ℕ) → 0 < i → get_or ranks (get_or takers (i - 1) 0) 0 ≡ slot_held i takers ranks
unfolding slot_held
held_later takers ranks zero l = absurd (omega arith)
held_later takers ranks (suc i) l = let q : suc i - 1 ≡ i = omega arith in rw q

table_turn : (takers taken ranks table : List ℕ) (i : ℕ) → 0 < i →
    undone_table i takers taken ranks table ≡ undone_table (i - 1) takers taken ranks (set table (get_or taken (i - 1) 0) (slot_held (i - 1) takers ranks))
unfolding undone_table
table_turn takers taken ranks table zero l = absurd (omega arith)
table_turn takers taken ranks table (suc i) l = let q : suc i - 1 ≡ i = omega arith in rw q

-- i notes are left, and the last of them gave up slot at
pub record Undoing (noted last : ℕ) (takers taken ranks reach₀ table₀ reach table : List ℕ) (at i : ℕ) : Type 0 where
  pub can : Undoable noted last takers taken ranks reach₀ table₀
  pub within : i ≤ noted
  pub at_in : at < 4096
  pub same_reach : length reach ≡ length reach₀
  pub same_table : length table ≡ length table₀
  pub reach_rest : undone_reach i at takers taken reach ≡ undone_reach noted last takers taken reach₀
  pub table_rest : undone_table i takers taken ranks table ≡ undone_table noted takers taken ranks table₀

module _ {noted last : ℕ} {takers taken ranks reach₀ table₀ : List ℕ} where
  module _ {reach table : List ℕ} {at i : ℕ} (u : Undoing noted last takers taken ranks reach₀ table₀ reach table at i) where
    pub undoing_end : i ≤ 0 → Undone noted last takers taken ranks reach₀ table₀ reach table
    unfolding undone_reach undone_table
    undoing_end l =
        let z : i ≡ 0 = omega arith in
        record { reach_is = rw z at u.reach_rest; table_is = rw z at u.table_rest }

    module _ (l : 0 < i) where
      pub undoing_rank : get_or takers (i - 1) 0 < length reach
      undoing_rank = omega (arith, u.can.rank_in (i - 1) (omega (arith, u.within)), u.same_reach)

      pub undoing_slot : get_or taken (i - 1) 0 < length table
      undoing_slot = omega (arith, u.can.slot_in (i - 1) (omega (arith, u.within)), u.same_table)

      -- h is what the slot held
      pub undoing_turn : (h : ℕ) → h ≡ slot_held (i - 1) takers ranks →
          Undoing noted last takers taken ranks reach₀ table₀ (set reach (get_or takers (i - 1) 0) (at + 1)) (set table (get_or taken (i - 1) 0) h)
          (get_or taken (i - 1) 0) (i - 1)
      undoing_turn h is =
          record {
            can = u.can;
            within = omega (arith, u.within);
            at_in = omega (arith, undoing_slot, u.same_table, u.can.small);
            same_reach = length-set reach (get_or takers (i - 1) 0) (at + 1) ∙ u.same_reach;
            same_table = length-set table (get_or taken (i - 1) 0) h ∙ u.same_table;
            reach_rest = sym (reach_turn at takers taken reach i l) ∙ u.reach_rest;
            table_rest = rw is (sym (table_turn takers taken ranks table i l) ∙ u.table_rest);
          }
