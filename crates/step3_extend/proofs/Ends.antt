-- Sums of units and ends of jobs by one pass.
use Prim.Native.Nat.{ℕ, ◌+◌, ◌≤◌, ◌<◌, suc}
use mathlib.Core.Path.{◌≡◌, refl, ap, sym, ◌∙◌}
use mathlib.Core.List.{List, [], ◌∷◌}
use native.Mathlib.Omega.{arith}
use native.Mathlib.Numerals.{add-one}
use native.Mathlib.Decide.{ℕ_discrete}
use lib.ListN.{length, get_or, set, take, replicate, length-set, length-replicate, get_or-replicate}
use lib.Seq.{get_or-set_same, get_or-set_other}
use Rattle.std.proofs.Common.{sum}
use Rattle.std.proofs.lemmas.List.{get_or-take, length-take-le}
use Rattle.std.proofs.lemmas.List.Sums.{sum_by-cons}
use Rattle.sched.specs.Bounded.{sum_below, total}
use Rattle.sched.proofs.Bounded.Laws.{sum_ext, sum_total}
use Rattle.laws_edf.specs.Search.{state_of}
use Rattle.laws_extension.specs.Chain.{end_below, end_of}
use Rattle.laws_extension.specs.Chain.Ends.{end_here, end_lower}
use Rattle.step3_extend.specs.Beginning.{EndsOf}

total_is : (l : List ℕ) → total l ≡ sum l
unfolding total
total_is [] = refl
total_is (x ∷ l) = ap (λ (k : ℕ). x + k) (total_is l) ∙ sym (sum_by-cons (λ (y : ℕ). y) x l)

-- the sum of the units
pub sum_is : (lost : List ℕ) → sum lost ≡ sum_below (length lost) (state_of lost)
sum_is lost = sym (sum_total lost ∙ total_is lost)

-- so many of them in front
pub sum_in_front : (lost : List ℕ) (n : ℕ) → n ≤ length lost → sum_below (length (take n lost)) (state_of (take n lost)) ≡ sum_below n (state_of lost)
sum_in_front lost n l = rw (length-take-le n lost l) (sum_ext n (state_of (take n lost)) (state_of lost) (λ j m. get_or-take n lost j 0 m))

-- The ends of the jobs in the first t slots

pub record EndsTo (table ends : List ℕ) (t : ℕ) : Type 0 where
  pub small : length table ≤ 4096
  pub long : length ends ≡ 64
  pub within : t ≤ length table
  pub each : (j : ℕ) → j < 64 → get_or ends j 0 ≡ end_below j t table

module _ (table : List ℕ) where
  pub ends_start : length table ≤ 4096 → EndsTo table (replicate 64 0) 0
  unfolding end_below
  ends_start l =
      record {
        small = l;
        long = length-replicate {A = ℕ} 64 0;
        within = omega arith;
        each = λ j m. get_or-replicate 64 j 0 0 m;
      }

  module _ (ends : List ℕ) (t : ℕ) (s : EndsTo table ends t) (l : t < length table) where
    pub ends_turn : get_or table t 0 < 64 → EndsTo table (set ends (get_or table t 0) (t + 1)) (t + 1)
    ends_turn b =
        record {
          small = s.small;
          long = length-set ends (get_or table t 0) (t + 1) ∙ s.long;
          within = omega arith;
          each = λ j m. rw (add-one t) (go j m (ℕ_discrete j (get_or table t 0)));
        }
      where
        go : (j : ℕ) → j < 64 → Dec (j ≡ get_or table t 0) → get_or (set ends (get_or table t 0) (suc t)) j 0 ≡ end_below j (suc t) table
        go j m (yes q) =
            rw q
            (get_or-set_same ends (get_or table t 0) (suc t) 0 (omega (arith, s.long)) ∙ sym (end_here (get_or table t 0) t table refl))
        go j m (no q) =
            get_or-set_other ends (get_or table t 0) j (suc t) 0 q ∙ s.each j m ∙ sym (end_lower j t table (λ e. q (sym e)))

    pub ends_pass : 64 ≤ get_or table t 0 → EndsTo table ends (t + 1)
    ends_pass b =
        record {
          small = s.small;
          long = s.long;
          within = omega arith;
          each = λ j m. rw (add-one t) (s.each j m ∙ sym (end_lower j t table (λ e. omega arith)));
        }

  pub ends_done : (ends : List ℕ) (t : ℕ) → EndsTo table ends t → length table ≤ t → EndsOf table ends
  unfolding end_of
  ends_done ends t s l =
      let q : t ≡ length table = omega (arith, s.within) in
      record { each = λ j m. s.each j m ∙ ap (λ (i : ℕ). end_below j i table) q }
