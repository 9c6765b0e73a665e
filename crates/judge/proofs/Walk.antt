-- The pass over the slots and the pass over the jobs: a turn that goes on, a turn that refuses, and the end.
use Rattle.std.specs.Prelude.{Err, Ok}
use Prim.Native.Nat.{ℕ, zero, suc, ◌+◌, ◌-◌, ◌≤◌, ◌<◌}
use mathlib.Core.Path.{◌≡◌, refl, sym, ap, ap₂, ◌∙◌}
use mathlib.Core.Bool.{Bool, true, false}
use mathlib.Core.List.{List, [], ◌∷◌}
use native.Mathlib.Numerals.{add-one}
use native.Mathlib.Nat.{sub-zero}
use native.Mathlib.Decide.{ℕ_discrete}
use native.Mathlib.Omega.{arith}
use borrow.Author.Tests.{lt-ltb, le-ltb, ltb-true}
use lib.ListN.{length, get_or, set, take, replicate, length-set, length-replicate, get_or-replicate}
use lib.Seq.{length-take-le, take_all, get_or-set_same, get_or-set_other}
use lib.Dec.{leb, ltb}
use Rattle.sched.proofs.Bounded.Laws.{by_bool}
use Rattle.sched.specs.Slots.{times}
use Rattle.sched.specs.Checks.{refuse_if, and_then}
use Rattle.sched.specs.declared.Refusal.{Refusal}
use Rattle.sched.specs.declared.Refusal.TheVariants.{TooRare}
use Rattle.sched.proofs.Slots.Laws.{times_none, times_same, times_other, times_named, times_unnamed}
use Rattle.judge.specs.Faults.{Sized, slot_fault, slot_check, slots_from, rare_from, faults_by, faults_check}
use Rattle.sched.specs.Refusals.{Checked}

-- the jobs

module _ (named : ℕ → ℕ) (ps : List ℕ) (all : Checked) (n j : ℕ) (e : all ≡ rare_from (n - j) j named ps) where
  rare_turn : j < n → rare_from (n - j) j named ps ≡ refuse_if (ltb (named j) (get_or ps j 0)) (TooRare j) (rare_from (n - (j + 1)) (j + 1) named ps)
  unfolding rare_from
  rare_turn l = let q : n - j ≡ suc (n - (j + 1)) = omega arith in rw (q, ← add-one j)

  pub rare_next : j < n → get_or ps j 0 ≤ named j → all ≡ rare_from (n - (j + 1)) (j + 1) named ps
  rare_next l f = e ∙ rare_turn l ∙ simp (le-ltb (named j) (get_or ps j 0) f)

  pub rare_stop : j < n → named j < get_or ps j 0 → Err (TooRare j) ≡ all
  rare_stop l f = sym (e ∙ rare_turn l ∙ simp (lt-ltb (named j) (get_or ps j 0) f))

  pub rare_end : n ≤ j → (Ok tt) ≡ all
  unfolding rare_from
  rare_end l = let z : n - j ≡ 0 = omega arith in sym (rw z at e)

-- only the counts of the jobs matter
pub rare_same : (k j : ℕ) (f g : ℕ → ℕ) (ps : List ℕ) → ((i : ℕ) → i < j + k → f i ≡ g i) → rare_from k j f ps ≡ rare_from k j g ps
unfolding rare_from
rare_same zero j f g ps e = refl
rare_same (suc k) j f g ps e =
    ap₂ (λ (x : ℕ) (c : Checked). refuse_if (ltb x (get_or ps j 0)) (TooRare j) c) (e j (omega arith))
    (rare_same k (suc j) f g ps (λ i l. e i (omega arith)))

-- the slots

-- what earlier slots named matters only of a job
pub spent_same : (n r d t byte : ℕ) (a b : Bool) → (byte < n → a ≡ b) → slot_fault n r d t byte a ≡ slot_fault n r d t byte b
spent_same n r d t byte a b e = by_bool (ltb byte n) (λ y. job y) (λ y. other y)
  where
    job : ltb byte n ≡ true → slot_fault n r d t byte a ≡ slot_fault n r d t byte b
    job y = ap (slot_fault n r d t byte) (e (ltb-true byte n y))

    other : ltb byte n ≡ false → slot_fault n r d t byte a ≡ slot_fault n r d t byte b
    other y = simp y

-- how often each job stands in the slots before t
abbrev pub Counts : ℕ → List ℕ → List ℕ → ℕ → Type 0
Counts n named table t = (j : ℕ) → j < n → get_or named j 0 ≡ times j (take t table)

module _ (n : ℕ) (named table : List ℕ) (t : ℕ) (l : t < length table) (counts : Counts n named table t) where
  counts_job : n ≤ length named → get_or table t 0 < n → Counts n (set named (get_or table t 0) (get_or named (get_or table t 0) 0 + 1)) table (t + 1)
  counts_job long b j m = rw (add-one t) (go (ℕ_discrete (get_or table t 0) j))
    where
      go : Dec (get_or table t 0 ≡ j) → get_or (set named (get_or table t 0) (get_or named (get_or table t 0) 0 + 1)) j 0 ≡ times j (take (suc t) table)
      go (yes e) = rw e (get_or-set_same named j (get_or named j 0 + 1) 0 (omega arith) ∙ omega (arith, counts j m, times_named j t table l e))
      go (no e) =
          get_or-set_other named (get_or table t 0) j (get_or named (get_or table t 0) 0 + 1) 0 (λ q. e (sym q)) ∙ counts j m
          ∙ sym (times_unnamed j t table l e)

  counts_other : n ≤ get_or table t 0 → Counts n named table (t + 1)
  counts_other b j m = rw (add-one t) (counts j m ∙ sym (times_unnamed j t table l (omega arith)))

-- no byte stands more often than there are slots
times_most : (j : ℕ) (l : List ℕ) → times j l ≤ length l
times_most j [] = omega (arith, times_none j)
times_most j (x ∷ l) = go (ℕ_discrete x j) (times_most j l)
  where
    go : Dec (x ≡ j) → times j l ≤ length l → times j (x ∷ l) ≤ length (x ∷ l)
    go (yes e) ih = omega (arith, times_same j x l e)
    go (no e) ih = omega (arith, times_other j x l e)

-- what the whole check gives is what is left to check from slot t on
pub record Walk (rs ds ps table named : List ℕ) (t : ℕ) : Type 0 where
  pub counters : length named ≡ 64
  pub counts : Counts (length rs) named table t
  pub rest : faults_check rs ds ps table ≡ and_then (slots_from slot_fault (length table - t) t rs ds ps table) (rare_from (length rs) 0 (λ j. times j table) ps)

pub walk_start : (rs ds ps table : List ℕ) → Sized rs ds ps → Walk rs ds ps table (replicate 64 0) 0
unfolding faults_by times
walk_start rs ds ps table z =
    record {
      counters = length-replicate {A = ℕ} 64 0;
      counts = λ j l. get_or-replicate {A = ℕ} 64 j 0 0 (omega (arith, z.few));
      rest = simp sub-zero;
    }

module _ (rs ds ps table named : List ℕ) (t : ℕ) (w : Walk rs ds ps table named t) where
  -- the fault of slot t, by the counters
  abbrev pub fault_here : Checked
  fault_here =
      let byte = get_or table t 0 in
      slot_fault (length rs) (get_or rs byte 0) (get_or ds byte 0) t byte (leb (get_or ps byte 0) (get_or named byte 0))

  fault_here_lem : fault_here ≡ slot_check slot_fault rs ds ps table t
  fault_here_lem =
      spent_same (length rs) (get_or rs (get_or table t 0) 0) (get_or ds (get_or table t 0) 0) t (get_or table t 0) _ _
      (λ l. ap (leb (get_or ps (get_or table t 0) 0)) (w.counts (get_or table t 0) l))

  slots_turn : t < length table → slots_from slot_fault (length table - t) t rs ds ps table ≡ and_then (slot_check slot_fault rs ds ps table t) (slots_from slot_fault (length table - (t + 1)) (t + 1) rs ds ps table)
  unfolding slots_from
  slots_turn l = let q : length table - t ≡ suc (length table - (t + 1)) = omega arith in rw (q, ← add-one t)

  -- the rest after a turn in which slot t gave c
  turned : (c : Checked) → t < length table → fault_here ≡ c → faults_check rs ds ps table ≡ and_then (and_then c (slots_from slot_fault (length table - (t + 1)) (t + 1) rs ds ps table)) (rare_from (length rs) 0 (λ j. times j table) ps)
  turned c l e =
      w.rest
      ∙ ap (λ (x : Checked). and_then x (rare_from (length rs) 0 (λ j. times j table) ps))
      (slots_turn l
      ∙ ap (λ (x : Checked). and_then x (slots_from slot_fault (length table - (t + 1)) (t + 1) rs ds ps table)) (sym fault_here_lem ∙ e))

  pub walk_job : Sized rs ds ps → t < length table → get_or table t 0 < length rs → fault_here ≡ Ok tt → Walk rs ds ps table (set named (get_or table t 0) (get_or named (get_or table t 0) 0 + 1)) (t + 1)
  walk_job z l b e =
      record {
        counters = simp length-set w.counters;
        counts = counts_job (length rs) named table t l w.counts (omega (arith, z.few, w.counters)) b;
        rest = turned (Ok tt) l e;
      }

  pub walk_other : t < length table → length rs ≤ get_or table t 0 → fault_here ≡ Ok tt → Walk rs ds ps table named (t + 1)
  walk_other l b e =
      record {
        counters = w.counters;
        counts = counts_other (length rs) named table t l w.counts b;
        rest = turned (Ok tt) l e;
      }

  pub walk_stop : (r : Refusal) → t < length table → fault_here ≡ Err r → Err r ≡ faults_check rs ds ps table
  walk_stop r l e = sym (turned (Err r) l e)

  -- a job was named in earlier slots only
  pub walk_fits : t < length table → get_or table t 0 < length rs → get_or named (get_or table t 0) 0 ≤ t
  walk_fits l b =
      let j = get_or table t 0 in
      omega (arith, w.counts j b, times_most j (take t table), length-take-le t table (omega arith))

  pub walk_end : Sized rs ds ps → length table ≤ t → rare_from (length ps) 0 (λ j. get_or named j 0) ps ≡ faults_check rs ds ps table
  unfolding slots_from
  walk_end z l =
      let n : length table - t ≡ 0 = omega arith in
      let full : take t table ≡ table = take_all t table l in
      rw z.same_volumes
      (rare_same (length rs) 0 (λ j. get_or named j 0) (λ j. times j table) ps
      (λ i m. w.counts i (omega arith) ∙ ap (times i) full)
      ∙ sym (rw n at w.rest))
