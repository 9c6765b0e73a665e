-- A table of H bytes has no fault exactly when it is feasible for the list.
use Prim.Native.Nat.{ℕ, zero, suc, ◌+◌, ◌≤◌, ◌<◌}
use Rattle.std.specs.Prelude.{◌≡◌, false, List, get_or, take, leb, ltb, Ok}
use Rattle.std.proofs.Math.Path.{refl, ap}
use Rattle.std.proofs.Common.{◌∙◌, arith, le-ltb, leb-false, ltb-false}
use Rattle.std.proofs.Math.Decide.{ℕ_discrete}
use Rattle.std.proofs.lemmas.Bool.{lt-leb}
use Rattle.std.proofs.Math.ListN.{length}
use Rattle.std.proofs.Math.Seq.{take-length}
use Rattle.sched.specs.Jobs.{Jobs, count, release, deadline, volume}
use Rattle.sched.specs.Slots.{times}
use Rattle.sched.specs.Checks.{Passes, and_then}
use Rattle.sched.proofs.Checks.Laws.{refuse_passed, then_passed}
use Rattle.sched.specs.Feasible.{Feasible}
use Rattle.sched.specs.declared.Refusal.TheVariants.{TooRare}
use Rattle.sched.proofs.Slots.Laws.{times_front, times_named, times_unnamed, times_none}
use Rattle.judge.specs.Faults.{spent_in, slot_fault, slot_check, slots_from, rare_from, faults_by, faults_check}
use Rattle.judge.proofs.Faults.Laws.{GoodSlot, slot_good, good_passes}
use Rattle.sched.specs.Refusals.{Checked}

-- all slots, and all jobs, pass where each one does

module _ (rs ds ps table : List ℕ) where
  slots_each : (k t : ℕ) → slots_from slot_fault k t rs ds ps table ≡ Ok tt → (i : ℕ) → t ≤ i → i < t + k → slot_check slot_fault rs ds ps table i ≡ Ok tt
  unfolding slots_from
  slots_each zero t e i a b = absurd (omega arith)
  slots_each (suc k) t e i a b = go (ℕ_discrete i t) (slots_each k (suc t) both.1 i)
    where
      both : (slot_check slot_fault rs ds ps table t ≡ Ok tt) × (slots_from slot_fault k (suc t) rs ds ps table ≡ Ok tt)
      both = then_passed (slot_check slot_fault rs ds ps table t) (slots_from slot_fault k (suc t) rs ds ps table) e

      go : Dec (i ≡ t) → (suc t ≤ i → i < suc t + k → slot_check slot_fault rs ds ps table i ≡ Ok tt) → slot_check slot_fault rs ds ps table i ≡ Ok tt
      go (yes q) ih = rw q both.0
      go (no n) ih = ih (omega arith) (omega arith)

  slots_all : (k t : ℕ) → ((i : ℕ) → t ≤ i → i < t + k → slot_check slot_fault rs ds ps table i ≡ Ok tt) → slots_from slot_fault k t rs ds ps table ≡ Ok tt
  unfolding slots_from
  slots_all zero t each = refl
  slots_all (suc k) t each =
      ap (λ (c : Checked). and_then c (slots_from slot_fault k (suc t) rs ds ps table)) (each t (omega arith) (omega arith))
      ∙ slots_all k (suc t) (λ i a b. each i (omega arith) (omega arith))

module _ (named : ℕ → ℕ) (ps : List ℕ) where
  rare_each : (k j : ℕ) → rare_from k j named ps ≡ Ok tt → (i : ℕ) → j ≤ i → i < j + k → get_or ps i 0 ≤ named i
  unfolding rare_from
  rare_each zero j e i a b = absurd (omega arith)
  rare_each (suc k) j e i a b = go (ℕ_discrete i j) (rare_each k (suc j) both.1 i)
    where
      both : (ltb (named j) (get_or ps j 0) ≡ false) × (rare_from k (suc j) named ps ≡ Ok tt)
      both = refuse_passed (ltb (named j) (get_or ps j 0)) (TooRare j) (rare_from k (suc j) named ps) e

      go : Dec (i ≡ j) → (suc j ≤ i → i < suc j + k → get_or ps i 0 ≤ named i) → get_or ps i 0 ≤ named i
      go (yes q) ih = rw q (ltb-false (named j) (get_or ps j 0) both.0)
      go (no n) ih = ih (omega arith) (omega arith)

  rare_all : (k j : ℕ) → ((i : ℕ) → j ≤ i → i < j + k → get_or ps i 0 ≤ named i) → rare_from k j named ps ≡ Ok tt
  unfolding rare_from
  rare_all zero j each = refl
  rare_all (suc k) j each =
      simp (le-ltb (named j) (get_or ps j 0) (each j (omega arith) (omega arith)))
      (rare_all k (suc j) (λ i a b. each i (omega arith) (omega arith)))

module _ (J : Jobs) (table : List ℕ) (p : Passes J) (long : length table ≡ J.horizon) where
  -- the byte of slot t, and what the check of that slot looks at
  abbrev GoodAt : ℕ → Type 0
  GoodAt t =
      let byte = get_or table t 0 in
      GoodSlot (count J) (release J byte) (deadline J byte) t byte (spent_in J.volumes (take t table) byte)

  -- no job is named more than p times before slot t
  at_most : ((t : ℕ) → t < length table → GoodAt t) → (j : ℕ) → j < count J → (t : ℕ) → t ≤ length table → times j (take t table) ≤ volume J j
  at_most good j m zero l = omega (arith, times_none j)
  at_most good j m (suc t) l = go (ℕ_discrete (get_or table t 0) j) (at_most good j m t (omega arith))
    where
      go : Dec (get_or table t 0 ≡ j) → times j (take t table) ≤ volume J j → times j (take (suc t) table) ≤ volume J j
      go (yes q) ih =
          let unspent : leb (volume J j) (times j (take t table)) ≡ false = rw q at ((good t (omega arith)).unspent (rw q m)) in
          omega (arith, leb-false (volume J j) (times j (take t table)) unspent, times_named j t table (omega arith) q)
      go (no n) ih = omega (arith, times_unnamed j t table (omega arith) n)

  pub faultless_feasible : faults_check J.releases J.deadlines J.volumes table ≡ Ok tt → Feasible J table
  unfolding faults_by
  faultless_feasible e =
      let both = then_passed (slots_from slot_fault (length table) 0 J.releases J.deadlines J.volumes table) (rare_from (count J) 0 (λ j. times j table) J.volumes) e in
      let good : (t : ℕ) → t < length table → GoodAt t = λ t l. slot_good (count J) (release J (get_or table t 0)) (deadline J (get_or table t 0)) t (get_or table t 0) (spent_in J.volumes (take t table) (get_or table t 0)) (slots_each J.releases J.deadlines J.volumes table (length table) 0 both.0 t (omega arith) (omega arith)) in
      record {
        long = long;
        known = λ t l. (good t (omega arith)).known;
        own = λ t l m. record { released = (good t (omega arith)).released m; before = (good t (omega arith)).before m };
        exact = λ j m.
            let up : times j (take (length table) table) ≤ volume J j = at_most good j m (length table) (omega arith) in
            let whole : times j (take (length table) table) ≡ times j table = ap (times j) (take-length table) in
            omega (arith, rare_each (λ i. times i table) J.volumes (count J) 0 both.1 j (omega arith) (omega arith));
      }

  pub feasible_faultless : Feasible J table → faults_check J.releases J.deadlines J.volumes table ≡ Ok tt
  unfolding faults_by
  feasible_faultless f =
      ap (λ (c : Checked). and_then c (rare_from (count J) 0 (λ j. times j table) J.volumes))
      (slots_all J.releases J.deadlines J.volumes table (length table) 0 (λ t a b. slot t (omega arith)))
      ∙ rare_all (λ j. times j table) J.volumes (count J) 0 (λ j a b. enough j (omega arith))
    where
      enough : (j : ℕ) → j < count J → volume J j ≤ times j table
      enough j m = omega (arith, f.exact j m)

      -- an earlier slot has not used up what this one needs
      left : (t : ℕ) → t < length table → get_or table t 0 < count J → times (get_or table t 0) (take t table) < volume J (get_or table t 0)
      left t l m =
          omega (arith, times_named (get_or table t 0) t table l refl, times_front (get_or table t 0) (suc t) table, f.exact (get_or table t 0) m)

      slot : (t : ℕ) → t < length table → slot_check slot_fault J.releases J.deadlines J.volumes table t ≡ Ok tt
      slot t l =
          good_passes (count J) (release J (get_or table t 0)) (deadline J (get_or table t 0)) t (get_or table t 0) (spent_in J.volumes (take t table) (get_or table t 0)) p.few
          (record {
            known = f.known t (omega arith);
            unspent = λ m. lt-leb (volume J (get_or table t 0)) (times (get_or table t 0) (take t table)) (left t l m);
            released = λ m. (f.own t (omega arith) m).released;
            before = λ m. (f.own t (omega arith) m).before;
          })
