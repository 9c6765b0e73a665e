-- 02, card 3: which answers the order of the two checks changes, by the words of `specs/Theorems/SpanFirst`.
use Prim.Native.Nat.{ℕ, zero, suc, ◌+◌, ◌≤◌, ◌<◌}
use Rattle.std.specs.Prelude.{◌≡◌, Bool, true, false, not, ◌&&◌, ◌||◌, ◌↔◌, ◌⊎◌, length, get_or, leb, ltb, eqb, Err, Ok, Result}
use Rattle.std.proofs.Math.Path.{refl, ap}
use Rattle.std.proofs.Common.{sym, ◌∙◌, arith, le-leb, lt-ltb, leb-true, ltb-true, ltb-false}
use mathlib.Core.List.{List}
use Rattle.std.proofs.Math.Logic.{inl, inr}
use Rattle.std.proofs.Math.Decide.{ℕ_discrete}
use Rattle.std.proofs.lemmas.Bool.{lt-leb}
use Rattle.std.proofs.Math.ListN.{take}
use Rattle.sched.proofs.Bounded.Laws.{lt_suc, by_bool, and_true, or_true}
use Rattle.sched.specs.Jobs.{Jobs, count, release, deadline, volume}
use Rattle.sched.specs.Slots.{times, idle, asleep}
use Rattle.sched.specs.Energy.{table_figures}
use Rattle.sched.specs.Checks.{refuse_if, and_then, length_check, check_of}
use Rattle.sched.proofs.Checks.Laws.{then_fails, then_passes, passed_passes, passes_passed, length_good, length_passes, refused_not_passed}
use Rattle.sched.specs.declared.Refusal.{Refusal}
use Rattle.sched.specs.declared.Refusal.TheVariants.{BadByte, TooOften, OutOfSpan}
use Rattle.judge.specs.Faults.{SlotCheck, slot_fault, spent_in, slot_check, slots_from, rare_from, faults_by}
use Rattle.judge.proofs.Faults.Laws.{early_refused, late_refused}
use Rattle.judge.specs.Verdict.{accepts, judge_check_by, judged, judged_number, judged_values}
use Rattle.judge.proofs.Verdict.Laws.{faults_decide}
use Rattle.judge.specs.Theorems.SpanFirst.{slot_fault_before, judged_before, BothFaults, LowestHasBoth, Changes, SpanTold}
use Rattle.sched.specs.declared.Figures.{Figures}
use Rattle.sched.specs.Refusals.{Checked}

-- two tests in either order: both hold, or the answer is the same
in_either_order : (unknown outside often : Bool) (x y z : Refusal) → ((outside ≡ true) × (often ≡ true)) ⊎
    (refuse_if unknown x (refuse_if often z (refuse_if outside y (Ok tt))) ≡ refuse_if unknown x (refuse_if outside y (refuse_if often z (Ok tt))))
in_either_order unknown true true x y z = inl (refl, refl)
in_either_order unknown true false x y z = inr refl
in_either_order unknown false often x y z = inr refl

module _ (J : Jobs) (slots : List ℕ) where
  abbrev slot_by : SlotCheck → ℕ → Checked
  slot_by fault t = slot_check fault J.releases J.deadlines J.volumes slots t

  abbrev slots_by : SlotCheck → ℕ → ℕ → Checked
  slots_by fault k t = slots_from fault k t J.releases J.deadlines J.volumes slots

  abbrev faults_of : SlotCheck → Checked
  faults_of fault = faults_by fault J.releases J.deadlines J.volumes slots

  -- One slot

  module _ (t : ℕ) where
    abbrev byte : ℕ
    byte = get_or slots t 0

    both_or_same : BothFaults J slots t ⊎ (slot_by slot_fault_before t ≡ slot_by slot_fault t)
    both_or_same = go (in_either_order unknown (known && span) (known && often) (BadByte t) (OutOfSpan t) (TooOften t))
      where
        unknown : Bool
        unknown = leb (count J) byte && not (eqb byte idle) && not (eqb byte asleep)

        known : Bool
        known = ltb byte (count J)

        span : Bool
        span = ltb t (release J byte) || leb (deadline J byte) t

        often : Bool
        often = spent_in J.volumes (take t slots) byte

        side : (ltb t (release J byte) ≡ true) ⊎ (leb (deadline J byte) t ≡ true) → (t < release J byte) ⊎ (deadline J byte ≤ t)
        side (inl e) = inl (ltb-true t (release J byte) e)
        side (inr e) = inr (leb-true (deadline J byte) t e)

        go : ((known && span ≡ true) × (known && often ≡ true)) ⊎ (slot_by slot_fault_before t ≡ slot_by slot_fault t) →
            BothFaults J slots t ⊎ (slot_by slot_fault_before t ≡ slot_by slot_fault t)
        go (inl (a, b)) =
            inl (record {
              job = ltb-true byte (count J) (and_true known span a).0;
              spent = leb-true (volume J byte) (times byte (take t slots)) (and_true known often b).1;
              outside = side (or_true (ltb t (release J byte)) (leb (deadline J byte) t) (and_true known span a).1);
            })
        go (inr e) = inr e

    both_before : BothFaults J slots t → slot_by slot_fault_before t ≡ Err (TooOften t)
    both_before b =
        simp (lt-leb (count J) byte b.job, lt-ltb byte (count J) b.job, le-leb (volume J byte) (times byte (take t slots)) b.spent)

    both_now : BothFaults J slots t → slot_by slot_fault t ≡ Err (OutOfSpan t)
    both_now b = sym (go b.outside)
      where
        spent : Bool
        spent = spent_in J.volumes (take t slots) byte

        early : t < release J byte → Err (OutOfSpan t) ≡ slot_by slot_fault t
        early = early_refused (count J) (release J byte) (deadline J byte) t byte spent b.job

        go : (t < release J byte) ⊎ (deadline J byte ≤ t) → Err (OutOfSpan t) ≡ slot_by slot_fault t
        go (inl e) = early e
        go (inr e) =
            by_bool (ltb t (release J byte)) (λ y. early (ltb-true t (release J byte) y))
            (λ y. late_refused (count J) (release J byte) (deadline J byte) t byte spent b.job (ltb-false t (release J byte) y) e)

    -- a slot that passes in one order passes in the other
    pub faulty_as_before : slot_by slot_fault_before t ≡ (Ok tt) ↔ slot_by slot_fault t ≡ Ok tt
    faulty_as_before = (λ e. now e both_or_same, λ e. before e both_or_same)
      where
        now : slot_by slot_fault_before t ≡ Ok tt → BothFaults J slots t ⊎ (slot_by slot_fault_before t ≡ slot_by slot_fault t) → slot_by slot_fault t ≡ Ok tt
        now e (inl b) = refused_not_passed (TooOften t) (sym (both_before b) ∙ e)
        now e (inr same) = sym same ∙ e

        before : slot_by slot_fault t ≡ Ok tt → BothFaults J slots t ⊎ (slot_by slot_fault_before t ≡ slot_by slot_fault t) → slot_by slot_fault_before t ≡ Ok tt
        before e (inl b) = refused_not_passed (OutOfSpan t) (sym (both_now b) ∙ e)
        before e (inr same) = same ∙ e

  -- All slots

  -- the lowest that does not pass is told
  lowest_told : (fault : SlotCheck) (at : ℕ) (r : Refusal) (k t : ℕ) → t ≤ at → at < t + k → ((i : ℕ) → i < at → slot_by fault i ≡ Ok tt) →
      slot_by fault at ≡ Err r → slots_by fault k t ≡ Err r
  unfolding slots_from
  lowest_told fault at r zero t from to lower here = absurd (omega arith)
  lowest_told fault at r (suc k) t from to lower here = go (ℕ_discrete t at) (λ a b. lowest_told fault at r k (suc t) a b lower here)
    where
      go : Dec (t ≡ at) → (suc t ≤ at → at < suc t + k → slots_by fault k (suc t) ≡ Err r) → slots_by fault (suc k) t ≡ Err r
      go (yes q) later = then_fails (slot_by fault t) (slots_by fault k (suc t)) r (rw q here)
      go (no n) later =
          then_passes (slot_by fault t) (slots_by fault k (suc t)) (lower t (omega arith)) ∙ later (omega arith) (omega arith)

  faults_told : (fault : SlotCheck) (at : ℕ) (r : Refusal) → at < length slots → ((i : ℕ) → i < at → slot_by fault i ≡ Ok tt) →
      slot_by fault at ≡ Err r → faults_of fault ≡ Err r
  unfolding faults_by
  faults_told fault at r l lower here =
      then_fails (slots_by fault (length slots) 0) (rare_from (count J) 0 (λ j. times j slots) J.volumes) r
      (lowest_told fault at r (length slots) 0 (omega arith) (omega arith) lower here)

  -- the k slots from t on, where all below t pass
  lowest_or_same : (k t : ℕ) → t + k ≡ length slots → ((i : ℕ) → i < t → slot_by slot_fault i ≡ Ok tt) →
      LowestHasBoth J slots ⊎ (slots_by slot_fault_before k t ≡ slots_by slot_fault k t)
  unfolding slots_from
  lowest_or_same zero t all lower = inr refl
  lowest_or_same (suc k) t all lower = at (both_or_same t) (slot_by slot_fault t) refl (λ e. lowest_or_same k (suc t) (omega arith) (below e))
    where
      was : Checked
      was = slots_by slot_fault_before k (suc t)

      is : Checked
      is = slots_by slot_fault k (suc t)

      below : slot_by slot_fault t ≡ Ok tt → (i : ℕ) → i < suc t → slot_by slot_fault i ≡ Ok tt
      below e i l = by (lt_suc l)
        where
          by : (i < t) ⊎ (i ≡ t) → slot_by slot_fault i ≡ Ok tt
          by (inl m) = lower i m
          by (inr q) = rw q e

      later : slot_by slot_fault_before t ≡ slot_by slot_fault t → slot_by slot_fault t ≡ Ok tt → LowestHasBoth J slots ⊎ (was ≡ is) →
          LowestHasBoth J slots ⊎ (slots_by slot_fault_before (suc k) t ≡ slots_by slot_fault (suc k) t)
      later same e (inl w) = inl w
      later same e (inr q) =
          inr (then_passes (slot_by slot_fault_before t) was (same ∙ e) ∙ q ∙ sym (then_passes (slot_by slot_fault t) is e))

      at : BothFaults J slots t ⊎ (slot_by slot_fault_before t ≡ slot_by slot_fault t) → (c : Checked) → slot_by slot_fault t ≡ c →
          (slot_by slot_fault t ≡ Ok tt → LowestHasBoth J slots ⊎ (was ≡ is)) →
          LowestHasBoth J slots ⊎ (slots_by slot_fault_before (suc k) t ≡ slots_by slot_fault (suc k) t)
      at (inl b) c e rest = inl (record { at = t; within = omega arith; lower = lower; both = b })
      at (inr same) (Ok tt) e rest = later same e (rest e)
      at (inr same) (Err r) e rest =
          inr (then_fails (slot_by slot_fault_before t) was r (same ∙ e) ∙ sym (then_fails (slot_by slot_fault t) is r e))

  faults_or_same : LowestHasBoth J slots ⊎ (faults_of slot_fault_before ≡ faults_of slot_fault)
  unfolding faults_by
  faults_or_same = go (lowest_or_same (length slots) 0 (omega arith) (λ i l. absurd (omega arith)))
    where
      go : LowestHasBoth J slots ⊎ (slots_by slot_fault_before (length slots) 0 ≡ slots_by slot_fault (length slots) 0) →
          LowestHasBoth J slots ⊎ (faults_of slot_fault_before ≡ faults_of slot_fault)
      go (inl w) = inl w
      go (inr q) = inr (ap (λ (c : Checked). and_then c (rare_from (count J) 0 (λ j. times j slots) J.volumes)) q)

-- The theorems, for every list and table

module _ (J : Jobs) (table : List ℕ) where
  -- "22 becomes 23 with the same place", the lowest faulty slot
  pub both_told : (w : Changes J table) → SpanTold w.lowest.at (judged_before J table) (judged J table)
  unfolding judged
  both_told w =
      let slots = take J.horizon table in
      let e = passes_passed J w.list in
      let f = length_passes (length table) J.horizon w.long in
      let t = w.lowest.at in
      let before = faults_decide slot_fault_before J table e f ∙ faults_told J slots slot_fault_before t (TooOften t) w.lowest.within (λ i l. (faulty_as_before J slots i).1 (w.lowest.lower i l)) (both_before J slots t w.lowest.both) in
      let now = faults_decide slot_fault J table e f ∙ faults_told J slots slot_fault t (OutOfSpan t) w.lowest.within w.lowest.lower (both_now J slots t w.lowest.both) in
      let answer : Checked → (Result Figures Refusal) = λ c. accepts c (table_figures J slots) in
      record {
        was = ap (λ (c : Checked). judged_number (answer c)) before;
        is = ap (λ (c : Checked). judged_number (answer c)) now;
        place_before = ap (λ (c : Checked). judged_values (answer c)) before;
        place_now = ap (λ (c : Checked). judged_values (answer c)) now;
      }

  abbrev Same : Type 0
  Same = judged_before J table ≡ judged J table

  changes_or_same : Changes J table ⊎ Same
  unfolding judged
  changes_or_same = by_list (check_of J) refl
    where
      slots : List ℕ
      slots = take J.horizon table

      long : Checked
      long = length_check (length table) J.horizon

      behind : SlotCheck → Checked
      behind fault = and_then long (faults_of J slots fault)

      same : judge_check_by slot_fault_before J table ≡ judge_check_by slot_fault J table → Same
      same e = ap (λ (c : Checked). accepts c (table_figures J slots)) e

      reached : check_of J ≡ Ok tt → long ≡ Ok tt → LowestHasBoth J slots ⊎ (faults_of J slots slot_fault_before ≡ faults_of J slots slot_fault) → Changes J table ⊎ Same
      reached e f (inl w) = inl (record { list = passed_passes J e; long = length_good (length table) J.horizon f; lowest = w })
      reached e f (inr q) = inr (same (faults_decide slot_fault_before J table e f ∙ q ∙ sym (faults_decide slot_fault J table e f)))

      by_length : check_of J ≡ Ok tt → (c : Checked) → long ≡ c → Changes J table ⊎ Same
      by_length e (Ok tt) f = reached e f (faults_or_same J slots)
      by_length e (Err r) f =
          let short : (fault : SlotCheck) → judge_check_by fault J table ≡ Err r = λ fault. then_passes (check_of J) (behind fault) e ∙ then_fails long (faults_of J slots fault) r f in
          inr (same (short slot_fault_before ∙ sym (short slot_fault)))

      by_list : (c : Checked) → check_of J ≡ c → Changes J table ⊎ Same
      by_list (Ok tt) e = by_length e long refl
      by_list (Err r) e =
          inr (same (then_fails (check_of J) (behind slot_fault_before) r e ∙ sym (then_fails (check_of J) (behind slot_fault) r e)))

  -- "the answers that change are exactly those": both directions
  pub changed_iff : (judged_before J table ≡ judged J table → ⊥) ↔ Changes J table
  changed_iff = (λ other. go other changes_or_same, differ)
    where
      go : (Same → ⊥) → Changes J table ⊎ Same → Changes J table
      go other (inl w) = w
      go other (inr same) = absurd (other same)

      differ : Changes J table → Same → ⊥
      differ w same =
          let told = both_told w in
          let z : ◌≡◌ {A = ℕ} 22 23 = sym told.was ∙ ap judged_number same ∙ told.is in
          omega arith

  -- and every other answer is as it was
  pub others_as_before : (Changes J table → ⊥) → judged_before J table ≡ judged J table
  others_as_before none = go changes_or_same
    where
      go : Changes J table ⊎ Same → Same
      go (inl w) = absurd (none w)
      go (inr same) = same
