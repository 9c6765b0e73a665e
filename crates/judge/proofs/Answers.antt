-- The judge's answer in each case, from what the checks said.
use Rattle.std.specs.Prelude.{Err, Ok, Result}
use Prim.Native.Nat.{ℕ}
use mathlib.Core.Path.{◌≡◌, refl, sym, ap, subst, ◌∙◌}
use mathlib.Core.List.{List}
use lib.ListN.{length, take}
use Rattle.sched.specs.Jobs.{Jobs}
use Rattle.sched.specs.Checks.{and_then, length_check, check_of}
use Rattle.sched.proofs.Checks.Laws.{then_fails, then_passes}
use Rattle.sched.specs.Energy.{table_figures}
use Rattle.sched.specs.declared.Refusal.{Refusal}
use Rattle.judge.specs.Faults.{slot_fault, faults_check}
use Rattle.judge.specs.Verdict.{accepts, judge_check, judged, judged_number, judged_values, Just, Judges}
use Rattle.judge.proofs.Verdict.Laws.{faults_decide}
use Rattle.judge.proofs.Theorems.{accepted_checked, judge_is_just}
use Rattle.sched.specs.declared.Figures.{Figures}
use Rattle.sched.specs.Refusals.{Checked}

module _ (J : Jobs) (table : List ℕ) where
  judges : (c : Checked) (answer : Result Figures Refusal) → judge_check J table ≡ c → answer ≡ accepts c (table_figures J (take J.horizon table)) → Judges J table answer
  unfolding judged
  judges c answer e a =
      let same : answer ≡ judged J table = a ∙ ap (λ (x : Checked). accepts x (table_figures J (take J.horizon table))) (sym e) in
      record {
        number = ap judged_number same;
        values = ap judged_values same;
        same = same;
        checked = λ z. accepted_checked J table (sym (ap judged_number same) ∙ z);
        just = λ p l. subst (Just J (take J.horizon table)) (sym same) (judge_is_just J table p l);
      }

  long : Checked
  long = length_check (length table) J.horizon

  faults : Checked
  faults = faults_check J.releases J.deadlines J.volumes (take J.horizon table)

  pub list_refused : (r : Refusal) → check_of J ≡ Err r → Judges J table (Err r)
  unfolding long faults
  list_refused r e = judges (Err r) (Err r) (then_fails (check_of J) (and_then long faults) r e) refl

  module _ (e : check_of J ≡ Ok tt) where
    pub table_refused : (r : Refusal) → length_check (length table) J.horizon ≡ Err r → Judges J table (Err r)
    unfolding long faults
    table_refused r f = judges (Err r) (Err r) (then_passes (check_of J) (and_then long faults) e ∙ then_fails long faults r f) refl

    pub slots_judged : (answer : Result Figures Refusal) → length_check (length table) J.horizon ≡ Ok tt →
        answer ≡ accepts (faults_check J.releases J.deadlines J.volumes (take J.horizon table)) (table_figures J (take J.horizon table)) →
        Judges J table answer
    unfolding faults
    slots_judged answer f a = judges faults answer (faults_decide slot_fault J table e f) a
