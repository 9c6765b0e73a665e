-- What the judge is worth. For a list that passes the list checks and a table of at least H bytes: it accepts exactly the tables that are
-- feasible in their first H bytes, and tells their energy, awake slots and runs. For every list and table: which jobs it refuses. What card 3 of
-- 02 changed: `SpanFirst`.
use Rattle.std.specs.Prelude.{ℕ, zero, suc, ◌≤◌, ◌≡◌, refl, List, length, get_or, take, ltb, Err, Ok}
use Rattle.std.proofs.Common.{sym, ap, subst, ◌∙◌, inl, inr, arith, length-take-le}
use Rattle.sched.specs.Jobs.{Jobs}
use Rattle.sched.proofs.Refusals.Laws.{refusal_number}
use Rattle.sched.specs.Energy.{table_figures}
use Rattle.sched.specs.Slots.{times}
use Rattle.sched.specs.Checks.{Passes, and_then, length_check, check_of}
use Rattle.sched.proofs.Passes.{passes}
use Rattle.sched.proofs.Checks.Laws.{then_passed, passed_passes, length_good, length_passes, refused_not_passed}
use Rattle.sched.specs.Feasible.{Feasible}
use Rattle.sched.proofs.Theorems.RefusesJob.{RefusesJob, not_job, other_if, other_then, other_passed, other_length}
use Rattle.sched.proofs.Theorems.TellsJob.{TellsJob, first_tells}
use Rattle.sched.specs.declared.Refusal.TheVariants.{TooRare}
use Rattle.judge.specs.Faults.{slot_fault, spent_in, slot_check, slots_from, rare_from, faults_by, faults_check}
use Rattle.judge.proofs.Faults.Laws.{slot_refuses_no_job}
use Rattle.judge.proofs.Faults.Feasibility.{faultless_feasible, feasible_faultless}
use Rattle.judge.specs.Verdict.{accepts, judge_check, judged, judged_number, judged_values, Just}
use Rattle.judge.proofs.Verdict.Laws.{faults_decide}
use Rattle.sched.specs.Refusals.{Checked}
pub mod SpanFirst

-- a table is accepted only for a list that passes the list checks, and only if it has at least H bytes
pub accepted_checked : (J : Jobs) (table : List ℕ) → judged_number (judged J table) ≡ 0 → Passes J × (J.horizon ≤ length table)
unfolding judged
accepted_checked J table z = by_check (judge_check J table) refl
  where
    by_check : (c : Checked) → judge_check J table ≡ c → Passes J × (J.horizon ≤ length table)
    by_check (Ok tt) e =
        let (list, rest) = then_passed (check_of J) _ e in
        let (long, faultless) = then_passed (length_check (length table) J.horizon) _ rest in
        (passed_passes J list, length_good (length table) J.horizon long)
    by_check (Err r) e =
        absurd (refusal_number r (sym (ap (λ (c : Checked). judged_number (accepts c (table_figures J (take J.horizon table)))) e) ∙ z))

-- an answer by a check that passes just what is feasible
just_check : (J : Jobs) (slots : List ℕ) (check : Checked) → (check ≡ Ok tt → Feasible J slots) → (Feasible J slots → check ≡ Ok tt) →
    Just J slots (accepts check (table_figures J slots))
just_check J slots (Ok tt) feasible faultless =
    record { accepted_feasible = λ z. feasible refl; feasible_accepted = λ f. refl; figures = λ z. refl }
just_check J slots (Err r) feasible faultless =
    record {
      accepted_feasible = λ z. absurd (refusal_number r z);
      feasible_accepted = λ f. refused_not_passed r (faultless f);
      figures = λ z. absurd (refusal_number r z);
    }

pub judge_is_just : (J : Jobs) (table : List ℕ) → Passes J → J.horizon ≤ length table → Just J (take J.horizon table) (judged J table)
unfolding judged
judge_is_just J table p l =
    let slots = take J.horizon table in
    let long = length-take-le J.horizon table l in
    subst (λ (c : Checked). Just J slots (accepts c (table_figures J slots)))
    (sym (faults_decide slot_fault J table ((passes J).1 p) (length_passes (length table) J.horizon l)))
    (just_check J slots (faults_check J.releases J.deadlines J.volumes slots) (faultless_feasible J slots p long)
    (feasible_faultless J slots p long))

-- 02, card 1: "The reader, planner, judge and list writer all change". The judge refuses a job exactly where the list checks do, by their number
-- and place: no fault of a table is told by 25, 15 or 26.

slots_refuse_no_job : (k t : ℕ) (rs ds ps table : List ℕ) → RefusesJob (slots_from slot_fault k t rs ds ps table) → ⊥
unfolding slots_from
slots_refuse_no_job zero t rs ds ps table = other_passed
slots_refuse_no_job (suc k) t rs ds ps table =
    let byte = get_or table t 0 in
    other_then (slot_check slot_fault rs ds ps table t) (slots_from slot_fault k (suc t) rs ds ps table)
    (slot_refuses_no_job (length rs) (get_or rs byte 0) (get_or ds byte 0) t byte (spent_in ps (take t table) byte))
    (slots_refuse_no_job k (suc t) rs ds ps table)

rare_refuses_no_job : (k j : ℕ) (named : ℕ → ℕ) (ps : List ℕ) → RefusesJob (rare_from k j named ps) → ⊥
unfolding rare_from
rare_refuses_no_job zero j named ps = other_passed
rare_refuses_no_job (suc k) j named ps =
    other_if (ltb (named j) (get_or ps j 0)) (TooRare j) (rare_from k (suc j) named ps) (not_job 24 (inr (omega arith, omega arith)))
    (rare_refuses_no_job k (suc j) named ps)

faults_refuse_no_job : (rs ds ps table : List ℕ) → RefusesJob (faults_check rs ds ps table) → ⊥
unfolding faults_by
faults_refuse_no_job rs ds ps table =
    other_then (slots_from slot_fault (length table) 0 rs ds ps table) (rare_from (length rs) 0 (λ j. times j table) ps)
    (slots_refuse_no_job (length table) 0 rs ds ps table) (rare_refuses_no_job (length rs) 0 (λ j. times j table) ps)

pub judge_tells_job : (J : Jobs) (table : List ℕ) → TellsJob (check_of J) (judged_number (judged J table)) (judged_values (judged J table))
unfolding judged
judge_tells_job J table =
    let slots = take J.horizon table in
    let figures = table_figures J slots in
    let long = length_check (length table) J.horizon in
    let faults = faults_check J.releases J.deadlines J.volumes slots in
    first_tells (λ c. judged_number (accepts c figures)) (λ c. judged_values (accepts c figures)) (λ r. refl) (λ r. refl)
    (not_job 0 (inl (omega arith))) (check_of J) (and_then long faults)
    (other_then long faults (other_length (length table) J.horizon) (faults_refuse_no_job J.releases J.deadlines J.volumes slots))
