-- The parts of the judge's answer, each from what the checks said.
use Rattle.std.specs.Prelude.{ℕ, ◌≡◌, List, length, take, Ok}
use Rattle.std.proofs.Common.{◌∙◌}
use Rattle.sched.specs.Jobs.{Jobs}
use Rattle.sched.specs.Checks.{and_then, length_check, check_of}
use Rattle.sched.proofs.Checks.Laws.{then_passes}
use Rattle.judge.specs.Faults.{SlotCheck, faults_by}
use Rattle.judge.specs.Verdict.{judge_check_by}

-- where the list passes its checks and the table is long enough, the faults decide
pub faults_decide : (fault : SlotCheck) (J : Jobs) (table : List ℕ) → check_of J ≡ Ok tt → length_check (length table) J.horizon ≡ Ok tt →
    judge_check_by fault J table ≡ faults_by fault J.releases J.deadlines J.volumes (take J.horizon table)
faults_decide fault J table e f =
    let faults = faults_by fault J.releases J.deadlines J.volumes (take J.horizon table) in
    let long = length_check (length table) J.horizon in
    then_passes (check_of J) (and_then long faults) e ∙ then_passes long faults f
