-- `end` meets its contract: the slots of the table that are awake are those whose byte is not 255.
use Rattle.std.proofs.Common.{◌≡◌, ◌∙◌, sym, not, eqb, get_or, rules}
use Rattle.sched.specs.Slots.{asleep, awake_of}
use Rattle.sched.proofs.Slots.Laws.{awake_of_lem}
use Rattle.report.proofs.runs.end.Goals as goal

pub returns : goal.returns
returns c =
    let table = c.args.table.now in
    c.stretch_end.ensures (awake_of table)
    (λ t b l e.
    let told : b ≡ not (eqb (get_or table t 0) asleep) = search rules in
    told ∙ sym (awake_of_lem table t l))
