-- The program's buffer is long enough: of a table of at most 4,096 slots at most 28,761 bytes are printed, 2,048 lines of 14 bytes for the runs
-- and 89 for the first line.
use Rattle.std.specs.Prelude.{ℕ, ◌+◌, ◌≤◌, ◌≡◌, false, List, ◌∷◌, ◌++◌, length, take, drop, Ok, Result}
use Rattle.std.proofs.Common.{ap, ◌∙◌, arith, length-append, length-take}
use Rattle.sched.specs.Slots.{awake_of}
use Rattle.sched.proofs.Slots.Laws.{awake_of_length}
use Rattle.sched.proofs.Energy.Laws.{runs_few}
use Rattle.sched.specs.Refusals.{number}
use Rattle.sched.proofs.Checks.Laws.{length_passes}
use Rattle.sched.specs.Answers.{outcome_values}
use Rattle.sched.specs.declared.Outcome.{Outcome}
use Rattle.sched.specs.declared.Outcome.TheVariants.{Planned, Overloaded, Refused}
use Rattle.report.specs.Report.{line, plan_word, refused_word, run_line, run_lines, text_of}
use Rattle.report.specs.Report.{text_check, text_answer, text_after, TextPromise}
use Rattle.report.specs.Report.Laws.{numbers_few, line_length, run_line_few, lines_few}
use Rattle.sched.specs.declared.Refusal.{Refusal}

run_lines_short : (slots : List ℕ) → length slots ≤ 4096 → length (run_lines slots) ≤ 28672
run_lines_short slots l =
    let S = awake_of slots in
    let few : length S ≤ 4096 = rw awake_of_length l in
    let short : (first run : ℕ) → first + run ≤ 4096 → length (run_line first run) ≤ 14 =
    λ first run m. run_line_few 4 first run (omega arith) (omega arith) (omega arith) in
    omega (arith, lines_few 4096 14 short false 0 S (omega arith), runs_few false S few)

pub text_fits : (outcome : Outcome) (slots : List ℕ) → length slots ≤ 4096 → length (text_of outcome slots) ≤ 28761
text_fits (Planned f) slots l =
    let values = outcome_values (Planned f) in
    omega (
      arith,
      length-append (line plan_word values) (run_lines slots),
      line_length plan_word values,
      numbers_few values,
      run_lines_short slots l,
    )
text_fits (Overloaded i) slots l =
    let values : List ℕ = 18 ∷ outcome_values (Overloaded i) in omega (arith, line_length refused_word values, numbers_few values)
text_fits (Refused r) slots l =
    let values : List ℕ = number r ∷ outcome_values (Refused r) in omega (arith, line_length refused_word values, numbers_few values)

-- So a buffer of that many bytes never gives 17: the text is written.
pub text_written : (outcome : Outcome) (h : ℕ) (table out : List ℕ) (answer : Result ℕ Refusal) (after : List ℕ) → h ≤ 4096 → 28761 ≤ length out →
    let text = text_of outcome (take h table) in
    TextPromise text out answer after → (answer ≡ Ok (length text)) × (after ≡ text ++ drop (length text) out)
text_written outcome h table out answer after l room w =
    let text = text_of outcome (take h table) in
    let few : length (take h table) ≤ 4096 = simp length-take (omega arith) in
    let passed : text_check text out ≡ (Ok tt) = length_passes (length out) (length text) (omega (arith, text_fits outcome (take h table) few)) in
    (w.same ∙ ap (text_answer text) passed, w.bytes ∙ ap (text_after text out) passed)
