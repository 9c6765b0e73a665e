-- `write_text` meets its contract: the length is tested before anything is put, and the lines of the runs stand behind the first one.
use Prim.Native.Nat.{◌+◌}
use mathlib.Core.Path.{sym, ◌∙◌}
use native.Mathlib.Omega.{arith}
use lib.ListN.{length}
use Rattle.sched.proofs.Checks.Laws.{length_good}
use Rattle.report.specs.Report.{line, run_lines}
use Rattle.report.specs.Report.Laws.{line_length, numbers_few}
use Rattle.report.proofs.Stretches.{lines_most}
use Rattle.report.proofs.Answers.{text_size, text_put, has_room}
use Rattle.report.proofs.write_text.Goals as goal

pub overflow_add-n : goal.overflow_add-n
overflow_add-n c =
    omega (
      arith,
      c.size.ensures,
      c.size-2.ensures,
      line_length c.args.word.now c.args.values.now,
      numbers_few c.args.values.now,
      c.requires.short,
      c.requires.few,
      lines_most c.args.slots.now c.requires.within,
    )

pub returns : goal.returns
returns c =
    let a = c.args in
    let size_is = text_size a.word.now a.values.now a.slots.now _ _ c.size.ensures c.size-2.ensures in
    let passed = sym c.check_length.ensures.same ∙ c.in_ok-check_length.was in
    let fits = length_good (length a.out.now) (c.size.result + c.size-2.result) passed in
    has_room _ _ _ size_is _ passed
    (text_put (line a.word.now a.values.now) (run_lines a.slots.now) a.out.now _ _ _ _ (omega (arith, fits, size_is))
    c.put-behind.ensures c.put.ensures)
