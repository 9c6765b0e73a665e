-- `line::put_word` meets its contract: the word is copied as a whole.
use Rattle.std.proofs.Common.{arith}
use Rattle.std.proofs.lemmas.Grind.{common_steps}
use Rattle.std.proofs.lemmas.List.Edits.{sets-eq}
use Rattle.report.proofs.line.put_word.Goals as goal

pub returns : goal.returns
returns c =
    let a = c.args in
    let whole = sets-eq a.word.now a.out.now a.at c.requires in
    record { next = omega arith; stored = rw whole (grind (arith, common_steps)) }
