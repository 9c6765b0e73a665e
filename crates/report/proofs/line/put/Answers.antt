-- `line::put` meets its contract: the numbers stand behind the word, and byte 10 behind them.
use Rattle.report.proofs.Putting.{line_put}
use Rattle.report.proofs.line.put.Goals as goal

pub returns : goal.returns
returns c = line_put _ c.args.values.now _ _ _ _ c.put_word-numbers_at.ensures c.requires _ _ c.put_numbers-end.ensures
