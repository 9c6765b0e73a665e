-- `find_run` meets its contract: the checks of the record decide, then the search over its map.
use mathlib.Core.Path.{sym, ◌∙◌}
use Rattle.record.proofs.FindAnswers.{searched}
use Rattle.record.proofs.find_run.Goals as goal

pub returns : goal.returns
returns c =
    searched c.args.bytes.now _ (sym c.check.ensures ∙ c.in_ok-check.was) _ c.horizon-h.ensures _ c.behind_map-behind.ensures _ c.find.ensures
