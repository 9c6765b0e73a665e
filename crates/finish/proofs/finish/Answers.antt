-- `finish` meets its contract: step 4 gives a table, step 5 changes it, and the figures of what comes out are counted.
use Prim.Native.Nat.{ℕ}
use mathlib.Core.Bool.{Bool}
use mathlib.Core.Path.{sym, ap, ap₂, ◌∙◌}
use Rattle.steps.specs.Sleep.{sleep_rule}
use Rattle.steps.specs.Steps.{table_from}
use Rattle.finish.proofs.finish.Goals as goal

pub returns : goal.returns
unfolding table_from
returns c =
    record {
      run_is = c.sleep.ensures ∙ ap (sleep_rule _ _) c.fill.ensures.run_is;
      bytes = λ J lists w s long full.
          c.sleep.ensures ∙ ap₂ (λ (q : ℕ) (b : Bool). sleep_rule q b c.fill.new.table) (sym w) (sym s)
          ∙ ap (sleep_rule J.wake J.start) (c.fill.ensures.step_is J lists long full);
      figures_are = c.cost_of.ensures;
    }
