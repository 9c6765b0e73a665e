-- What the functions of the block store, over plain lists.
use Rattle.std.specs.Prelude.{Err, Ok, Result}
use Prim.Native.Nat.{ℕ}
use mathlib.Core.Path.{◌≡◌, refl, sym, ap, subst, ◌∙◌}
use mathlib.Core.List.{List, [], ◌∷◌, ◌++◌}
use lib.ListN.{drop}
use Rattle.sched.specs.Refusals.{number, place}
use Rattle.sched.specs.declared.Refusal.{Refusal}
use Rattle.sched.specs.declared.Interval.{Interval}
use Rattle.sched.specs.declared.Outcome.{Outcome}
use Rattle.sched.specs.declared.Outcome.TheVariants.{Overloaded}
use Rattle.joblist.specs.declared.ListHeader.{ListHeader}
use Rattle.sleep_plan.specs.Block.{answered}
use Rattle.sleep_plan.specs.Block.Laws.{zeros_behind_one, zeros_behind_two}
use Rattle.sleep_plan.specs.Puts.{Puts, PutsRefused, PutsOutcome}

-- a place and three zeros
pub puts_refusal : (r : Refusal) (lent : List ℕ) (at n : ℕ) (block' : List ℕ) → at ≡ place r → block' ≡ answered (at ∷ 0 ∷ 0 ∷ 0 ∷ []) lent → n ≡ number r → Puts (number r) (place r ∷ []) lent n block'
puts_refusal r lent at n block' e b m =
    record { returned = m; block = b ∙ ap (λ (l : List ℕ). l ++ drop 16 lent) (zeros_behind_one at) ∙ ap (λ (x : ℕ). answered (x ∷ []) lent) e }

pub puts_none : (lent : List ℕ) (read : Result ListHeader Refusal) (header : ListHeader) → read ≡ Ok header → PutsRefused read lent 0 lent
puts_none lent read header e = rw e (refl, refl)

pub puts_refused : (lent : List ℕ) (read : Result ListHeader Refusal) (r : Refusal) (n : ℕ) (block' : List ℕ) → read ≡ Err r → Puts (number r) (place r ∷ []) lent n block' → PutsRefused read lent n block'
puts_refused lent read r n block' e p = rw e p

pub refused_puts : (lent : List ℕ) (read : Result ListHeader Refusal) (r : Refusal) (n : ℕ) (block' : List ℕ) → read ≡ Err r → PutsRefused read lent n block' → Puts (number r) (place r ∷ []) lent n block'
refused_puts lent read r n block' e p = subst (λ (x : Result ListHeader Refusal). PutsRefused x lent n block') e p

pub puts_overloaded : (lent : List ℕ) (o : Outcome) (i : Interval) (block' : List ℕ) → o ≡ Overloaded i → block' ≡ answered (i.a ∷ i.b ∷ 0 ∷ 0 ∷ []) lent → PutsOutcome o lent 18 block'
puts_overloaded lent o i block' e b =
    subst (λ (x : Outcome). PutsOutcome x lent 18 block') (sym e)
    (record { puts = record { returned = refl; block = b ∙ ap (λ (l : List ℕ). l ++ drop 16 lent) (zeros_behind_two i.a i.b) }; fits = tt })
