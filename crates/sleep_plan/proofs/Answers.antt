-- The numbers in the block, and demand 3 and what `added` counts in terms of them.
use Prim.Native.Nat.{ℕ, ◌≤◌, ◌<◌}
use mathlib.Core.Path.{◌≡◌, refl, sym, ap, subst, ◌∙◌}
use mathlib.Core.List.{List, ◌++◌}
use native.Mathlib.Omega.{arith}
use borrow.Author.Tests.{leb-true, leb-false}
use lib.ListN.{length, get_or, take}
use lib.Dec.{leb}
use Rattle.sched.proofs.Bounded.Laws.{by_bool}
use Rattle.sched.specs.Jobs.{Jobs}
use Rattle.sched.specs.Refusals.{place}
use Rattle.sched.proofs.Refusals.Laws.{refusal_number}
use Rattle.sched.specs.Checks.{Passes}
use Rattle.sched.proofs.Checks.Laws.{passes_passed}
use Rattle.steps.specs.Outcomes.{Plan, planned, plan}
use Rattle.sched.specs.Answers.{outcome_number, outcome_values}
use Rattle.steps.proofs.Outcomes.Laws.{early_short, plan_ended}
use Rattle.sched.specs.declared.Refusal.TheVariants.{TooShort}
use Rattle.sched.specs.declared.PlanFigures.{PlanFigures}
use Rattle.sched.specs.declared.Outcome.{Outcome}
use Rattle.sched.specs.declared.Outcome.TheVariants.{Planned, Overloaded, Refused}
use Rattle.laws_rivals.specs.Rivals.{AgainstRivals, Reports, as_outcome, CountsWoken}
use Rattle.sleep_plan.specs.Block.{answer_bytes, number_in}
use Rattle.sleep_plan.specs.Block.Laws.{too_large, Small, one_number, two_numbers, four_numbers}
use Rattle.sleep_plan.specs.Puts.{Puts, FiguresFit}
use Rattle.sleep_plan.specs.Promises.{as_call}

-- the values of an outcome fit their four bytes
abbrev pub ValuesFit : Outcome → Type 0
ValuesFit (Planned f) = Small f.energy f.awake f.runs f.added
ValuesFit (Overloaded i) = (i.a < too_large) × (i.b < too_large)
ValuesFit (Refused r) = place r < too_large

pub outcome_numbers : (o : Outcome) (rest : List ℕ) → ValuesFit o → (i : ℕ) → i < 4 → number_in (answer_bytes (outcome_values o) ++ rest) i ≡ get_or (outcome_values o) i 0
outcome_numbers (Planned f) rest s = four_numbers f.energy f.awake f.runs f.added rest s
outcome_numbers (Overloaded i) rest s = two_numbers i.a i.b rest s.0 s.1
outcome_numbers (Refused r) rest s = one_number (place r) rest s

module _ (J : Jobs) (p : Passes J) where
  long_fits : (o : Outcome) (table : List ℕ) → AgainstRivals J (as_outcome o) table → FiguresFit o → ValuesFit o
  long_fits (Planned f) table a s = s
  long_fits (Overloaded i) table a s =
      let over = a.sound.interval i.a i.b (refl, refl) in
      (omega (arith, over.span, over.within, p.high), omega (arith, over.within, p.high))
  long_fits (Refused r) table a s = absurd (a.sound.otherwise (λ x. x)).reported

  pub plan_fits : (lent table' : List ℕ) (o : Outcome) → o ≡ (plan J lent).answer →
      (J.horizon ≤ length lent → AgainstRivals J (as_outcome o) (take J.horizon table')) → FiguresFit o → ValuesFit o
  unfolding plan
  plan_fits lent table' o e a s =
      by_bool (leb J.horizon (length lent))
      (λ t. long_fits o (take J.horizon table') (a (leb-true J.horizon (length lent) t)) s)
      (λ f.
      let short = early_short J (length lent) (passes_passed J p) (leb-false J.horizon (length lent) f) in
      let refused = plan_ended planned J lent (Refused (TooShort J.horizon)) short in
      subst ValuesFit (sym (e ∙ ap (λ (x : Plan). x.answer) refused)) (omega (arith, p.high)))

-- 18 is the number of overload alone
zero_not_18 : {A : Type 0} (n : ℕ) → n ≡ 0 → n ≡ 18 → A
zero_not_18 n e f = absurd (omega arith)

-- demand 3 of an outcome is demand 3 of the number and the block that tell it
pub against : (J : Jobs) (o : Outcome) (table lent block' : List ℕ) (n : ℕ) → AgainstRivals J (as_outcome o) table →
    Puts (outcome_number o) (outcome_values o) lent n block' → ((i : ℕ) → i < 4 → number_in block' i ≡ get_or (outcome_values o) i 0) →
    AgainstRivals J (as_call n block') table
against J (Planned f) table lent block' n a puts back =
    let h = a.sound.otherwise (λ x. x) in
    record {
      sound = record {
        no_schedule = λ e. zero_not_18 n puts.returned e;
        says_so = λ none. absurd (a.sound.says_so none);
        shown = λ e. zero_not_18 n puts.returned e;
        interval = λ from to e. zero_not_18 n puts.returned e.0;
        otherwise = λ _. record { feasible = h.feasible; reported = (puts.returned, back 0 (omega arith) ∙ h.reported) };
      };
      limit = λ reported e rival g. a.limit reported (sym (back 0 (omega arith)) ∙ e.1) rival g;
    }
against J (Overloaded i) table lent block' n a puts back =
    record {
      sound = record {
        no_schedule = λ e. a.sound.no_schedule tt;
        says_so = λ none. puts.returned;
        shown = λ e. (number_in block' 0, number_in block' 1, (e, refl, refl));
        interval = λ from to e. a.sound.interval from to (sym (back 0 (omega arith)) ∙ e.1, sym (back 1 (omega arith)) ∙ e.2);
        otherwise = λ no. absurd (no puts.returned);
      };
      limit = λ reported e. zero_not_18 n e.0 puts.returned;
    }
against J (Refused r) table lent block' n a puts back = absurd (a.sound.otherwise (λ x. x)).reported

-- what a plan says of `added` holds of the fourth number of a block that tells it
pub counts : (J : Jobs) (o : Outcome) (block' : List ℕ) → ((f : PlanFigures) → o ≡ Planned f → CountsWoken J f.added) →
    number_in block' 3 ≡ get_or (outcome_values o) 3 0 → outcome_number o ≡ 0 → CountsWoken J (number_in block' 3)
counts J (Planned f) block' counted back z = subst (CountsWoken J) (sym back) (counted f refl)
counts J (Overloaded i) block' counted back z = absurd (omega arith)
counts J (Refused r) block' counted back z = absurd (refusal_number r z)

-- and an energy that the block's first number tells is the outcome's
pub reports_back : (o : Outcome) (block' : List ℕ) (reported : ℕ) → number_in block' 0 ≡ get_or (outcome_values o) 0 0 → outcome_number o ≡ 0 →
    number_in block' 0 ≡ reported → Reports o reported
reports_back (Planned f) block' reported back z e = sym back ∙ e
reports_back (Overloaded i) block' reported back z e = absurd (omega arith)
reports_back (Refused r) block' reported back z e = absurd (refusal_number r z)
