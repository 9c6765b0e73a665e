-- The writer's answer and output, from what the check of the output said.
use Rattle.std.specs.Prelude.{Err, Ok, Result}
use Prim.Native.Nat.{ℕ, ◌+◌, ◌≤◌, ◌<◌, min}
use mathlib.Core.Path.{◌≡◌, refl, sym, ap, ap₂, ◌∙◌}
use mathlib.Core.List.{List, [], ◌∷◌, ◌++◌, append-nil}
use native.Mathlib.Nat.{zero-add}
use native.Mathlib.Omega.{arith}
use native.Mathlib.Decide.{dec_le}
use lib.ListN.{length, take, drop, length-append}
use lib.Seq.{sets-eq, length-take-le, take_all}
use Rattle.sched.specs.Refusals.{number, place, Checked}
use Rattle.sched.specs.Runs.{run_list_from}
use Rattle.sched.specs.Checks.{length_check}
use Rattle.sched.specs.declared.Refusal.{Refusal}
use Rattle.sched.specs.declared.PlanFigures.{PlanFigures}
use Rattle.sched.specs.declared.Interval.{Interval}
use Rattle.sched.specs.declared.Outcome.{Outcome}
use Rattle.sched.specs.declared.Outcome.TheVariants.{Planned, Overloaded, Refused as RefusedOutcome}
use Rattle.sched.specs.Buffers.{PutAt}
use Rattle.report.specs.Report.{plan_word, refused_word, line, lines_of, run_lines, text_of, text_check, text_answer, text_after, written_number, written_values, TextPromise}
use Rattle.report.proofs.Putting.{ToPut, put_none, put_part}

pub text_size : (word values slots : List ℕ) (n m : ℕ) → n ≡ length (line word values) → m ≡ length (run_lines slots) → n + m ≡ length (line word values ++ run_lines slots)
text_size word values slots n m e f = omega (arith, length-append (line word values) (run_lines slots))

-- two parts, one behind the other from the front of the output
pub text_put : (front rest out : List ℕ) (behind : ℕ) (out₁ : List ℕ) (end : ℕ) (out₂ : List ℕ) → length (front ++ rest) ≤ length out →
    PutAt out 0 front behind out₁ → PutAt out₁ behind rest end out₂ → out₂ ≡ (front ++ rest) ++ drop (length (front ++ rest)) out
text_put front rest out behind out₁ end out₂ room p q =
    let all = front ++ rest in
    let t : ToPut out 0 all out₁ behind rest = put_part out 0 all out 0 front rest behind out₁ (put_none out 0 all) p in
    q.stored ∙ sym t.stored ∙ sets-eq all out 0 (omega arith) ∙ ap (λ (k : ℕ). all ++ drop k out) (zero-add (length all))

module _ (text out : List ℕ) (n : ℕ) (e : n ≡ length text) where
  answers : (c : Checked) (answer : Result ℕ Refusal) (after : List ℕ) → length_check (length out) n ≡ c → answer ≡ text_answer text c →
      after ≡ text_after text out c → TextPromise text out answer after
  answers c answer after f a o =
      let tested : text_check text out ≡ c = ap (length_check (length out)) (sym e) ∙ f in
      let same : answer ≡ text_answer text (text_check text out) = a ∙ ap (text_answer text) (sym tested) in
      record {
        number = ap written_number same;
        values = ap written_values same;
        same = same;
        bytes = o ∙ ap (text_after text out) (sym tested);
      }

  pub no_room : (r : Refusal) → length_check (length out) n ≡ Err r → TextPromise text out (Err r) out
  no_room r f = answers (Err r) (Err r) out f refl refl

  pub has_room : (after : List ℕ) → length_check (length out) n ≡ Ok tt → after ≡ text ++ drop (length text) out → TextPromise text out (Ok n) after
  has_room after f o = answers (Ok tt) (Ok n) after f (ap Ok e) o

-- the first h bytes of a table, or all of them

module _ (h k : ℕ) (table : List ℕ) (e : k ≡ min h (length table)) where
  pub front_length : k ≡ length (take k table)
  front_length = sym (length-take-le k table (omega arith))

  pub front_few : h < 65536 → length (take k table) ≤ 65535
  front_few l = omega (arith, front_length)

  front_is : take k table ≡ take h table
  front_is = go (dec_le h (length table))
    where
      go : Dec (h ≤ length table) → take k table ≡ take h table
      go (yes l) = let same : k ≡ h = omega arith in ap (λ (n : ℕ). take n table) same
      go (no l) = take_all k table (omega arith) ∙ sym (take_all h table (omega arith))

-- the text of each outcome, from the line and the table that are handed on

module _ (outcome : Outcome) (h : ℕ) (table out : List ℕ) (answer : Result ℕ Refusal) (after : List ℕ) where
  pub planned_text : (f : PlanFigures) (k : ℕ) → outcome ≡ Planned f → k ≡ min h (length table) →
      TextPromise (line plan_word (f.energy ∷ f.awake ∷ f.runs ∷ f.added ∷ []) ++ run_lines (take k table)) out answer after →
      TextPromise (text_of outcome (take h table)) out answer after
  planned_text f k o e w = rw (o, ← front_is h k table e) w

  -- without a table there are no runs
  no_runs : (values : List ℕ) → line refused_word values ++ run_lines (take 0 table) ≡ line refused_word values
  unfolding lines_of run_list_from
  no_runs values = append-nil (line refused_word values)

  pub overload_text : (i : Interval) → outcome ≡ Overloaded i → TextPromise (line refused_word (18 ∷ i.a ∷ i.b ∷ []) ++ run_lines (take 0 table)) out answer after →
      TextPromise (text_of outcome (take h table)) out answer after
  overload_text i o w = rw (o, ← no_runs (18 ∷ i.a ∷ i.b ∷ [])) w

  pub refused_text : (r : Refusal) (n at : ℕ) → outcome ≡ RefusedOutcome r → n ≡ number r → at ≡ place r →
      TextPromise (line refused_word (n ∷ at ∷ []) ++ run_lines (take 0 table)) out answer after → TextPromise (text_of outcome (take h table)) out answer after
  refused_text r n at o e f w =
      let text : text_of outcome (take h table) ≡ line refused_word (n ∷ at ∷ []) ++ run_lines (take 0 table) =
      ap (λ (x : Outcome). text_of x (take h table)) o ∙ sym (ap₂ (λ (x y : ℕ). line refused_word (x ∷ y ∷ [])) e f) ∙ sym (no_runs (n ∷ at ∷ [])) in
      rw text w
