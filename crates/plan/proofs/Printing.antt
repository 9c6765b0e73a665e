-- What stands in the program's buffer is what the definition prints.
use Rattle.std.specs.Prelude.{Err, Ok, Result, IsOk}
use Prim.Native.Nat.{ℕ, ◌≤◌}
use mathlib.Core.Path.{◌≡◌, refl, sym, ap, ap₂, ◌∙◌}
use mathlib.Core.List.{List, []}
use native.Mathlib.Omega.{arith}
use lib.ListN.{length, get_or, take, drop, length-append}
use lib.Seq.{take_at}
use Rattle.sched.specs.Jobs.{Jobs}
use Rattle.sched.specs.declared.Refusal.{Refusal}
use Rattle.sched.specs.declared.Outcome.{Outcome}
use Rattle.sched.specs.declared.Outcome.TheVariants.{Refused}
use Rattle.joblist.specs.Reading.{read_check, list_of}
use Rattle.report.specs.Report.{text_of, written_values, TextPromise}
use Rattle.report.specs.Theorems.{text_written}
use Rattle.planner.specs.Promises.{PlanPromise}
use Rattle.plan.specs.Program.{lent_table, printed_plan, printed_after, printed, StartsWith}
use Rattle.sched.specs.Refusals.{Checked}

-- the writer's answer, in a buffer that is long enough: the text's length, never 17
module _ (outcome : Outcome) (h : ℕ) (table out : List ℕ) (answer : Result ℕ Refusal) (after : List ℕ) (l : h ≤ 4096) (room : 28761 ≤ length out)
    (w : TextPromise (text_of outcome (take h table)) out answer after) where
  text : List ℕ
  text = text_of outcome (take h table)

  pub starts_with : (n : ℕ) → answer ≡ Ok n → StartsWith (text_of outcome (take h table)) n after
  unfolding text
  starts_with n e =
      let (wrote, bytes) = text_written outcome h table out answer after l room w in
      let same : length text ≡ n = ap (λ (x : Result ℕ Refusal). get_or (written_values x) 0 0) (sym wrote ∙ e) in
      record {
        within = omega (arith, ap length bytes, length-append text (drop (length text) out));
        bytes = ap (take n) bytes ∙ take_at text (drop (length text) out) n same;
      }

  pub always_written : IsOk answer
  always_written = rw (text_written outcome h table out answer after l room w).0 refl

-- a list that is refused
pub prints_refused : (input : List ℕ) (r : Refusal) (n : ℕ) (buffer : List ℕ) → read_check input 64 64 64 ≡ Err r →
    StartsWith (text_of (Refused r) []) n buffer → take n buffer ≡ printed input
unfolding printed
prints_refused input r n buffer e b = b.bytes ∙ sym (ap (λ (c : Checked). printed_after c input) e)

-- a list that is read
pub prints_plan : (input : List ℕ) (J : Jobs) (outcome : Outcome) (table : List ℕ) (n : ℕ) (buffer : List ℕ) →
    read_check input 64 64 64 ≡ Ok tt → J ≡ list_of input → PlanPromise J lent_table outcome table →
    StartsWith (text_of outcome (take J.horizon table)) n buffer → take n buffer ≡ printed input
unfolding printed
prints_plan input J outcome table n buffer e j p b =
    b.bytes ∙ ap₂ (λ (o : Outcome) (t : List ℕ). text_of o (take J.horizon t)) p.same p.bytes ∙ ap printed_plan j
    ∙ sym (ap (λ (c : Checked). printed_after c input) e)
