-- How long a line and the lines of the runs are.
use Rattle.std.specs.Prelude.{ℕ, suc, ◌+◌, ◌*◌, ◌^◌, ◌≤◌, ◌<◌, ◌≡◌, Bool, length}
use Rattle.std.proofs.Math.Bool.{true, false}
use mathlib.Core.List.{List, [], ◌∷◌}
use Rattle.std.proofs.Math.Nat.{mul-suc}
use native.Mathlib.Omega.{arith}
use Rattle.std.proofs.Common.{length-append}
use Rattle.sched.specs.Energy.{runs_from}
use Rattle.sched.specs.Runs.{leading, run_list_from}
use Rattle.decimal.specs.Decimal.{digits}
use Rattle.decimal.specs.Decimal.Laws.{digits_most}
use Rattle.decimal.specs.Theorems.{digits_few}
use Rattle.report.specs.Report.{numbers, line, run_word, run_line, lines_of}

numbers_length : (n : ℕ) (ns : List ℕ) → length (numbers (n ∷ ns)) ≡ 1 + length (digits n) + length (numbers ns)
unfolding numbers
numbers_length n ns = simp length-append (omega arith)

-- a space and at most 20 digits
pub numbers_few : (ns : List ℕ) → length (numbers ns) ≤ 21 * length ns
unfolding numbers
numbers_few [] = omega arith
numbers_few (n ∷ ns) = omega (arith, numbers_length n ns, digits_most n, numbers_few ns)

pub line_length : (word ns : List ℕ) → length (line word ns) ≡ length word + length (numbers ns) + 1
line_length word ns = simp length-append (omega arith)

-- a run's line: its word, two spaces, two numbers below a power of ten, and byte 10
pub run_line_few : (k first slots : ℕ) → 1 ≤ k → first < 10 ^ k → slots < 10 ^ k → length (run_line first slots) ≤ 6 + 2 * k
unfolding numbers
run_line_few k first slots some l m =
    omega (
      arith,
      line_length run_word (first ∷ slots ∷ []),
      numbers_length first (slots ∷ []),
      numbers_length slots [],
      digits_few k first some l,
      digits_few k slots some m,
    )

-- a run has no more slots than are left
leading_few : (S : List Bool) → leading S ≤ length S
unfolding leading
leading_few [] = omega arith
leading_few (false ∷ S) = omega arith
leading_few (true ∷ S) = omega (arith, leading_few S)

-- the lines of the runs of `far` slots, where no run among them takes a line longer than m
module _ (far m : ℕ) (short : (first slots : ℕ) → first + slots ≤ far → length (run_line first slots) ≤ m) where
  pub lines_few : (b : Bool) (t : ℕ) (S : List Bool) → t + length S ≤ far → length (lines_of (run_list_from b t S)) ≤ m * runs_from b S
  unfolding run_list_from runs_from lines_of
  lines_few b t [] l = omega arith
  lines_few true t (false ∷ S) l = lines_few false (suc t) S (omega arith)
  lines_few false t (false ∷ S) l = lines_few false (suc t) S (omega arith)
  lines_few true t (true ∷ S) l = lines_few true (suc t) S (omega arith)
  lines_few false t (true ∷ S) l =
      let first = run_line t (suc (leading S)) in
      let rest = lines_of (run_list_from true (suc t) S) in
      rw (length-append first rest, mul-suc m (runs_from true S))
      (omega (arith, short t (suc (leading S)) (omega (arith, leading_few S)), lines_few true (suc t) S (omega arith)))
