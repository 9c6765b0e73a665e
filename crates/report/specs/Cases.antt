-- 01, "Plans worked by hand", after card 5 of 02: the text of the third plan, of the overload 2, 5, and of 11 at place 0. Closed cases, so that an
-- edit of a definition is refused here.
use Rattle.std.specs.Prelude.{◌≡◌, refl, ℕ, List, [], ◌∷◌}
use Rattle.sched.proofs.Cases.{third_table}
use Rattle.sched.specs.Runs.{leading, run_list_from}
use Rattle.sched.specs.declared.Outcome.TheVariants.{Planned, Overloaded, Refused}
use Rattle.sched.specs.declared.Refusal.TheVariants.{Truncated}
use Rattle.decimal.specs.Decimal.{digits_in, digits}
use Rattle.report.specs.Report.{numbers, lines_of, text_of}

-- plan 13 10 1 6, run 0 10
abbrev pub third_text : List ℕ
third_text =
    112 ∷ 108 ∷ 97 ∷ 110 ∷ 32 ∷ 49 ∷ 51 ∷ 32 ∷ 49 ∷ 48 ∷ 32 ∷ 49 ∷ 32 ∷ 54 ∷ 10
    ∷ 114 ∷ 117 ∷ 110 ∷ 32 ∷ 48 ∷ 32 ∷ 49 ∷ 48 ∷ 10
    ∷ []

-- the figures are those of its row in `starred` (sched/specs/Cases)
pub third_text_lem : text_of (Planned (record { energy = 13; awake = 10; runs = 1; added = 6 })) third_table ≡ third_text
unfolding leading run_list_from digits digits_in numbers lines_of
third_text_lem = refl

-- two runs have two lines: plan 6 4 2 4, run 2 2, run 6 2; the second starred plan
pub two_lines :
    text_of (Planned (record { energy = 6; awake = 4; runs = 2; added = 4 })) (255 ∷ 255 ∷ 0 ∷ 0 ∷ 255 ∷ 255 ∷ 1 ∷ 1 ∷ 255 ∷ 255 ∷ 255 ∷ 255 ∷ [])
    ≡ 112 ∷ 108 ∷ 97 ∷ 110 ∷ 32 ∷ 54 ∷ 32 ∷ 52 ∷ 32 ∷ 50 ∷ 32 ∷ 52 ∷ 10
    ∷ 114 ∷ 117 ∷ 110 ∷ 32 ∷ 50 ∷ 32 ∷ 50 ∷ 10
    ∷ 114 ∷ 117 ∷ 110 ∷ 32 ∷ 54 ∷ 32 ∷ 50 ∷ 10
    ∷ []
unfolding leading run_list_from digits digits_in numbers lines_of
two_lines = refl

-- refused 18 2 5
pub overload_text : text_of (Overloaded (record { a = 2; b = 5 })) [] ≡ 114 ∷ 101 ∷ 102 ∷ 117 ∷ 115 ∷ 101 ∷ 100 ∷ 32 ∷ 49 ∷ 56 ∷ 32 ∷ 50 ∷ 32 ∷ 53 ∷ 10 ∷ []
unfolding digits digits_in numbers
overload_text = refl

-- refused 11 0
abbrev pub truncated_text : List ℕ
truncated_text = 114 ∷ 101 ∷ 102 ∷ 117 ∷ 115 ∷ 101 ∷ 100 ∷ 32 ∷ 49 ∷ 49 ∷ 32 ∷ 48 ∷ 10 ∷ []

pub truncated_text_lem : text_of (Refused (Truncated 0)) [] ≡ truncated_text
unfolding digits digits_in numbers
truncated_text_lem = refl
