-- Feasibility from a state: what is left before slot t can all be placed in the slots from t on exactly where the run serves it all.
use Rattle.std.specs.Prelude.{ℕ, suc, ◌≤◌, ◌<◌, ◌≡◌, refl, Bool, List, [], ◌∷◌, ◌↔◌}
use Rattle.std.proofs.Common.{ap, sym, ◌∙◌, arith}
use Rattle.std.proofs.Math.Decide.{dec_lt}
use Rattle.sched.specs.Bounded.{sum_below}
use Rattle.sched.proofs.Bounded.Laws.{sum_ext, sum_zero}
use Rattle.sched.specs.Jobs.{Jobs, count}
use Rattle.sched.specs.Slots.{times}
use Rattle.sched.proofs.Slots.Laws.{times_none, times_same, times_other}
use Rattle.steps.specs.Workable.{units}
use Rattle.laws_edf.specs.Run.{State, spans, vol, final, bytes, all_units}
use Rattle.laws_edf.specs.Placed.{AllPlaced}
use Rattle.laws_edf.specs.Units.{sum_one_more}
use Rattle.laws_edf.proofs.Find.{part_positive}
use Rattle.laws_edf.proofs.Left.{served_and_left}
use Rattle.laws_edf.proofs.Placements.{units_empty, units_job, units_none, placed_at_most, bytes_long, bytes_times, run_placed}

-- the units of a placement, job by job
pub units_by_job : (J : Jobs) (placed : List ℕ) → units J placed ≡ sum_below (count J) (λ j. times j placed)
units_by_job J [] = units_empty J ∙ sym (sum_zero (count J) (λ j. times j []) (λ j _. times_none j))
units_by_job J (x ∷ rest) = go (dec_lt x (count J)) (units_by_job J rest)
  where
    go : Dec (x < count J) → units J rest ≡ sum_below (count J) (λ j. times j rest) → units J (x ∷ rest) ≡ sum_below (count J) (λ j. times j (x ∷ rest))
    go (yes l) ih =
        units_job J x rest l ∙ ap suc ih
        ∙ sym (sum_one_more (count J) x (λ j. times j (x ∷ rest)) (λ j. times j rest) l
        (record { there = times_same x x rest refl; elsewhere = λ j f. times_other j x rest (λ e. f (sym e)) }))
    go (no l) ih =
        units_none J x rest (omega arith) ∙ ih
        ∙ sum_ext (count J) (λ j. times j rest) (λ j. times j (x ∷ rest)) (λ j b. sym (times_other j x rest (omega arith)))

pub all_placed_iff_served : (J : Jobs) (S : ℕ → Bool) (h t : ℕ) (L : State) → count J ≤ 254 →
    ((placed : List ℕ) × AllPlaced J S h t L placed) ↔ (vol (spans J) S h t L ≡ all_units (spans J) L)
all_placed_iff_served J S h t L few = (served, placed)
  where
    served : (placed : List ℕ) × AllPlaced J S h t L placed → vol (spans J) S h t L ≡ all_units (spans J) L
    served (f, c) =
        omega (
          arith,
          served_and_left (spans J) S h t L,
          rw c.long at (placed_at_most J S t L f c.fair),
          units_by_job J f,
          sum_ext (count J) (λ j. times j f) L c.exact,
        )

    placed : vol (spans J) S h t L ≡ all_units (spans J) L → (placed : List ℕ) × AllPlaced J S h t L placed
    placed e = (
      bytes (spans J) S h t L,
      record {
        long = bytes_long (spans J) S h t L;
        fair = run_placed J few S h t L;
        exact = λ j l.
            omega (arith, bytes_times J few S h t L j l, served_and_left (spans J) S h t L, part_positive (count J) (final (spans J) S h t L) j l);
      },
    )
