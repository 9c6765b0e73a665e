-- Books by rank that are copied from what is kept of a run.
use Rattle.std.specs.Prelude.{ℕ, ◌≤◌, ◌<◌, ◌≡◌, Bool, true, false, List, eqb, length, get_or}
use Rattle.std.proofs.Math.Path.{ap}
use Rattle.std.proofs.Common.{◌∙◌, arith, eq-eqb, ne_eqb}
use Rattle.sched.specs.Jobs.{Jobs, count, release, deadline}
use Rattle.laws_extension.specs.Chain.{end_below, end_of, RankedJobs, Kept, KeptByRank}
use Rattle.laws_edf.specs.Orders.{job_at}
use Rattle.laws_extension.specs.Chain.Keeping.{run_long, kept_loses}

-- the reach of a job with these lost units, end and deadline
abbrev pub reach_of : ℕ → ℕ → ℕ → ℕ
reach_of lost end due = elim (eqb lost 0) [ true ↦ end | false ↦ due ]

pub reach_of_due : (lost end due : ℕ) → 0 < lost → reach_of lost end due ≡ due
reach_of_due lost end due u = rw (ne_eqb lost 0 (omega arith), reach_of)

pub reach_of_end : (lost end due : ℕ) → lost ≡ 0 → reach_of lost end due ≡ end
reach_of_end lost end due z = rw (eq-eqb lost 0 z, reach_of)

module _ {J : Jobs} {S : List Bool} {table left last : List ℕ} (kept : Kept J S table left last) where
  end_is : (j : ℕ) → j < count J → get_or last j 0 ≡ end_below j J.horizon table
  unfolding end_of
  end_is j l =
      kept.ends_is j l
      ∙ ap (λ (h : ℕ). end_below j h table) (run_long J S kept.table_is)

  pub by_rank_start : {ranks releases lost reach ends : List ℕ} → RankedJobs J ranks →
      count J ≤ length lost → count J ≤ length reach → count J ≤ length ends →
      ((k : ℕ) → k < count J → get_or releases k 0 ≡ release J (job_at ranks k)) →
      ((k : ℕ) → k < count J → get_or lost k 0 ≡ get_or left (job_at ranks k) 0) →
      ((k : ℕ) → k < count J → get_or ends k 0 ≡ get_or last (job_at ranks k) 0) →
      ((k : ℕ) → k < count J → get_or reach k 0 ≡ reach_of (get_or lost k 0) (get_or ends k 0) (deadline J (job_at ranks k))) →
      KeptByRank J S ranks releases table lost reach ends
  by_rank_start {ranks} {releases} {lost} {reach} {ends} ranked a b c releases_are lost_is ends_is reach_is =
      record {
        table_is = kept.table_is;
        lost_is = λ k l. lost_is k l ∙ kept_loses kept (job_at ranks k) (ranked.sorted.known k l);
        ranked = record {
          lost_long = a;
          reach_long = b;
          ends_long = c;
          releases_are = releases_are;
          reach_due = λ k l u. reach_is k l ∙ reach_of_due (get_or lost k 0) (get_or ends k 0) _ u;
          reach_end = λ k l z. reach_is k l ∙ reach_of_end (get_or lost k 0) (get_or ends k 0) _ z ∙ end k l;
          ends_is = λ k l u. end k l;
        };
      }
    where
      end : (k : ℕ) → k < count J → get_or ends k 0 ≡ end_below (job_at ranks k) J.horizon table
      end k l = ends_is k l ∙ end_is (job_at ranks k) (ranked.sorted.known k l)
