-- The least rank that a slot may serve is the job that earliest deadline first picks.
use Rattle.std.specs.Prelude.{ℕ, ◌≤◌, ◌<◌, ◌≡◌, true, false, List}
use Rattle.std.proofs.Common.{sym, ap, subst, ◌∙◌, arith}
use Rattle.std.proofs.Math.Option.{none, some}
use Rattle.std.proofs.Math.Decide.{dec_lt, ℕ_discrete}
use Rattle.sched.specs.Bounded.{least_from}
use Rattle.sched.proofs.Bounded.Laws.{least_some, least_none, true_not_false}
use Rattle.laws_edf.specs.Run.{Spans, State, Eligible, servable, chosen}
use Rattle.laws_edf.specs.Pick.{First, Chosen, eligible, servable_if}
use Rattle.laws_edf.specs.Orders.{Sorted, job_at}
use Rattle.laws_edf.specs.Pick.{chosen_none}
use Rattle.queue.specs.Ranks.{serves_rank}

module _ (F : Spans) (ranks : List ℕ) (sorted : Sorted F.n F.d ranks) (t : ℕ) (L : State) where
  lower_first : (k i : ℕ) → k ≤ i → i < F.n → First F.d (job_at ranks k) (job_at ranks i)
  lower_first k i l m = go (ℕ_discrete k i)
    where
      go : Dec (k ≡ i) → First F.d (job_at ranks k) (job_at ranks i)
      go (yes e) = rw e (record { sooner = omega arith; lower = λ _. omega arith })
      go (no n) = let s = sorted.rising k i (omega arith) m in record { sooner = s.sooner; lower = λ d. omega (arith, s.lower d) }

  -- a rank that may be served, and none below it may, is the job that is picked
  pub rank_first : (k : ℕ) → k < F.n → serves_rank F ranks t L k ≡ true → ((i : ℕ) → i < k → serves_rank F ranks t L i ≡ false) → Chosen F t L (job_at ranks k)
  rank_first k below holds none_lower =
      record {
        able = eligible F t L (job_at ranks k) (sorted.known k below) holds;
        first = λ j g. before j g (sorted.all j g.below);
      }
    where
      before : (j : ℕ) → Eligible F t L j → (i : ℕ) × (i < F.n) × (job_at ranks i ≡ j) → First F.d (job_at ranks k) j
      before j g (i, m, q) = go (dec_lt i k)
        where
          go : Dec (i < k) → First F.d (job_at ranks k) j
          go (yes l) = true_not_false (servable F t L j) (servable_if F t L j g) (ap (servable F t L) (sym q) ∙ none_lower i l)
          go (no n) = subst (First F.d (job_at ranks k)) q (lower_first k i (omega arith) m)

  pub rank_chosen : (k : ℕ) → least_from F.n 0 (serves_rank F ranks t L) ≡ some k → (k < F.n) × Chosen F t L (job_at ranks k)
  rank_chosen k e =
      let f = least_some F.n 0 (serves_rank F ranks t L) k e in
      let below : k < F.n = omega (arith, f.below) in
      (below, rank_first k below f.holds (λ i l. f.first i (omega arith) l))

  pub rank_none : least_from F.n 0 (serves_rank F ranks t L) ≡ none → chosen F true t L ≡ none
  rank_none e = chosen_none F t L (λ j g. go j g (sorted.all j g.below))
    where
      go : (j : ℕ) → Eligible F t L j → (i : ℕ) × (i < F.n) × (job_at ranks i ≡ j) → ⊥
      go j g (i, m, q) =
          true_not_false (servable F t L j) (servable_if F t L j g)
          (ap (servable F t L) (sym q) ∙ least_none F.n 0 (serves_rank F ranks t L) e i (omega arith) (omega arith))
