-- The lowest bit of the ranks that a slot may serve is the job that earliest deadline first serves there.
use Rattle.std.specs.Prelude.{ℕ, ◌≤◌, ◌<◌, ◌≡◌, refl, true, List, length}
use Rattle.std.proofs.Common.{sym, ap, subst, ◌∙◌, arith}
use Rattle.std.proofs.Math.Option.{Option, none, some}
use Rattle.sched.specs.Bounded.{least_from}
use Rattle.laws_edf.specs.Run.{Spans, chosen}
use Rattle.laws_edf.specs.Pick.{Chosen, chosen_is}
use Rattle.laws_edf.specs.Search.{state_of}
use Rattle.laws_edf.specs.Orders.{Sorted, job_at}
use Rattle.queue.specs.Mask.{mask}
use Rattle.queue.specs.Mask.Laws.{zeros_some, empty_none, some_pos}
use Rattle.queue.specs.Ranks.{serves_rank}
use Rattle.queue.specs.Ranks.Chosen.{rank_chosen, rank_none}
use Rattle.queue.specs.Serving.{lowest, CanServeLowest, ServesLowest, Waits, After}
use Rattle.queue.specs.Serving.Laws.{none_after, can_serve, rank_after}

module _
    (F : Spans) (ranks left : List ℕ) (sorted : Sorted F.n F.d ranks) (few : F.n ≤ 64) (room : F.n ≤ length left)
    (t bits : ℕ) (b : bits ≡ mask (serves_rank F ranks t (state_of left)) F.n) where
  -- what the bits say: no rank may be served, or the lowest is rank k
  pub record Lowest (k : ℕ) : Type 0 where
    pub below : k < F.n
    pub zeros : lowest bits ≡ k
    pub positive : 0 < bits
    pub served : Chosen F t (state_of left) (job_at ranks k)

  found : (k : ℕ) → least_from F.n 0 (serves_rank F ranks t (state_of left)) ≡ some k → Lowest k
  found k e =
      let c = rank_chosen F ranks sorted t (state_of left) k e in
      let z = zeros_some (serves_rank F ranks t (state_of left)) 64 F.n 0 k few e in
      record {
        below = c.0;
        zeros = ap lowest b ∙ omega (arith, z);
        positive = rw b (some_pos (serves_rank F ranks t (state_of left)) F.n 0 k e);
        served = c.1;
      }

  nothing : least_from F.n 0 (serves_rank F ranks t (state_of left)) ≡ none → bits ≡ 0
  nothing e = b ∙ empty_none (serves_rank F ranks t (state_of left)) F.n 0 e

  -- by what is served
  pub by_lowest : (A : Type 0) → (bits ≡ 0 → chosen F true t (state_of left) ≡ none → A) → ((k : ℕ) → Lowest k → A) → A
  by_lowest A no_one one = go (least_from F.n 0 (serves_rank F ranks t (state_of left))) refl
    where
      go : (o : Option ℕ) → least_from F.n 0 (serves_rank F ranks t (state_of left)) ≡ o → A
      go none e = no_one (nothing e) (rank_none F ranks sorted t (state_of left) e)
      go (some k) e = one k (found k e)

  lowest_waits : (k : ℕ) → Lowest k → Waits F ranks t left (lowest bits)
  lowest_waits k c = subst (Waits F ranks t left) (sym c.zeros) (record { below = c.below; able = c.served.able })

  pub can_serve_lowest : 0 < bits → CanServeLowest bits ranks left
  can_serve_lowest pos =
      by_lowest _ (λ z _. absurd (omega arith)) (λ k c. can_serve F ranks left sorted few room t bits b (lowest bits) (lowest_waits k c))

  pub lowest_after : (byte bits' : ℕ) (left' : List ℕ) → ServesLowest bits ranks left byte bits' left' → After F ranks t left (chosen F true t (state_of left)) byte bits' left'
  lowest_after byte bits' left' s =
      by_lowest _
      (λ z e.
      let (byte_is, bits_are, left_is) = s.idles z in
      rw (e, byte_is, bits_are, left_is) (none_after F ranks left sorted few room t bits b z))
      (λ k c.
      let job : some (job_at ranks (lowest bits)) ≡ chosen F true t (state_of left) =
      ap (λ (x : ℕ). some (job_at ranks x)) c.zeros ∙ sym (chosen_is F t (state_of left) (job_at ranks k) c.served) in
      subst (λ (o : Option ℕ). After F ranks t left o byte bits' left') job
      (rank_after F ranks left sorted few room t bits b (lowest bits) (lowest_waits k c) byte bits' left' (s.serves c.positive)))
