-- Serving any of the ranks that wait: the bits stay those of the ranks that the slot may serve.
use Rattle.std.specs.Prelude.{ℕ, ◌-◌, ◌^◌, ◌≤◌, ◌<◌, ◌≡◌, Bool, true, false, ◌&&◌, ◌≢◌, length, get_or, eqb}
use Rattle.std.proofs.Math.Path.{refl, sym, ap}
use Rattle.std.proofs.Common.{◌∙◌, arith, eq-eqb, ne_eqb, le-ltb, eqb-true, get_or-set_other}
use mathlib.Core.List.{List}
use Rattle.std.proofs.Math.Bool.{and-false}
use Rattle.std.proofs.Math.Option.{none, some}
use Rattle.std.proofs.Math.Decide.{ℕ_discrete}
use Rattle.std.proofs.lemmas.Bool.{eqb-false}
use Rattle.std.proofs.Math.Seq.{get_or-set_same}
use Rattle.std.proofs.Math.Dec.{leb, ltb}
use Rattle.sched.proofs.Bounded.Laws.{by_bool}
use Rattle.sched.specs.Slots.{idle}
use Rattle.steps.specs.Workable.{lower}
use Rattle.laws_edf.specs.Run.{Spans, State, Eligible, servable}
use Rattle.laws_edf.specs.Pick.{servable_if}
use Rattle.laws_edf.specs.Search.{state_of, state_lowered}
use Rattle.laws_edf.specs.Orders.{Sorted, job_at}
use Rattle.laws_edf.proofs.Orders.Laws.{places_differ}
use Rattle.queue.specs.Mask.{mask}
use Rattle.queue.specs.Mask.Laws.{Joins, mask_joins, mask_alike}
use Rattle.queue.specs.Ranks.{serves_rank}
use Rattle.queue.specs.Serving.{CanServe, served_bits, Serves, Waits, After}

-- a job with no unit left is not served
unserved : (F : Spans) (t : ℕ) (L : State) (j : ℕ) → L j ≡ 0 → servable F t L j ≡ false
unserved F t L j z = rw (le-ltb 0 (L j) (omega arith)) (and-false (leb (F.r j) t && ltb t (F.d j)))

module _
    (F : Spans) (ranks left : List ℕ) (sorted : Sorted F.n F.d ranks) (few : F.n ≤ 64) (room : F.n ≤ length left)
    (t bits : ℕ) (b : bits ≡ mask (serves_rank F ranks t (state_of left)) F.n) where
  -- nobody waits, and nobody is served
  pub none_after : bits ≡ 0 → After F ranks t left none idle 0 left
  none_after z = record { byte_is = refl; left_is = refl; bits_are = sym z ∙ b }

  module _ (k : ℕ) (w : Waits F ranks t left k) where
    left' : List ℕ
    left' = lower left (job_at ranks k)

    -- ranks without rank k
    without : ℕ → Bool
    without i = elim (eqb i k) [ true ↦ false | false ↦ serves_rank F ranks t (state_of left) i ]

    without_joins : Joins F.n without (serves_rank F ranks t (state_of left)) k
    unfolding without
    without_joins = record {
      out = rw (eq-eqb k k refl, without);
      within = servable_if F t (state_of left) (job_at ranks k) w.able;
      same = λ i l n. sym (rw (ne_eqb i k n, without));
    }

    pub can_serve : CanServe k bits ranks left
    can_serve =
        record {
          rank = omega (arith, w.below, few);
          listed = omega (arith, w.below, sorted.long);
          job = omega (arith, sorted.known k w.below, room);
          unit = w.able.unit;
          set = omega (arith, b, mask_joins F.n without (serves_rank F ranks t (state_of left)) k without_joins w.below);
        }

    -- serving rank k changes what no other rank may do
    others_alike : (i : ℕ) → i < F.n → i ≢ k → serves_rank F ranks t (state_of left') i ≡ serves_rank F ranks t (state_of left) i
    unfolding left'
    others_alike i l n =
        ap (λ (x : ℕ). leb (F.r (job_at ranks i)) t && ltb t (F.d (job_at ranks i)) && ltb 0 x)
        (get_or-set_other left (job_at ranks k) (job_at ranks i) (get_or left (job_at ranks k) 0 - 1) 0 (places_differ sorted i k l w.below n))

    here_left : get_or left' (job_at ranks k) 0 ≡ get_or left (job_at ranks k) 0 - 1
    unfolding left'
    here_left = get_or-set_same left (job_at ranks k) (get_or left (job_at ranks k) 0 - 1) 0 (omega (arith, sorted.known k w.below, room))

    last_unit : get_or left (job_at ranks k) 0 - 1 ≡ 0 → bits - 2 ^ k ≡ mask (serves_rank F ranks t (state_of left')) F.n
    last_unit z =
        let joined = mask_joins F.n without (serves_rank F ranks t (state_of left)) k without_joins w.below in
        let alike = mask_alike (serves_rank F ranks t (state_of left')) without F.n (λ i l. go i l (ℕ_discrete i k)) in
        omega (arith, b, joined, alike)
      where
        go : (i : ℕ) → i < F.n → Dec (i ≡ k) → serves_rank F ranks t (state_of left') i ≡ without i
        go i l (yes e) = rw e (unserved F t (state_of left') (job_at ranks k) (here_left ∙ z) ∙ sym without_joins.out)
        go i l (no n) = others_alike i l n ∙ without_joins.same i l n

    more_units : (get_or left (job_at ranks k) 0 - 1 ≡ 0 → ⊥) → bits ≡ mask (serves_rank F ranks t (state_of left')) F.n
    more_units z = b ∙ mask_alike (serves_rank F ranks t (state_of left)) (serves_rank F ranks t (state_of left')) F.n (λ i l. go i l (ℕ_discrete i k))
      where
        still : Eligible F t (state_of left') (job_at ranks k)
        still =
            record { below = w.able.below; released = w.able.released; before = w.able.before; unit = omega (arith, here_left, z) }

        go : (i : ℕ) → i < F.n → Dec (i ≡ k) → serves_rank F ranks t (state_of left) i ≡ serves_rank F ranks t (state_of left') i
        go i l (yes e) =
            rw e (servable_if F t (state_of left) (job_at ranks k) w.able ∙ sym (servable_if F t (state_of left') (job_at ranks k) still))
        go i l (no n) = sym (others_alike i l n)

    bits_served : served_bits k bits ranks left ≡ mask (serves_rank F ranks t (state_of left')) F.n
    unfolding served_bits
    bits_served =
        by_bool (eqb (get_or left (job_at ranks k) 0 - 1) 0)
        (λ e. rw (e, served_bits) (last_unit (eqb-true _ _ e)))
        (λ e. rw (e, served_bits) (more_units (eqb-false _ _ e)))

    pub rank_after : (byte bits' : ℕ) (after_left : List ℕ) → Serves k bits ranks left byte bits' after_left → After F ranks t left (some (job_at ranks k)) byte bits' after_left
    unfolding left'
    rank_after byte bits' after_left s =
        record {
          byte_is = s.byte_is;
          left_is = ap state_of s.left_is ∙ state_lowered left (job_at ranks k);
          bits_are = s.bits_are ∙ bits_served ∙ ap (λ (l : List ℕ). mask (serves_rank F ranks t (state_of l)) F.n) (sym s.left_is);
        }
