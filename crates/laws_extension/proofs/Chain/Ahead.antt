-- What the chain knows where it has come to slot t and to rank k: the run with the woken slot is one slot ahead there, for it has before
-- slot t what the other has after it; so it serves the first job by rank that reaches t, and no rank below k does.
use Rattle.std.specs.Prelude.{ℕ, suc, ◌≤◌, ◌<◌, Bool, true, false, List, ◌⊎◌, ◌≢◌, get_or}
use Rattle.std.proofs.Math.Path.{◌≡◌}
use Rattle.std.proofs.Common.{ap, sym, ◌∙◌, inl, inr, arith}
use Rattle.std.proofs.Math.Option.{some}
use Rattle.std.proofs.Math.Decide.{ℕ_discrete, dec_lt}
use Rattle.sched.proofs.Bounded.Laws.{lt_suc, true_not_false}
use Rattle.sched.specs.Jobs.{Jobs, count, release, deadline, volume}
use Rattle.laws_edf.specs.Run.{State, Eligible, spans, chosen, left}
use Rattle.laws_edf.specs.Pick.{First, Chosen}
use Rattle.laws_edf.specs.Units.{OneMore, lowered_less, lowered_elsewhere, less_is_lowered}
use Rattle.laws_edf.specs.Apart.{eligible_with}
use Rattle.laws_edf.proofs.Left.{left_falls, left_asleep}
use Rattle.laws_edf.proofs.OneSlotMore.{Extra, before_extra}
use Rattle.laws_edf.specs.Orders.{job_at}
use Rattle.laws_extension.specs.Chain.{RankedJobs, reaches}
use Rattle.laws_extension.proofs.Chain.Turns.{reaches_if, reaching}
use Rattle.laws_extension.specs.Chain.Served.{served_less, served_first, served_lowers, left_after_last, left_before_last}
use Rattle.laws_edf.specs.Pick.{chosen_is, chosen_none}
use Rattle.laws_extension.proofs.Chain.Alike.{AlikeTo, alike_to, merged}
use Rattle.laws_extension.specs.Chain.Keeping.{left_of, served_by, LastSlot}

-- Ranks

module _ {J : Jobs} {ranks : List ℕ} (ranked : RankedJobs J ranks) where
  pub ranks_differ : (i k : ℕ) → i < k → k < count J → job_at ranks i ≢ job_at ranks k
  ranks_differ i k l m e = let s = ranked.sorted.rising i k l m in omega (arith, s.lower (rw e (omega arith)))

  pub other_job : (i k : ℕ) → i < count J → k < count J → i ≢ k → job_at ranks i ≢ job_at ranks k
  other_job i k l m f = go (dec_lt i k)
    where
      go : Dec (i < k) → job_at ranks i ≢ job_at ranks k
      go (yes a) = ranks_differ i k a m
      go (no a) = λ e. ranks_differ k i (omega arith) l (sym e)

  lower_rank_first : (i k : ℕ) → i ≤ k → k < count J → First (deadline J) (job_at ranks i) (job_at ranks k)
  lower_rank_first i k l m = go (ℕ_discrete i k)
    where
      go : Dec (i ≡ k) → First (deadline J) (job_at ranks i) (job_at ranks k)
      go (yes e) = rw e (record { sooner = omega arith; lower = λ _. omega arith })
      go (no f) =
          let s = ranked.sorted.rising i k (omega arith) m in
          record { sooner = s.sooner; lower = λ d. omega (arith, s.lower d) }

abbrev pub Alike : Jobs → (ℕ → Bool) → (ℕ → Bool) → ℕ → ℕ → ℕ → Type 0
Alike J S S' j a b = AlikeTo (spans J) S S' (volume J) j a b

-- slot x is woken; of the run of S each rank keeps the release, the units lost and the reach of its job
pub record Waking (J : Jobs) (ranks releases lost reach : List ℕ) (S S' : ℕ → Bool) (x : ℕ) : Type 0 where
  pub few : count J ≤ 254
  pub ranked : RankedJobs J ranks
  pub extra : Extra S S' x
  pub releases_are : (k : ℕ) → k < count J → get_or releases k 0 ≡ release J (job_at ranks k)
  pub loses : (k : ℕ) → k < count J → get_or lost k 0 ≡ left_of J S J.horizon (job_at ranks k)
  pub in_time : (k : ℕ) → k < count J → get_or reach k 0 ≤ deadline J (job_at ranks k)
  pub due : (k : ℕ) → k < count J → 0 < get_or lost k 0 → get_or reach k 0 ≡ deadline J (job_at ranks k)
  pub last : (k : ℕ) → k < count J → get_or lost k 0 ≡ 0 → LastSlot J S (job_at ranks k) (get_or reach k 0)

-- the chain has come to slot t, with the ranks from k on still to be asked
pub record Ahead (J : Jobs) (ranks : List ℕ) (S S' : ℕ → Bool) (x k t : ℕ) : Type 0 where
  pub from : x ≤ t
  pub inside : t < J.horizon
  pub awake : S' t ≡ true
  pub ahead : left_of J S (suc t) ≡ left_of J S' t
  pub passed : (i : ℕ) → i < k → Eligible (spans J) t (left_of J S (suc t)) (job_at ranks i) → ⊥
  pub fresh : (i : ℕ) → k ≤ i → i < count J → served_by J S t ≢ some (job_at ranks i)

module _ {J : Jobs} {ranks releases lost reach : List ℕ} {S S' : ℕ → Bool} {x : ℕ} (c : Waking J ranks releases lost reach S S' x) where
  -- a rank reaches t where its job has a unit left after t
  able_reaching : {k t : ℕ} → k < count J → t < J.horizon → Eligible (spans J) t (left_of J S (suc t)) (job_at ranks k) → reaches releases reach t k ≡ true
  able_reaching {k} {t} below inside e =
      reaches_if releases reach t k (omega (arith, c.releases_are k below, e.released)) (go (dec_lt t (get_or reach k 0)) (dec_lt 0 (get_or lost k 0)))
    where
      go : Dec (t < get_or reach k 0) → Dec (0 < get_or lost k 0) → t < get_or reach k 0
      go (yes l) _ = l
      go (no f) (yes u) = omega (arith, c.due k below u, e.before)
      go (no f) (no g) =
          let last = left_after_last (c.last k below (omega arith)) (suc t) (omega arith) inside in
          absurd (omega (arith, e.unit, last, c.loses k below))

  -- the chain starts at the woken slot; the ranks that do not reach it need not be asked
  pub ahead_start : x < J.horizon → (first : ℕ) → first ≤ count J → ((i : ℕ) → i < first → get_or reach i 0 ≤ x) → Ahead J ranks S S' x first x
  unfolding chosen
  ahead_start inside first within low =
      record {
        from = omega arith;
        inside = inside;
        awake = c.extra.awake;
        ahead = left_asleep (spans J) S (volume J) x c.extra.asleep ∙ before_extra (spans J) S S' (volume J) x c.extra x (omega arith);
        passed = λ i l e. omega (arith, low i l, (reaching releases reach x i (able_reaching (omega arith) inside e)).1);
        fresh = λ i a b. rw (c.extra.asleep, chosen) (λ q. let z : ◌≡◌ {A = ℕ} 0 1 = cc in absurd (omega arith));
      }

  module _ {k t : ℕ} (h : Ahead J ranks S S' x k t) (below : k < count J) where
    -- slot t is not the last of a rank still to be asked
    ends_later : get_or lost k 0 ≡ 0 → t < get_or reach k 0 → suc t < get_or reach k 0
    ends_later z u = go (ℕ_discrete (get_or reach k 0) (suc t))
      where
        go : Dec (get_or reach k 0 ≡ suc t) → suc t < get_or reach k 0
        go (yes q) = absurd (h.fresh k (omega arith) below ((c.last k below z).serves t q))
        go (no f) = omega arith

    -- and the other way round
    reaching_able : reaches releases reach t k ≡ true → Eligible (spans J) t (left_of J S (suc t)) (job_at ranks k)
    reaching_able e =
        let (since, l) = reaching releases reach t k e in
        record {
          below = c.ranked.sorted.known k below;
          released = omega (arith, c.releases_are k below);
          before = omega (arith, c.in_time k below);
          unit = go l (dec_lt 0 (get_or lost k 0));
        }
      where
        go : t < get_or reach k 0 → Dec (0 < get_or lost k 0) → 0 < left_of J S (suc t) (job_at ranks k)
        go l (yes u) =
            omega (arith, c.loses k below, left_falls (spans J) S (volume J) (suc t) J.horizon (job_at ranks k) h.inside)
        go l (no f) =
            let z : get_or lost k 0 ≡ 0 = omega arith in
            left_before_last (c.last k below z) (suc t) (ends_later z l)

    -- a rank that does not reach t is passed
    pub ahead_closed : reaches releases reach t k ≡ false → Ahead J ranks S S' x (suc k) t
    ahead_closed e =
        record {
          from = h.from;
          inside = h.inside;
          awake = h.awake;
          ahead = h.ahead;
          passed = λ i l. go i (lt_suc l);
          fresh = λ i l. h.fresh i (omega arith);
        }
      where
        go : (i : ℕ) → (i < k) ⊎ (i ≡ k) → Eligible (spans J) t (left_of J S (suc t)) (job_at ranks i) → ⊥
        go i (inl l) = h.passed i l
        go i (inr q) = rw q (λ a. true_not_false (reaches releases reach t k) (able_reaching below h.inside a) e)

    -- the first rank that reaches t has the job that the woken run serves there
    module _ (far : reaches releases reach t k ≡ true) where
      takes : Chosen (spans J) t (left_of J S (suc t)) (job_at ranks k)
      takes = record { able = reaching_able far; first = λ j e. go j e (c.ranked.sorted.all j e.below) }
        where
          go : (j : ℕ) → Eligible (spans J) t (left_of J S (suc t)) j → (i : ℕ) × (i < count J) × (job_at ranks i ≡ j) →
              First (deadline J) (job_at ranks k) j
          go j e (i, l, q) = by (dec_lt i k)
            where
              by : Dec (i < k) → First (deadline J) (job_at ranks k) j
              by (yes m) = absurd (h.passed i m (rw q e))
              by (no f) = rw (← q) (lower_rank_first c.ranked k i (omega arith) l)

      pub serves_there : served_by J S' t ≡ some (job_at ranks k)
      serves_there =
          rw (h.awake, ← h.ahead) (chosen_is (spans J) t (left_of J S (suc t)) (job_at ranks k) takes)

      apart_there : OneMore (job_at ranks k) (left_of J S (suc t)) (left_of J S' (suc t))
      apart_there =
          rw (served_lowers (spans J) S' (volume J) t (job_at ranks k) serves_there, ← h.ahead)
          (lowered_less (left_of J S (suc t)) (job_at ranks k) takes.able.unit)

      alike_from_there : (b : ℕ) → t < b → 0 < left_of J S b (job_at ranks k) → Alike J S S' (job_at ranks k) (suc t) b
      alike_from_there b l u =
          alike_to (spans J) (volume J) c.extra (job_at ranks k) (suc t) b (omega (arith, h.from)) l apart_there u

      -- a lost unit is gained
      pub gained_alike : 0 < get_or lost k 0 → Alike J S S' (job_at ranks k) (suc t) J.horizon
      gained_alike u = alike_from_there J.horizon h.inside (omega (arith, c.loses k below))

      -- or the job gives up its last slot w, and the chain has come there
      module _ (none_lost : get_or lost k 0 ≡ 0) {w : ℕ} (given : get_or reach k 0 ≡ suc w) where
        pub given_later : t < w
        given_later = omega (arith, ends_later none_lost (reaching releases reach t k far).1)

        last_slot : LastSlot J S (job_at ranks k) (get_or reach k 0)
        last_slot = c.last k below none_lost

        gives : served_by J S w ≡ some (job_at ranks k)
        gives = last_slot.serves w given

        pub given_alike : Alike J S S' (job_at ranks k) (suc t) w
        given_alike = alike_from_there w given_later (omega (arith, served_less (spans J) S (volume J) w (job_at ranks k) gives))

        ahead_there : left_of J S (suc w) ≡ left_of J S' w
        ahead_there =
            served_lowers (spans J) S (volume J) w (job_at ranks k) gives
            ∙ less_is_lowered (job_at ranks k) (left_of J S w) (left_of J S' w) given_alike.apart

        none_left : left_of J S (suc w) (job_at ranks k) ≡ 0
        none_left = left_after_last last_slot (suc w) (omega arith) (omega (arith, last_slot.within)) ∙ sym (c.loses k below) ∙ none_lost

        -- a job of lower rank would have been served at w in place of this one
        none_sooner : (i : ℕ) → i < k → Eligible (spans J) w (left_of J S (suc w)) (job_at ranks i) → ⊥
        none_sooner i l e =
            let same : left_of J S (suc w) (job_at ranks i) ≡ left_of J S w (job_at ranks i) =
            ap (λ (L : State). L (job_at ranks i)) (served_lowers (spans J) S (volume J) w (job_at ranks k) gives)
            ∙ lowered_elsewhere (left_of J S w) (job_at ranks k) (job_at ranks i) (ranks_differ c.ranked i k l below) in
            let able = eligible_with (spans J) w (left_of J S (suc w)) (left_of J S w) (job_at ranks i) e (omega (arith, e.unit)) in
            let first = (served_first (spans J) S (volume J) w (job_at ranks k) gives).1.first (job_at ranks i) able in
            let s = c.ranked.sorted.rising i k l below in
            omega (arith, s.lower first.sooner, first.lower s.sooner)

        pub ahead_on : Ahead J ranks S S' x (suc k) w
        ahead_on =
            record {
              from = omega (arith, given_later, h.from);
              inside = omega (arith, last_slot.within);
              awake = c.extra.same w (omega (arith, given_later, h.from)) ∙ (served_first (spans J) S (volume J) w (job_at ranks k) gives).0;
              ahead = ahead_there;
              passed = λ i l. go i (lt_suc l);
              fresh = λ i l b q. ranks_differ c.ranked k i l b (same_job (sym gives ∙ q));
            }
          where
            go : (i : ℕ) → (i < k) ⊎ (i ≡ k) → Eligible (spans J) w (left_of J S (suc w)) (job_at ranks i) → ⊥
            go i (inl l) = none_sooner i l
            go i (inr q) = rw q (λ e. omega (arith, e.unit, none_left))

            same_job : {a b : ℕ} → some a ≡ some b → a ≡ b
            same_job q = cc

  -- past the last rank nothing is served at t, and the runs have met
  pub ahead_end : {k t : ℕ} → Ahead J ranks S S' x k t → count J ≤ k → left_of J S J.horizon ≡ left_of J S' J.horizon
  unfolding left
  ahead_end {k} {t} h l =
      merged (spans J) (volume J) c.extra (suc t) J.horizon (omega (arith, h.from)) h.inside
      (rw (h.awake, ← h.ahead, chosen_none (spans J) t (left_of J S (suc t)) nobody))
    where
      nobody : (j : ℕ) → Eligible (spans J) t (left_of J S (suc t)) j → ⊥
      nobody j e = go (c.ranked.sorted.all j e.below)
        where
          go : (i : ℕ) × (i < count J) × (job_at ranks i ≡ j) → ⊥
          go (i, m, q) = h.passed i (omega arith) (rw q e)
