-- Step 4 under any rule that takes a job of earliest deadline: the table keeps its set of slots, and where all volume can be worked it leaves
-- no unit and is feasible. The run's own choice serves as much as any other, so what is left can always be served.
use Rattle.std.specs.Prelude.{ℕ, zero, suc, ◌+◌, ◌≤◌, ◌<◌, ◌≡◌, Bool, not, ◌⊎◌, eqb, length, get_or}
use Rattle.std.proofs.Math.Path.{refl, ap, ap₂}
use Rattle.std.proofs.Common.{sym, ◌∙◌, inl, inr, leb-true, ltb-true, le-leb, lt-ltb, ne_eqb}
use Rattle.std.proofs.Math.Bool.{true, false}
use mathlib.Core.List.{List, [], ◌∷◌}
use Rattle.std.proofs.Math.Option.{Option, none, some}
use native.Mathlib.Omega.{arith}
use Rattle.std.proofs.Math.Decide.{dec_lt, ℕ_discrete}
use Rattle.sched.proofs.Bounded.Laws.{and_true, true_not_false}
use Rattle.sched.specs.Jobs.{Jobs, count, deadline, volume}
use Rattle.sched.specs.Slots.{awake_of, idle, asleep, times}
use Rattle.sched.proofs.Slots.Laws.{times_none, times_same, times_other}
use Rattle.sched.specs.Feasible.{OwnSlot, Feasible}
use Rattle.steps.specs.Table.{Rule, runnable, choice, run_byte, serve, latest_of, fill_by}
use Rattle.steps.specs.Workable.{lower}
use Rattle.laws_edf.specs.Run.{State, Eligible, spans, chosen, lowered, after, gain, vol, final, all_units}
use Rattle.laws_edf.specs.Rules.{Soonest, OneOf, EarliestRule}
use Rattle.laws_edf.proofs.GoesOn.{goes_on_one}
use Rattle.laws_edf.specs.Units.{lowered_there, lowered_elsewhere, lowered_less, sum_one_more}
use Rattle.laws_edf.proofs.Left.{served_and_left, final_late}
use Rattle.laws_edf.proofs.AnyTie.{Sooner, sooner_step}
use Rattle.laws_edf.specs.Search.{state_of, state_lowered, Reads, reads_head, reads_tail}
use Rattle.laws_edf.proofs.Find.{part_positive}

-- The rule of step 4 is one of them.
pub choice_earliest : (J : Jobs) → EarliestRule J (choice J)
choice_earliest J t left latest = goes_on_one (deadline J) (runnable J t left) (count J) latest

module _ (J : Jobs) (few : count J ≤ 64) (rule : Rule) (ok : EarliestRule J rule) where
  -- The set is kept

  -- what the rule may give
  abbrev Takes : ℕ → List ℕ → Option ℕ → Type 0
  Takes t l o = OneOf (deadline J) (runnable J t l) (count J) o

  byte_awake : (t : ℕ) (l : List ℕ) (o : Option ℕ) → Takes t l o → not (eqb (run_byte o) asleep) ≡ true
  byte_awake t l none v = refl
  byte_awake t l (some k) v = rw (ne_eqb k 255 (omega (arith, v.below)))

  pub fill_awake : (t : ℕ) (l : List ℕ) (latest : Option ℕ) (S : List Bool) → awake_of (fill_by rule t l latest S) ≡ S
  unfolding fill_by
  fill_awake t l latest [] = refl
  fill_awake t l latest (false ∷ S) = ap (λ (rest : List Bool). false ∷ rest) (fill_awake (suc t) l latest S)
  fill_awake t l latest (true ∷ S) =
      ap₂ (λ (b : Bool) (rest : List Bool). b ∷ rest) (byte_awake t l (rule t l latest) (ok t l latest))
      (fill_awake (suc t) (serve l (rule t l latest)) (latest_of (rule t l latest) latest) S)

  -- All that is left can be served

  module _ (S : ℕ → Bool) where
    -- the slots of `rest`, from t on, serve all units that are left
    Full : List Bool → ℕ → List ℕ → Type 0
    Full rest t l = vol (spans J) S (length rest) t (state_of l) ≡ all_units (spans J) (state_of l)

    -- so no unfinished job is past its deadline
    in_time : (rest : List Bool) (t : ℕ) (l : List ℕ) (j : ℕ) → Full rest t l → j < count J → 0 < state_of l j → t < deadline J j
    unfolding Full
    in_time rest t l j full below unit = go (dec_lt t (deadline J j))
      where
        go : Dec (t < deadline J j) → t < deadline J j
        go (yes m) = m
        go (no n) =
            absurd (
            omega (
              arith,
              served_and_left (spans J) S (length rest) t (state_of l),
              part_positive (count J) (final (spans J) S (length rest) t (state_of l)) j below,
              final_late (spans J) S (length rest) t (state_of l) j (omega arith),
            )
            )

    able : (rest : List Bool) (t : ℕ) (l : List ℕ) (k : ℕ) → Full rest t l → Soonest (deadline J) (runnable J t l) (count J) k → Eligible (spans J) t (state_of l) k
    able rest t l k full u =
        let (released, unit) = and_true _ _ u.holds in
        record {
          below = u.below;
          released = leb-true _ _ released;
          before = in_time rest t l k full u.below (ltb-true _ _ unit);
          unit = ltb-true _ _ unit;
        }

    runs : (t : ℕ) (l : List ℕ) (j : ℕ) → Eligible (spans J) t (state_of l) j → runnable J t l j ≡ true
    runs t l j e = simp (le-leb _ _ e.released, lt-ltb _ _ e.unit)

    -- the rule's job is one that a run of earliest deadline first may serve
    sooner : (rest : List Bool) (t : ℕ) (l : List ℕ) (o : Option ℕ) → S t ≡ true → Full rest t l → Takes t l o → Sooner (spans J) (S t) t (state_of l) o
    sooner rest t l none w full v = λ _ j e. true_not_false (runnable J t l j) (runs t l j e) (v j e.below)
    sooner rest t l (some k) w full v = (w, able rest t l k full v, λ j e. v.first j e.below (runs t l j e))

    units_after : (t : ℕ) (l : List ℕ) (o : Option ℕ) → Sooner (spans J) (S t) t (state_of l) o →
        all_units (spans J) (state_of l) ≡ gain o + all_units (spans J) (state_of (serve l o))
    units_after t l none v = omega arith
    units_after t l (some k) v =
        omega (
          arith,
          ap (all_units (spans J)) (state_lowered l k),
          sum_one_more (count J) k (state_of l) (lowered (state_of l) k) v.1.below (lowered_less (state_of l) k v.1.unit),
        )

    serve_state : (l : List ℕ) (o : Option ℕ) → state_of (serve l o) ≡ after (state_of l) o
    serve_state l none = refl
    serve_state l (some k) = state_lowered l k

    full_awake : (rest : List Bool) (t : ℕ) (l : List ℕ) (o : Option ℕ) → Full (true ∷ rest) t l → Sooner (spans J) (S t) t (state_of l) o → Full rest (suc t) (serve l o)
    unfolding Full
    full_awake rest t l o full v =
        omega (
          arith,
          sooner_step (spans J) S (length rest) t (state_of l) o v,
          units_after t l o v,
          ap (vol (spans J) S (length rest) (suc t)) (serve_state l o),
        )

    full_asleep : (rest : List Bool) (t : ℕ) (l : List ℕ) → S t ≡ false → Full (false ∷ rest) t l → Full rest (suc t) l
    unfolding Full vol chosen
    full_asleep rest t l e full = omega (arith, rw (e, vol, chosen) at full)

    -- The table

    -- a table of the slots of `rest`, from t on, that has just the units that are left
    record HasAll (rest : List Bool) (t : ℕ) (l table : List ℕ) : Type 0 where
      long : length table ≡ length rest
      known : (i : ℕ) → i < length rest → (get_or table i 0 < count J) ⊎ ((get_or table i 0 ≡ idle) ⊎ (get_or table i 0 ≡ asleep))
      own : (i : ℕ) → i < length rest → get_or table i 0 < count J → OwnSlot J (get_or table i 0) (t + i)
      exact : (j : ℕ) → j < count J → times j table ≡ get_or l j 0

    all_done : (t : ℕ) (l : List ℕ) → Full [] t l → HasAll [] t l []
    unfolding Full vol
    all_done t l full =
        record {
          long = refl;
          known = λ i m. absurd (omega arith);
          own = λ i m. absurd (omega arith);
          exact = λ j m. omega (arith, times_none j, part_positive (count J) (state_of l) j m);
        }

    -- a slot more in front: an idle or sleeping one, or one of a job's own slots

    none_first : (b : Bool) (rest : List Bool) (t : ℕ) (l table : List ℕ) (byte : ℕ) → (byte ≡ idle) ⊎ (byte ≡ asleep) → HasAll rest (suc t) l table → HasAll (b ∷ rest) t l (byte ∷ table)
    none_first b rest t l table byte mark h =
        record {
          long = ap suc h.long;
          known = λ i m. known_at i m;
          own = λ i m k. own_at i m k;
          exact = λ j m. times_other j byte table (λ e. omega (arith, large, e)) ∙ h.exact j m;
        }
      where
        large : 254 ≤ byte
        large = by mark
          where
            by : (byte ≡ idle) ⊎ (byte ≡ asleep) → 254 ≤ byte
            by (inl e) = omega arith
            by (inr e) = omega arith

        known_at : (i : ℕ) → i < suc (length rest) → (get_or (byte ∷ table) i 0 < count J) ⊎ ((get_or (byte ∷ table) i 0 ≡ idle) ⊎ (get_or (byte ∷ table) i 0 ≡ asleep))
        known_at zero m = inr mark
        known_at (suc i) m = h.known i (omega arith)

        own_at : (i : ℕ) → i < suc (length rest) → get_or (byte ∷ table) i 0 < count J → OwnSlot J (get_or (byte ∷ table) i 0) (t + i)
        own_at zero m k = absurd (omega (arith, large))
        own_at (suc i) m k = let e : t + suc i ≡ suc t + i = omega arith in rw e (h.own i (omega arith) k)

    job_first : (rest : List Bool) (t : ℕ) (l table : List ℕ) (k : ℕ) → Eligible (spans J) t (state_of l) k → HasAll rest (suc t) (lower l k) table → HasAll (true ∷ rest) t l (k ∷ table)
    job_first rest t l table k able h =
        record {
          long = ap suc h.long;
          known = λ i m. known_at i m;
          own = λ i m b. own_at i m b;
          exact = λ j m. times_at j m (ℕ_discrete k j);
        }
      where
        known_at : (i : ℕ) → i < suc (length rest) → (get_or (k ∷ table) i 0 < count J) ⊎ ((get_or (k ∷ table) i 0 ≡ idle) ⊎ (get_or (k ∷ table) i 0 ≡ asleep))
        known_at zero m = inl able.below
        known_at (suc i) m = h.known i (omega arith)

        own_at : (i : ℕ) → i < suc (length rest) → get_or (k ∷ table) i 0 < count J → OwnSlot J (get_or (k ∷ table) i 0) (t + i)
        own_at zero m b = let e : t + 0 ≡ t = omega arith in rw e (record { released = able.released; before = able.before })
        own_at (suc i) m b = let e : t + suc i ≡ suc t + i = omega arith in rw e (h.own i (omega arith) b)

        left_at : (j : ℕ) → get_or (lower l k) j 0 ≡ lowered (state_of l) k j
        left_at j = ap (λ (L : State). L j) (state_lowered l k)

        times_at : (j : ℕ) → j < count J → Dec (k ≡ j) → times j (k ∷ table) ≡ get_or l j 0
        times_at j m (yes e) = rw (← e) (omega (arith, times_same k k table refl, h.exact k able.below, left_at k, lowered_there (state_of l) k, able.unit))
        times_at j m (no n) = omega (arith, times_other j k table n, h.exact j m, left_at j, lowered_elsewhere (state_of l) k j (λ e. n (sym e)))

    by_choice : (rest : List Bool) (t : ℕ) (l table : List ℕ) (o : Option ℕ) → Sooner (spans J) (S t) t (state_of l) o → HasAll rest (suc t) (serve l o) table → HasAll (true ∷ rest) t l (run_byte o ∷ table)
    by_choice rest t l table none v h = none_first true rest t l table idle (inl refl) h
    by_choice rest t l table (some k) v h = job_first rest t l table k v.1 h

    fill_has_all : (rest : List Bool) (t : ℕ) (l : List ℕ) (latest : Option ℕ) → Reads S t rest → Full rest t l → HasAll rest t l (fill_by rule t l latest rest)
    unfolding fill_by
    fill_has_all [] t l latest e full = all_done t l full
    fill_has_all (false ∷ rest) t l latest e full =
        none_first false rest t l (fill_by rule (suc t) l latest rest) asleep (inr refl)
        (fill_has_all rest (suc t) l latest (reads_tail S t false rest e) (full_asleep rest t l (reads_head S t false rest e) full))
    fill_has_all (true ∷ rest) t l latest e full =
        let o = rule t l latest in
        let v = sooner (true ∷ rest) t l o (reads_head S t true rest e) full (ok t l latest) in
        by_choice rest t l (fill_by rule (suc t) (serve l o) (latest_of o latest) rest) o v
        (fill_has_all rest (suc t) (serve l o) (latest_of o latest) (reads_tail S t true rest e) (full_awake rest t l o full v))

    -- A rule that agrees with this one while no unfinished job is past its deadline gives the same table.
    fill_alike : (other : Rule) →
        ((t : ℕ) (l : List ℕ) (latest : Option ℕ) → ((j : ℕ) → j < count J → 0 < state_of l j → t < deadline J j) → rule t l latest ≡ other t l latest) →
        (rest : List Bool) (t : ℕ) (l : List ℕ) (latest : Option ℕ) → Reads S t rest → Full rest t l → fill_by rule t l latest rest ≡ fill_by other t l latest rest
    unfolding fill_by
    fill_alike other agree [] t l latest e full = refl
    fill_alike other agree (false ∷ rest) t l latest e full =
        ap (λ (x : List ℕ). asleep ∷ x)
        (fill_alike other agree rest (suc t) l latest (reads_tail S t false rest e) (full_asleep rest t l (reads_head S t false rest e) full))
    fill_alike other agree (true ∷ rest) t l latest e full =
        let o = rule t l latest in
        let v = sooner (true ∷ rest) t l o (reads_head S t true rest e) full (ok t l latest) in
        ap (λ (x : List ℕ). run_byte o ∷ x)
        (fill_alike other agree rest (suc t) (serve l o) (latest_of o latest) (reads_tail S t true rest e) (full_awake rest t l o full v))
        ∙ ap (λ (x : Option ℕ). run_byte x ∷ fill_by other (suc t) (serve l x) (latest_of x latest) rest)
        (agree t l latest (λ j m u. in_time (true ∷ rest) t l j full m u))

  -- Where all volume can be worked in a set of H slots, the table is feasible.
  pub fill_feasible : (S : List Bool) (T : ℕ → Bool) → length S ≡ J.horizon → Reads T 0 S →
      vol (spans J) T (length S) 0 (volume J) ≡ all_units (spans J) (volume J) → Feasible J (fill_by rule 0 J.volumes none S)
  unfolding Full
  fill_feasible S T long reads full =
      let h = fill_has_all T S 0 J.volumes none reads full in
      record {
        long = h.long ∙ long;
        known = λ t l. h.known t (rw long l);
        own = λ t l k. let e : 0 + t ≡ t = omega arith in rw e at (h.own t (rw long l) k);
        exact = h.exact;
      }

  -- Then any rule that agrees with this one while no unfinished job is past its deadline gives the same table.
  pub fill_same : (other : Rule) →
      ((t : ℕ) (l : List ℕ) (latest : Option ℕ) → ((j : ℕ) → j < count J → 0 < state_of l j → t < deadline J j) → rule t l latest ≡ other t l latest) →
      (S : List Bool) (T : ℕ → Bool) → Reads T 0 S → vol (spans J) T (length S) 0 (volume J) ≡ all_units (spans J) (volume J) →
      fill_by rule 0 J.volumes none S ≡ fill_by other 0 J.volumes none S
  unfolding Full
  fill_same other agree S T reads full = fill_alike T other agree S 0 J.volumes none reads full
