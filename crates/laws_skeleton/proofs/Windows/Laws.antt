-- The skeletons of a list are the sets that the recursion allows.
use Rattle.std.specs.Prelude.{ℕ, zero, suc, ◌+◌, ◌≤◌, ◌<◌, ◌≡◌, refl, Bool, true, false, ◌&&◌, List, [], ◌∷◌, length, leb, eqb}
use Rattle.std.proofs.Math.Decide.{dec_le}
use Rattle.std.proofs.Common.{arith, le-leb, leb-true, eq-eqb, eqb-true}
use Rattle.sched.specs.Bounded.{any_below}
use Rattle.sched.proofs.Bounded.Laws.{by_bool, true_not_false, and_true, any_intro, any_elim, all_intro, all_elim}
use Rattle.sched.specs.Jobs.{Jobs, count, release, deadline}
use Rattle.sched.specs.Checks.{Passes}
use Rattle.sched.specs.Slots.{awake}
use Rattle.steps.specs.Skeleton.{in_window, is_skeleton}
use Rattle.laws_skeleton.specs.Recursion.{Allowed}
use Rattle.laws_skeleton.specs.Windows.{window_start, window_end, due}

-- windows that are due

-- a job whose window is due
pub record Due (J : Jobs) (c t : ℕ) : Type 0 where
  pub job : ℕ
  pub listed : job < count J
  pub opens : c ≤ window_start J job
  pub closes : window_end J job ≡ t

pub due_job : (J : Jobs) (c t : ℕ) → due J c t ≡ true → Due J c t
unfolding due
due_job J c t e =
    let h = any_elim (count J) (λ j. leb c (window_start J j) && eqb (window_end J j) t) e in
    let both = and_true (leb c (window_start J h.0)) (eqb (window_end J h.0) t) h.2 in
    record { job = h.0; listed = h.1; opens = leb-true _ _ both.0; closes = eqb-true _ _ both.1 }

pub job_due : (J : Jobs) (c t : ℕ) → Due J c t → due J c t ≡ true
unfolding due
job_due J c t h =
    any_intro (count J) (λ j. leb c (window_start J j) && eqb (window_end J j) t) h.job h.listed
    (rw (le-leb _ _ h.opens, eq-eqb _ _ h.closes))

pub due_rises : (J : Jobs) (c c' t : ℕ) → c ≤ c' → due J c' t ≡ true → due J c t ≡ true
due_rises J c c' t l e =
    let h = due_job J c' t e in
    job_due J c t (record { job = h.job; listed = h.listed; opens = omega arith; closes = h.closes })

-- a list that passes the checks has no empty window, and none past the horizon

pub window_opens : (J : Jobs) → Passes J → (j : ℕ) → j < count J → window_start J j ≤ window_end J j
window_opens J p j l = let g = p.good j l in omega arith

pub window_within : (J : Jobs) → Passes J → (j : ℕ) → window_end J j < J.horizon
window_within J p j = let g = p.low in omega arith

-- skeletons

-- the set S, whose first slot is t, is awake in job j's window
record Met (J : Jobs) (j t : ℕ) (S : List Bool) : Type 0 where
  at : ℕ
  from : window_start J j ≤ t + at
  upto : t + at ≤ window_end J j
  on : awake S at ≡ true

-- one slot further on

met_later : (J : Jobs) (j t : ℕ) (b : Bool) (S : List Bool) → Met J j (suc t) S → Met J j t (b ∷ S)
met_later J j t b S m = record { at = suc m.at; from = omega (arith, m.from); upto = omega (arith, m.upto); on = m.on }

met_asleep : (J : Jobs) (j t : ℕ) (S : List Bool) → Met J j t (false ∷ S) → Met J j (suc t) S
met_asleep J j t S m = go m.at m.from m.upto m.on
  where
    go : (i : ℕ) → window_start J j ≤ t + i → t + i ≤ window_end J j → awake (false ∷ S) i ≡ true → Met J j (suc t) S
    go zero f u e = true_not_false false e refl
    go (suc i) f u e = record { at = i; from = omega arith; upto = omega arith; on = e }

met_opens_later : (J : Jobs) (j t : ℕ) (b : Bool) (S : List Bool) → suc t ≤ window_start J j → Met J j t (b ∷ S) → Met J j (suc t) S
met_opens_later J j t b S l m = go m.at m.from m.upto m.on
  where
    go : (i : ℕ) → window_start J j ≤ t + i → t + i ≤ window_end J j → awake (b ∷ S) i ≡ true → Met J j (suc t) S
    go zero f u e = absurd (omega arith)
    go (suc i) f u e = record { at = i; from = omega arith; upto = omega arith; on = e }

allowed_met : (J : Jobs) → Passes J → (t c : ℕ) (S : List Bool) (j : ℕ) → j < count J → c ≤ window_start J j → t ≤ window_end J j
    → window_end J j < t + length S → Allowed (due J) t c S → Met J j t S
allowed_met J p t c [] j l o u w ok = absurd (omega arith)
allowed_met J p t c (false ∷ S) j l o u w ok = met_later J j t false S (allowed_met J p (suc t) c S j l o later (omega arith) ok.1)
  where
    at_end : window_end J j ≡ t → suc t ≤ window_end J j
    at_end e = true_not_false (due J c t) (job_due J c t (record { job = j; listed = l; opens = o; closes = e })) ok.0

    go : Dec (suc t ≤ window_end J j) → suc t ≤ window_end J j
    go (yes h) = h
    go (no n) = at_end (omega arith)

    later : suc t ≤ window_end J j
    later = go (dec_le (suc t) (window_end J j))
allowed_met J p t c (true ∷ S) j l o u w ok =
    go (dec_le (window_start J j) t) (λ h. allowed_met J p (suc t) (suc t) S j l h (omega (arith, window_opens J p j l)) (omega arith) ok)
  where
    go : Dec (window_start J j ≤ t) → (suc t ≤ window_start J j → Met J j (suc t) S) → Met J j t (true ∷ S)
    go (yes h) ih = record { at = 0; from = omega arith; upto = omega arith; on = refl }
    go (no n) ih = met_later J j t true S (ih (omega arith))

met_allowed : (J : Jobs) (t c : ℕ) (S : List Bool) → c ≤ t → ((j : ℕ) → j < count J → c ≤ window_start J j → t ≤ window_end J j → Met J j t S)
    → Allowed (due J) t c S
met_allowed J t c [] b met = tt
met_allowed J t c (false ∷ S) b met =
    (by_bool (due J c t) late (λ e. e), met_allowed J (suc t) c S (omega arith) (λ j l o u. met_asleep J j t S (met j l o (omega arith))))
  where
    late : due J c t ≡ true → due J c t ≡ false
    late e =
        let h = due_job J c t e in
        let m = met_asleep J h.job t S (met h.job h.listed h.opens (omega (arith, h.closes))) in
        absurd (omega (arith, h.closes, m.upto))
met_allowed J t c (true ∷ S) b met =
    met_allowed J (suc t) (suc t) S (omega arith) (λ j l o u. met_opens_later J j t true S o (met j l (omega arith) (omega arith)))

pub skeleton_allowed : (J : Jobs) (S : List Bool) → is_skeleton J S ≡ true → Allowed (due J) 0 0 S
unfolding is_skeleton
skeleton_allowed J S e = met_allowed J 0 0 S (omega arith) met
  where
    met : (j : ℕ) → j < count J → 0 ≤ window_start J j → 0 ≤ window_end J j → Met J j 0 S
    met j l o u =
        let any = all_elim (count J) (λ j. any_below J.horizon (λ t. awake S t && in_window J j t)) e j l in
        let h = any_elim J.horizon (λ t. awake S t && in_window J j t) any in
        let on = and_true (awake S h.0) (in_window J j h.0) h.2 in
        let in_span = and_true (leb (release J j) (suc h.0)) (leb h.0 (deadline J j)) on.1 in
        record {
          at = h.0;
          from = omega (arith, leb-true (release J j) (suc h.0) in_span.0);
          upto = omega (arith, h.1, leb-true h.0 (deadline J j) in_span.1);
          on = on.0;
        }

pub allowed_skeleton : (J : Jobs) (S : List Bool) → Passes J → length S ≡ J.horizon → Allowed (due J) 0 0 S → is_skeleton J S ≡ true
unfolding is_skeleton
allowed_skeleton J S p n ok = all_intro (count J) (λ j. any_below J.horizon (λ t. awake S t && in_window J j t)) hit
  where
    hit : (j : ℕ) → j < count J → any_below J.horizon (λ t. awake S t && in_window J j t) ≡ true
    hit j l =
        let m = allowed_met J p 0 0 S j l (omega arith) (omega arith) (omega (arith, window_within J p j)) ok in
        any_intro J.horizon (λ t. awake S t && in_window J j t) m.at (omega (arith, m.upto, window_within J p j))
        (rw (m.on, le-leb (release J j) (suc m.at) (omega (arith, m.from)), le-leb m.at (deadline J j) (omega (arith, m.upto))))
