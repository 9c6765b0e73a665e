-- Where a run is best ended: the least slot at which what was paid so far and what follows are least together.
use Rattle.std.specs.Prelude.{ℕ, zero, suc, ◌+◌, ◌-◌, ◌≤◌, ◌<◌, min, ◌≡◌, Bool, true, false, List, [], ◌∷◌, ◌++◌, replicate}
use Rattle.std.proofs.Common.{sym, ap, ◌∙◌, arith}
use Rattle.std.proofs.Math.Nat.{sub_self}
use Rattle.std.proofs.Math.Decide.{dec_le}
use Rattle.sched.proofs.Bounded.Laws.{by_bool}
use Rattle.laws_skeleton.specs.Recursion.{least, built}
use Rattle.laws_skeleton.proofs.Recursion.Clauses.{least_end, least_due, least_sleeps, least_awake, least_true_le, built_end, built_due, built_sleeps, built_goes_on, built_ends}

module _ (due : ℕ → ℕ → Bool) (q h : ℕ) where
  -- the recursion by the slot alone, for the horizon h: sleep begins at s, or goes on or ends at s

  abbrev pub asleep_at : ℕ → ℕ
  asleep_at s = least due q (h - s) false s s

  abbrev pub awake_at : ℕ → ℕ
  awake_at s = least due q (h - s) true s s

  -- s is the least slot at which a run that is awake just before t is best ended
  pub record Until (t s : ℕ) : Type 0 where
    pub from : t ≤ s
    pub within : s ≤ h
    pub best : (u : ℕ) → t ≤ u → u ≤ h → s + asleep_at s ≤ u + asleep_at u
    pub first : (u : ℕ) → t ≤ u → u < s → s + asleep_at s < u + asleep_at u

  left : (t : ℕ) → t < h → h - t ≡ suc (h - suc t)
  left t l = omega arith

  awake_step : (t : ℕ) → t < h → awake_at t ≡ min (suc (awake_at (suc t))) (asleep_at t)
  awake_step t l = rw (left t l) (least_awake due q (h - suc t) t t)

  awake_end : awake_at h ≡ asleep_at h
  awake_end = rw (sub_self h) (least_end due q true h h ∙ sym (least_end due q false h h))

  awake_le : (k t u : ℕ) → t + k ≡ u → u ≤ h → t + awake_at t ≤ u + asleep_at u
  awake_le zero t u e l = let z : t ≡ u = omega arith in rw (← z) (omega (arith, least_true_le due q (h - t) t t))
  awake_le (suc k) t u e l = omega (arith, awake_step t (omega arith), awake_le k (suc t) u (omega arith) l)

  -- some slot reaches it
  record Attained (t : ℕ) : Type 0 where
    at : ℕ
    after : t ≤ at
    inside : at ≤ h
    equal : t + awake_at t ≡ at + asleep_at at

  attained : (k t : ℕ) → t + k ≡ h → Attained t
  attained zero t e =
      let z : t ≡ h = omega arith in record { at = t; after = omega arith; inside = omega arith; equal = rw z (ap (λ (n : ℕ). h + n) awake_end) }
  attained (suc k) t e = go (dec_le (asleep_at t) (suc (awake_at (suc t)))) (attained k (suc t) (omega arith))
    where
      go : Dec (asleep_at t ≤ suc (awake_at (suc t))) → Attained (suc t) → Attained t
      go (yes l) a = record { at = t; after = omega arith; inside = omega arith; equal = omega (arith, awake_step t (omega arith)) }
      go (no n) a =
          record { at = a.at; after = omega (arith, a.after); inside = a.inside; equal = omega (arith, awake_step t (omega arith), a.equal) }

  pub until_cost : (t s : ℕ) → Until t s → t + awake_at t ≡ s + asleep_at s
  until_cost t s w =
      let a = attained (h - t) t (omega (arith, w.from, w.within)) in
      omega (arith, awake_le (s - t) t s (omega (arith, w.from)) w.within, a.equal, w.best a.at a.after a.inside)

  -- the built set

  -- a run that need not go on is the same as none
  built_rests : (t : ℕ) → t < h → asleep_at t ≤ suc (awake_at (suc t)) → built due q (h - t) true t t ≡ built due q (h - t) false t t
  built_rests t l le = rw (left t l) (by_bool (due t t)
      (λ e. built_due due q (h - suc t) true t t e ∙ sym (built_due due q (h - suc t) false t t e))
      (λ e. built_ends due q (h - suc t) t t e (rw (left t l) at le) ∙ sym (built_sleeps due q (h - suc t) t t e)))

  built_stays : (t : ℕ) → t < h → suc (awake_at (suc t)) < asleep_at t
      → built due q (h - t) true t t ≡ true ∷ built due q (h - suc t) true (suc t) (suc t)
  built_stays t l lt = rw (left t l) (by_bool (due t t)
      (λ e. built_due due q (h - suc t) true t t e)
      (λ e. built_goes_on due q (h - suc t) t t e (rw (left t l) at lt)))

  built_over : built due q (h - h) true h h ≡ built due q (h - h) false h h
  built_over = rw (sub_self h) (built_end due q true h h ∙ sym (built_end due q false h h))

  -- the run goes on until s, and sleep begins
  pub until_built : (k t s : ℕ) → t + k ≡ s → Until t s → built due q (h - t) true t t ≡ replicate k true ++ built due q (h - s) false s s
  until_built zero t s e w = let z : t ≡ s = omega arith in rw (← z) (go (dec_le h t))
    where
      go : Dec (h ≤ t) → built due q (h - t) true t t ≡ built due q (h - t) false t t
      go (yes l) = let z : t ≡ h = omega (arith, w.within) in rw z built_over
      go (no n) =
          let z : t ≡ s = omega arith in built_rests t (omega arith) (omega (arith, until_cost t s w, awake_step t (omega arith), ap asleep_at z))
  until_built (suc k) t s e w =
      let l : t < h = omega (arith, w.within) in
      built_stays t l (omega (arith, until_cost t s w, awake_step t l, w.first t (omega arith) (omega arith)))
      ∙ ap (λ (S : List Bool). true ∷ S) (until_built k (suc t) s (omega arith) later)
    where
      later : Until (suc t) s
      later =
          record { from = omega arith; within = w.within; best = λ u l. w.best u (omega arith); first = λ u l. w.first u (omega arith) }

  -- asleep until the first slot at which a window is due

  pub least_waits : (k t c e : ℕ) → t + k ≡ e → e ≤ h → ((u : ℕ) → t ≤ u → u < e → due c u ≡ false)
      → least due q (h - t) false t c ≡ least due q (h - e) false e c
  least_waits zero t c e z l none = let y : t ≡ e = omega arith in rw y
  least_waits (suc k) t c e z l none =
      rw (left t (omega arith))
      (least_sleeps due q (h - suc t) t c (none t (omega arith) (omega arith))
      ∙ least_waits k (suc t) c e (omega arith) l (λ u a b. none u (omega arith) b))

  pub built_waits : (k t c e : ℕ) → t + k ≡ e → e ≤ h → ((u : ℕ) → t ≤ u → u < e → due c u ≡ false)
      → built due q (h - t) false t c ≡ replicate k false ++ built due q (h - e) false e c
  built_waits zero t c e z l none = let y : t ≡ e = omega arith in rw y
  built_waits (suc k) t c e z l none =
      rw (left t (omega arith))
      (built_sleeps due q (h - suc t) t c (none t (omega arith) (omega arith))
      ∙ ap (λ (S : List Bool). false ∷ S) (built_waits k (suc t) c e (omega arith) l (λ u a b. none u (omega arith) b)))

  pub least_wakes : (e c : ℕ) → e < h → due c e ≡ true → least due q (h - e) false e c ≡ q + suc (awake_at (suc e))
  least_wakes e c l d = rw (left e l) (least_due due q (h - suc e) e c d)

  pub built_wakes : (e c : ℕ) → e < h → due c e ≡ true → built due q (h - e) false e c ≡ true ∷ built due q (h - suc e) true (suc e) (suc e)
  built_wakes e c l d = rw (left e l) (built_due due q (h - suc e) false e c d)

  pub least_over : (c : ℕ) → least due q (h - h) false h c ≡ 0
  least_over c = rw (sub_self h) (least_end due q false h c)

  pub built_nothing : (c : ℕ) → built due q (h - h) false h c ≡ []
  built_nothing c = rw (sub_self h) (built_end due q false h c)
