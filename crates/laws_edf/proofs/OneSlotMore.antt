-- Two runs, the second with slot x awake as well: after x what they leave is the same, or differs by one unit of one job. The deadline of
-- that job never falls, and from x on some unit due by then was carried over every slot.
use Prim.Native.Nat.{ℕ, zero, suc, ◌≤◌, ◌<◌}
use Rattle.std.specs.Prelude.{◌≡◌, Bool, false, ◌⊎◌, ◌≢◌}
use Rattle.std.proofs.Math.Path.{refl, ap, sym}
use Rattle.std.proofs.Common.{◌∙◌, inl, inr, arith}
use Rattle.std.proofs.Math.Bool.{true}
use Rattle.std.proofs.Math.Option.{Option, none, some}
use Rattle.std.proofs.Math.Decide.{le_ind, dec_lt}
use Rattle.sched.proofs.Bounded.Laws.{lt_suc}
use Rattle.laws_edf.specs.Run.{Spans, State, chosen, lowered, after, gain, left}
use Rattle.laws_edf.specs.Pick.{Chosen, View, view}
use Rattle.laws_edf.specs.Units.{OneMore, lowered_less, less_everywhere}
use Rattle.laws_edf.proofs.Left.{left_asleep}
use Rattle.laws_edf.specs.Lacking.{Carry}
use Rattle.laws_edf.proofs.Carry.{carry_later, own_carry}
use Rattle.laws_edf.specs.Apart.{Step, stays, moves, meets, step}

-- S' is S with slot x awake as well
pub record Extra (S S' : ℕ → Bool) (x : ℕ) : Type 0 where
  pub asleep : S x ≡ false
  pub awake : S' x ≡ true
  pub same : (t : ℕ) → t ≢ x → S' t ≡ S t

-- the first run has one unit more left before slot t, of this job
pub record Open (F : Spans) (S S' : ℕ → Bool) (p : State) (x t : ℕ) : Type 0 where
  pub job : ℕ
  pub below : job < F.n
  pub released : F.r job < t
  pub later : x < F.d job
  pub apart : OneMore job (left F S p t) (left F S' p t)
  pub carried : (s : ℕ) → x < s → s ≤ t → s ≤ F.d job → Carry F (F.d job) s (left F S p s)

pub data Gap (F : Spans) (S S' : ℕ → Bool) (p : State) (x t : ℕ) : Type 0 where
  closed : left F S p t ≡ left F S' p t → Gap F S S' p x t
  open_at : Open F S S' p x t → Gap F S S' p x t

module _ (F : Spans) (S S' : ℕ → Bool) (p : State) (x : ℕ) (c : Extra S S' x) where
  same_step : (t : ℕ) → t ≢ x → left F S' p (suc t) ≡ after (left F S' p t) (chosen F (S t) t (left F S' p t))
  unfolding left
  same_step t f = rw (c.same t f)

  -- equal states stay equal at any other slot
  stay_closed : (t : ℕ) → t ≢ x → left F S p t ≡ left F S' p t → left F S p (suc t) ≡ left F S' p (suc t)
  unfolding left
  stay_closed t f e = ap (λ (L : State). after L (chosen F (S t) t L)) e ∙ sym (same_step t f)

  -- up to x the runs agree
  pub before_extra : (t : ℕ) → t ≤ x → left F S p t ≡ left F S' p t
  unfolding left
  before_extra zero l = refl
  before_extra (suc t) l = stay_closed t (omega arith) (before_extra t (omega arith))

  -- at x the second run serves the first eligible job, if there is one
  pub extra_step : left F S' p (suc x) ≡ after (left F S p x) (chosen F true x (left F S p x))
  unfolding left
  extra_step = rw c.awake (ap (λ (L : State). after L (chosen F true x L)) (sym (before_extra x (omega arith))))

  pub extra_apart : (k : ℕ) → Chosen F x (left F S p x) k → left F S' p (suc x) ≡ lowered (left F S p x) k → OneMore k (left F S p (suc x)) (left F S' p (suc x))
  extra_apart k v e = rw (left_asleep F S p x c.asleep, e) (lowered_less (left F S p x) k v.able.unit)

  opened : (o : Option ℕ) → View F true x (left F S p x) o → left F S' p (suc x) ≡ after (left F S p x) o → Gap F S S' p x (suc x)
  opened none v e = closed (left_asleep F S p x c.asleep ∙ sym e)
  opened (some k) v e =
      open_at (record {
        job = k;
        below = v.1.able.below;
        released = omega (arith, v.1.able.released);
        later = v.1.able.before;
        apart = extra_apart k v.1 e;
        carried = λ s a b d.
            let q : s ≡ suc x = omega arith in
            own_carry F k s (left F S p s) v.1.able.below (omega (arith, v.1.able.released)) d
            (rw (q, left_asleep F S p x c.asleep) v.1.able.unit);
      })

  -- one unit apart at another slot
  pub apart_step : (t k : ℕ) → t ≢ x → OneMore k (left F S p t) (left F S' p t) →
      Step F t k (left F S p t) (left F S' p t) (left F S p (suc t)) (left F S' p (suc t))
      (gain (chosen F (S t) t (left F S p t))) (gain (chosen F (S t) t (left F S' p t)))
  unfolding left
  apart_step t k f o = rw (c.same t f) (step F (S t) t k (left F S p t) (left F S' p t) o)

  -- where the difference after slot t is of job k, the unit of k itself is carried over t
  reopen : (t k : ℕ) → k < F.n → F.r k ≤ t → x < F.d k → OneMore k (left F S p (suc t)) (left F S' p (suc t)) →
      ((s : ℕ) → x < s → s ≤ t → s ≤ F.d k → Carry F (F.d k) s (left F S p s)) → Gap F S S' p x (suc t)
  reopen t k b r l o h =
      open_at (record {
        job = k;
        below = b;
        released = omega arith;
        later = l;
        apart = o;
        carried = λ s u v w. go s u w (lt_suc {j = s} {m = suc t} (omega arith));
      })
    where
      go : (s : ℕ) → x < s → s ≤ F.d k → (s < suc t) ⊎ (s ≡ suc t) → Carry F (F.d k) s (left F S p s)
      go s u w (inl q) = h s u (omega arith) w
      go s u w (inr q) = own_carry F k s (left F S p s) b (omega arith) w (rw q (omega (arith, o.there)))

  next : (t : ℕ) → x < t → Gap F S S' p x t → Gap F S S' p x (suc t)
  next t l (closed e) = closed (stay_closed t (omega arith) e)
  next t l (open_at o) = go (apart_step t o.job (omega arith) o.apart)
    where
      go : {g i : ℕ} → Step F t o.job (left F S p t) (left F S' p t) (left F S p (suc t)) (left F S' p (suc t)) g i → Gap F S S' p x (suc t)
      go (stays e q) = reopen t o.job o.below (omega (arith, o.released)) o.later q o.carried
      go (moves k e a w d i q) =
          reopen t k w.able.below w.able.released (omega (arith, o.later)) q
          (λ s u v y. carry_later F (F.d o.job) (F.d k) s (left F S p s) d (o.carried s u v (omega (arith, a.before))))
      go (meets e a w i q) = closed q

  pub gap : (t : ℕ) → x < t → Gap F S S' p x t
  gap t l =
      le_ind (λ m. Gap F S S' p x m) (opened (chosen F true x (left F S p x)) (view F true x (left F S p x)) extra_step) (λ m q g. next m q g) t l

  -- the second run never leaves more
  pub extra_leaves_less : (t j : ℕ) → left F S' p t j ≤ left F S p t j
  extra_leaves_less t j = at (dec_lt x t)
    where
      by_gap : Gap F S S' p x t → left F S' p t j ≤ left F S p t j
      by_gap (closed e) = omega (arith, ap (λ (L : State). L j) e)
      by_gap (open_at o) = less_everywhere o.job (left F S p t) (left F S' p t) o.apart j

      at : Dec (x < t) → left F S' p t j ≤ left F S p t j
      at (yes l) = by_gap (gap t l)
      at (no f) = omega (arith, ap (λ (L : State). L j) (before_extra t (omega arith)))
