-- Why a unit is lost: before its deadline lies an interval whose awake slots serve only jobs inside it, and its sleeping slots help.
use Rattle.std.specs.Prelude.{ℕ, zero, suc, ◌+◌, ◌-◌, ◌≤◌, ◌<◌, ◌≡◌, refl, Bool, false, ◌&&◌, leb}
use Rattle.std.proofs.Math.Bool.{true}
use Rattle.std.proofs.Math.Option.{Option, none, some}
use Rattle.std.proofs.Common.{arith, le-leb, leb-true}
use Rattle.std.proofs.Math.Decide.{dec_le}
use Rattle.sched.specs.Bounded.{sum_below}
use Rattle.sched.proofs.Bounded.Laws.{sum_ext, by_bool, and_true}
use Rattle.laws_edf.specs.Run.{Spans, State, chosen, lowered, after, left}
use Rattle.laws_edf.specs.Pick.{View, view}
use Rattle.laws_edf.specs.Units.{OneMore, lowered_less, sum_one_more}
use Rattle.laws_edf.proofs.Left.{left_falls, left_unreleased}
use Rattle.laws_edf.specs.Lacking.{Carry, Lossy}
use Rattle.laws_edf.proofs.Carry.{carry_eligible, carry_decided}
use Rattle.laws_edf.proofs.Find.{last_failure, part_positive}

-- nothing due by e is carried over a, and something is over every slot from there to e, where units are lost
pub record Critical (F : Spans) (S : ℕ → Bool) (p : State) (a e : ℕ) : Type 0 where
  pub below : a < e
  pub fresh : Carry F e a (left F S p a) → ⊥
  pub carried : (s : ℕ) → a < s → s ≤ e → Carry F e s (left F S p s)

-- the units of job j if a ≤ r and d ≤ e
unfoldable pub units_inside : Spans → ℕ → ℕ → State → State
units_inside F a e L j = elim (leb a (F.r j) && leb (F.d j) e) [ true ↦ L j | false ↦ 0 ]

units_in : (F : Spans) (a e : ℕ) (L : State) (j : ℕ) → a ≤ F.r j → F.d j ≤ e → units_inside F a e L j ≡ L j
unfolding units_inside
units_in F a e L j l m = rw (le-leb a (F.r j) l, le-leb (F.d j) e m, units_inside)

units_alike : (F : Spans) (a e : ℕ) (L M : State) (j : ℕ) → (a ≤ F.r j → L j ≡ M j) → units_inside F a e L j ≡ units_inside F a e M j
unfolding units_inside
units_alike F a e L M j h =
    by_bool (leb a (F.r j) && leb (F.d j) e)
    (λ q. rw (q, units_inside) (h (leb-true _ _ (and_true _ _ q).0)))
    (λ q. rw (q, units_inside))

inside_lowered : (F : Spans) (a e : ℕ) (L : State) (k : ℕ) → a ≤ F.r k → F.d k ≤ e → 0 < L k → OneMore k (units_inside F a e L) (units_inside F a e (lowered L k))
inside_lowered F a e L k l m u =
    let o = lowered_less L k u in
    record {
      there = omega (arith, units_in F a e L k l m, units_in F a e (lowered L k) k l m, o.there);
      elsewhere = λ j f. units_alike F a e L (lowered L k) j (λ _. o.elsewhere j f);
    }

-- before a, nothing of the jobs inside is served
inside_fresh : (F : Spans) (S : ℕ → Bool) (p : State) (a e : ℕ) → sum_below F.n (units_inside F a e (left F S p a)) ≡ sum_below F.n (units_inside F a e p)
inside_fresh F S p a e =
    sum_ext F.n (units_inside F a e (left F S p a)) (units_inside F a e p)
    (λ i _. units_alike F a e (left F S p a) p i (λ l. left_unreleased F S p a i l))

module _ (F : Spans) (S : ℕ → Bool) (p : State) where
  pub critical : (e H : ℕ) → e ≤ H → ((j : ℕ) → j < F.n → F.r j < F.d j) → Lossy F e (left F S p H) → (a : ℕ) × Critical F S p a e
  critical e H l span u =
      let c : Carry F e e (left F S p e) = record {
        job = u.job;
        below = u.below;
        released = omega (arith, span u.job u.below, u.at_end);
        unexpired = omega (arith, u.at_end);
        due = omega (arith, u.at_end);
        unit = omega (arith, u.unit, left_falls F S p e H u.job l);
      } in
      let r = last_failure (λ t. Carry F e t (left F S p t)) (λ t. carry_decided F e t (left F S p t)) e (λ k. omega (arith, k.released)) c in
      (r.at, record { below = r.below; fresh = r.fails; carried = r.holds })

  module _ (a e : ℕ) (c : Critical F S p a e) where
    -- who could be served from a on and is due by e was released at a or later
    inside : (t k : ℕ) → a ≤ t → k < F.n → t ≤ F.d k → F.d k ≤ e → 0 < left F S p t k → a ≤ F.r k
    inside t k l b m d u = go (dec_le a (F.r k))
      where
        go : Dec (a ≤ F.r k) → a ≤ F.r k
        go (yes q) = q
        go (no q) =
            absurd (c.fresh (record { job = k; below = b; released = omega arith; unexpired = omega arith; due = d; unit = omega (arith, left_falls F S p a t k l) }))

    -- some job is released at a and due by e
    pub released_at : (j : ℕ) × (j < F.n) × (F.r j ≡ a) × (F.d j ≤ e)
    released_at =
        let k = c.carried (suc a) (omega arith) c.below in
        (k.job, k.below, omega (arith, k.released, inside (suc a) k.job (omega arith) k.below k.unexpired k.due k.unit), k.due)

    after_inside : (t : ℕ) → a ≤ t → t < e → (o : Option ℕ) → View F true t (left F S p t) o →
        sum_below F.n (units_inside F a e (left F S p t)) ≡ suc (sum_below F.n (units_inside F a e (after (left F S p t) o)))
    after_inside t l m none v =
        let k = c.carried (suc t) (omega arith) m in
        absurd (v refl k.job
        (carry_eligible F e t (left F S p (suc t)) (left F S p t) k (omega (arith, k.unit, left_falls F S p t (suc t) k.job (omega arith)))))
    after_inside t l m (some i) v =
        let k = c.carried (suc t) (omega arith) m in
        let w = carry_eligible F e t (left F S p (suc t)) (left F S p t) k (omega (arith, k.unit, left_falls F S p t (suc t) k.job (omega arith))) in
        let g = v.1.able in
        let d : F.d i ≤ e = omega (arith, (v.1.first k.job w).sooner, k.due) in
        sum_one_more F.n i (units_inside F a e (left F S p t)) (units_inside F a e (lowered (left F S p t) i)) g.below
        (inside_lowered F a e (left F S p t) i (inside t i l g.below (omega (arith, g.before)) d g.unit) d g.unit)

    -- an awake slot serves a job inside
    inside_served : (t : ℕ) → S t ≡ true → a ≤ t → t < e →
        sum_below F.n (units_inside F a e (left F S p t)) ≡ suc (sum_below F.n (units_inside F a e (left F S p (suc t))))
    unfolding left
    inside_served t q l m = rw q (after_inside t l m (chosen F true t (left F S p t)) (view F true t (left F S p t)))

    module _ (all : (t : ℕ) → a ≤ t → t < e → S t ≡ true) where
      inside_falls : (h : ℕ) → a + h ≤ e → sum_below F.n (units_inside F a e (left F S p a)) ≡ h + sum_below F.n (units_inside F a e (left F S p (a + h)))
      inside_falls zero l = let q : a + 0 ≡ a = omega arith in rw q (omega arith)
      inside_falls (suc h) l =
          let q : a + suc h ≡ suc (a + h) = omega arith in
          rw q (omega (arith, inside_falls h (omega arith), inside_served (a + h) (all (a + h) (omega arith) (omega arith)) (omega arith) (omega arith)))

      inside_left : 0 < sum_below F.n (units_inside F a e (left F S p e))
      inside_left =
          let k = c.carried e c.below (omega arith) in
          omega (
            arith,
            k.unit,
            part_positive F.n (units_inside F a e (left F S p e)) k.job k.below,
            units_in F a e (left F S p e) k.job (inside e k.job (omega (arith, c.below)) k.below k.unexpired k.due k.unit) k.due,
          )

      -- Where all its slots are awake, the jobs inside have more units than it has slots.
      pub overfull : e - a < sum_below F.n (units_inside F a e p)
      overfull =
          let q : a + (e - a) ≡ e = omega (arith, c.below) in
          omega (arith, inside_left, rw q at (inside_falls (e - a) (omega (arith, c.below))), inside_fresh F S p a e)
