-- Where one slot more serves a unit more: a lossy deadline, and a unit due by it carried over every slot up to it.
use Rattle.std.specs.Prelude.{ℕ, suc, ◌≤◌, ◌<◌, ◌≡◌, refl, Bool, true, ◌⊎◌}
use Rattle.std.proofs.Math.Option.{Option, none, some}
use Rattle.std.proofs.Common.{inl, inr, arith}
use Rattle.std.proofs.Math.Decide.{le_ind}
use Rattle.laws_edf.specs.Run.{Spans, State, Eligible, chosen, after, vol, left}
use Rattle.laws_edf.specs.Pick.{View, view}
use Rattle.laws_edf.specs.Units.{OneMore}
use Rattle.laws_edf.specs.Apart.{Step, stays, moves, meets}
use Rattle.laws_edf.proofs.Left.{same_left, one_less_left, left_asleep}
use Rattle.laws_edf.specs.Lacking.{Carry, Lacking}
use Rattle.laws_edf.proofs.Carry.{carry_more, carry_eligible}
use Rattle.laws_edf.proofs.OneSlotMore.{Extra, Gap, closed, open_at, extra_step, extra_apart, apart_step, gap, extra_leaves_less}

module _ (F : Spans) (S S' : ℕ → Bool) (p : State) (x H : ℕ) (c : Extra S S' x) where
  -- one slot more serves as many units, or one more
  pub extra_worth : x < H → (vol F S' H 0 p ≡ vol F S H 0 p) ⊎ (vol F S' H 0 p ≡ suc (vol F S H 0 p))
  extra_worth l = go (gap F S S' p x c H l)
    where
      go : Gap F S S' p x H → (vol F S' H 0 p ≡ vol F S H 0 p) ⊎ (vol F S' H 0 p ≡ suc (vol F S H 0 p))
      go (closed e) = inl (same_left F S S' p H e)
      go (open_at o) = inr (one_less_left F S S' p H o.job o.below o.apart)

  pub helping_lacks : x < H → ((j : ℕ) → j < F.n → F.d j ≤ H) → vol F S' H 0 p ≡ suc (vol F S H 0 p) → Lacking F S p H x
  helping_lacks l within e = go (gap F S S' p x c H l)
    where
      go : Gap F S S' p x H → Lacking F S p H x
      go (closed q) = absurd (omega (arith, same_left F S S' p H q))
      go (open_at o) =
          record {
            deadline = F.d o.job;
            ahead = o.later;
            lossy = record { job = o.job; below = o.below; at_end = refl; unit = omega (arith, o.apart.there) };
            carried = λ s u v. o.carried s u (omega (arith, within o.job o.below)) v;
          }

  -- the difference is of a job due by e
  record DueBy (e t : ℕ) : Type 0 where
    job : ℕ
    below : job < F.n
    due : F.d job ≤ e
    apart : OneMore job (left F S p t) (left F S' p t)

  due_start : (e : ℕ) (o : Option ℕ) → View F true x (left F S p x) o → left F S' p (suc x) ≡ after (left F S p x) o →
      Carry F e (suc x) (left F S p (suc x)) → DueBy e (suc x)
  due_start e none v q k =
      absurd (v refl k.job (carry_eligible F e x (left F S p (suc x)) (left F S p x) k (rw (left_asleep F S p x c.asleep) at k.unit)))
  due_start e (some m) v q k =
      let a = carry_eligible F e x (left F S p (suc x)) (left F S p x) k (rw (left_asleep F S p x c.asleep) at k.unit) in
      record {
        job = m;
        below = v.1.able.below;
        due = omega (arith, (v.1.first k.job a).sooner, k.due);
        apart = extra_apart F S S' p x c m v.1 q;
      }

  -- what is carried keeps the difference from closing, and its deadline from going past e
  due_next : (e t : ℕ) → x < t → Carry F e (suc t) (left F S p (suc t)) → DueBy e t → DueBy e (suc t)
  due_next e t l k u = go (apart_step F S S' p x c t u.job (omega arith) u.apart)
    where
      able : left F S p (suc t) ≡ left F S' p t → Eligible F t (left F S' p t) k.job
      able i = carry_eligible F e t (left F S p (suc t)) (left F S' p t) k (rw i at k.unit)

      go : {g h : ℕ} → Step F t u.job (left F S p t) (left F S' p t) (left F S p (suc t)) (left F S' p (suc t)) g h → DueBy e (suc t)
      go (stays q o) = record { job = u.job; below = u.below; due = u.due; apart = o }
      go (moves m q a w d i o) =
          record { job = m; below = w.able.below; due = omega (arith, (w.first k.job (able i)).sooner, k.due); apart = o }
      go (meets q a w i o) = absurd (w k.job (able i))

  -- past its deadline the job of the difference is not served, so the difference stays
  due_past : (e t : ℕ) → x < t → e ≤ t → DueBy e t → DueBy e (suc t)
  due_past e t l k u = go (apart_step F S S' p x c t u.job (omega arith) u.apart)
    where
      go : {g h : ℕ} → Step F t u.job (left F S p t) (left F S' p t) (left F S p (suc t)) (left F S' p (suc t)) g h → DueBy e (suc t)
      go (stays q o) = record { job = u.job; below = u.below; due = u.due; apart = o }
      go (moves m q a w d i o) = absurd (omega (arith, a.before, u.due))
      go (meets q a w i o) = absurd (omega (arith, a.before, u.due))

  pub carried_helps : (e : ℕ) → x < e → e ≤ H → ((s : ℕ) → x < s → s ≤ e → Carry F e s (left F S p s)) → vol F S' H 0 p ≡ suc (vol F S H 0 p)
  carried_helps e l m k =
      let o = chosen F true x (left F S p x) in
      let first : DueBy e (suc x) = due_start e o (view F true x (left F S p x)) (extra_step F S S' p x c) (k (suc x) (omega arith) l) in
      let upto : suc x ≤ e → (e ≤ e → DueBy e e) = le_ind (λ t. t ≤ e → DueBy e t) (λ _. first) (λ t a ih b. due_next e t a (k (suc t) (omega arith) b) (ih (omega arith))) e in
      let end : DueBy e H = le_ind (λ t. DueBy e t) (upto l (omega arith)) (λ t a u. due_past e t (omega arith) a u) H m in
      one_less_left F S S' p H end.job end.below end.apart

-- A slot that does not help does not help after another slot was woken.
pub helps_before : (F : Spans) (S Sx Sy Sxy : ℕ → Bool) (p : State) (x y H : ℕ) → Extra S Sx x → Extra S Sy y → Extra Sy Sxy x →
    x < H → ((j : ℕ) → j < F.n → F.d j ≤ H) → vol F Sxy H 0 p ≡ suc (vol F Sy H 0 p) → vol F Sx H 0 p ≡ suc (vol F S H 0 p)
helps_before F S Sx Sy Sxy p x y H cx cy cxy l within e =
    let k = helping_lacks F Sy Sxy p x H cxy l within e in
    carried_helps F S Sx p x H cx k.deadline k.ahead (omega (arith, within k.lossy.job k.lossy.below, k.lossy.at_end))
    (λ s a b. carry_more F k.deadline s (left F Sy p s) (left F S p s) (extra_leaves_less F S Sy p y cy s) (k.carried s a b))
