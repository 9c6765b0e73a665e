-- Two runs one unit of a job apart serve the same jobs as long as the run that has the unit keeps one of that job.
use Rattle.std.specs.Prelude.{ℕ, suc, ◌≤◌, ◌<◌, ◌≡◌, refl, Bool, ◌⊎◌}
use Rattle.std.proofs.Common.{ap, sym, ◌∙◌, inl, inr, arith}
use Rattle.std.proofs.Math.Option.{Option, none, some}
use Rattle.std.proofs.Math.Decide.{ℕ_discrete, le_ind}
use Rattle.sched.proofs.Bounded.Laws.{lt_suc}
use Rattle.laws_edf.specs.Run.{Spans, State, Eligible, chosen, lowered, after, slot_byte, left}
use Rattle.laws_edf.specs.Pick.{first_unique, View, view}
use Rattle.laws_edf.specs.Units.{OneMore, lowered_there, lowered_elsewhere, both_lowered, less_everywhere}
use Rattle.laws_edf.specs.Apart.{eligible_with}
use Rattle.laws_edf.proofs.Left.{left_falls}
use Rattle.laws_edf.proofs.OneSlotMore.{Extra, before_extra}
use Rattle.laws_extension.specs.Chain.Served.{served, byte_of}

module _ (F : Spans) (b : Bool) (t k : ℕ) (M L : State) (o : OneMore k M L) where
  more : (j : ℕ) → Eligible F t L j → Eligible F t M j
  more j e = eligible_with F t L M j e (omega (arith, e.unit, less_everywhere k M L o j))

  still : (m : ℕ) → Eligible F t M m → 0 < lowered M m k → Eligible F t L m
  still m e u = go (ℕ_discrete m k)
    where
      go : Dec (m ≡ k) → Eligible F t L m
      go (yes q) =
          let w : 0 < lowered M k k = rw q at u in
          eligible_with F t M L m e (rw q (omega (arith, o.there, lowered_there M k)))
      go (no f) = eligible_with F t M L m e (omega (arith, e.unit, o.elsewhere m f))

  alike_by : (x y : Option ℕ) → View F b t M x → View F b t L y → 0 < after M x k → x ≡ y
  alike_by none none v w u = refl
  alike_by none (some l) v w u = absurd (v w.0 l (more l w.1.able))
  alike_by (some m) none v w u = absurd (w v.0 m (still m v.1.able u))
  alike_by (some m) (some l) v w u =
      ap some
      (first_unique F.d m l (v.1.first l (more l w.1.able)) (w.1.first m (still m v.1.able u)))

  alike : 0 < after M (chosen F b t M) k → chosen F b t M ≡ chosen F b t L
  alike u = alike_by (chosen F b t M) (chosen F b t L) (view F b t M) (view F b t L) u

  -- the unit stays the only difference
  still_apart : (x : Option ℕ) → 0 < after M x k → OneMore k (after M x) (after L x)
  still_apart none u = o
  still_apart (some m) u = go (ℕ_discrete m k)
    where
      go : Dec (m ≡ k) → OneMore k (lowered M m) (lowered L m)
      go (yes q) =
          let w : 0 < lowered M k k = rw q at u in
          rw q
          (record {
            there = omega (arith, o.there, lowered_there M k, lowered_there L k);
            elsewhere = λ j f. lowered_elsewhere M k j f ∙ o.elsewhere j f ∙ sym (lowered_elsewhere L k j f);
          })
      go (no f) = both_lowered k m M L o f

-- the runs of S and S' are one unit of job k apart before slot b, and serve the same from a up to b
pub record AlikeTo (F : Spans) (S S' : ℕ → Bool) (p : State) (k a b : ℕ) : Type 0 where
  pub apart : OneMore k (left F S p b) (left F S' p b)
  pub same : (t : ℕ) → a ≤ t → t < b → served F S p t ≡ served F S' p t

module _ (F : Spans) (p : State) {S S' : ℕ → Bool} {x : ℕ} (c : Extra S S' x) where
  next_alike : (k a b : ℕ) → x < b → AlikeTo F S S' p k a b → 0 < left F S p (suc b) k → AlikeTo F S S' p k a (suc b)
  unfolding left
  next_alike k a b l h u =
      record {
        apart = rw (← here) (still_apart F (S b) b k (left F S p b) (left F S' p b) h.apart (served F S p b) u);
        same = λ t m n. go t m (lt_suc n);
      }
    where
      here : served F S p b ≡ served F S' p b
      here =
          rw (c.same b (omega arith)) (alike F (S b) b k (left F S p b) (left F S' p b) h.apart u)

      go : (t : ℕ) → a ≤ t → (t < b) ⊎ (t ≡ b) → served F S p t ≡ served F S' p t
      go t m (inl n) = h.same t m n
      go t m (inr q) = rw q here

  pub alike_to : (k a b : ℕ) → x < a → a ≤ b → OneMore k (left F S p a) (left F S' p a) → 0 < left F S p b k → AlikeTo F S S' p k a b
  alike_to k a b l m o u =
      le_ind (λ s. 0 < left F S p s k → AlikeTo F S S' p k a s)
      (λ _. record { apart = o; same = λ t n q. absurd (omega arith) })
      (λ s q ih v. next_alike k a s (omega arith) (ih (omega (arith, left_falls F S p s (suc s) k (omega arith)))) v)
      b m u

  pub alike_byte : {k a b : ℕ} → x < a → AlikeTo F S S' p k a b → (t : ℕ) → a ≤ t → t < b → byte_of F S p t ≡ byte_of F S' p t
  alike_byte l h t m n =
      rw (c.same t (omega arith)) (ap (λ (o : Option ℕ). slot_byte (S t) o) (here (h.same t m n)))
    where
      here : served F S p t ≡ served F S' p t → served F S p t ≡ chosen F (S t) t (left F S' p t)
      here e = rw (c.same t (omega arith)) at e

  pub before_byte : (t : ℕ) → t < x → byte_of F S p t ≡ byte_of F S' p t
  before_byte t l =
      rw (c.same t (omega arith))
      (ap (λ (L : State). slot_byte (S t) (chosen F (S t) t L)) (before_extra F S S' p x c t (omega arith)))

  -- runs that have met stay together
  pub merged : (a b : ℕ) → x < a → a ≤ b → left F S p a ≡ left F S' p a → left F S p b ≡ left F S' p b
  unfolding left
  merged a b l m e =
      le_ind (λ s. left F S p s ≡ left F S' p s) e
      (λ s q ih. rw (c.same s (omega arith)) (ap (λ (L : State). after L (chosen F (S s) s L)) ih)) b m
