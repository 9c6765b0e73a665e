-- Signed numbers: their order, and slacks compared as sums of naturals. No sentence of the card by themselves.
use Rattle.std.specs.Prelude.{ℕ, zero, suc, ◌+◌, ◌-◌, ◌≤◌, ◌<◌, ◌≡◌, refl, Bool, true, false, not, T, ℤ, pos, negsuc, neg_ℤ, ◌+ℤ◌, ◌-ℤ◌, ◌≤ℤ◌, ◌<ℤ◌}
use Rattle.std.proofs.Common.{sym, ap, subst, ◌∙◌, arith, lt-ltb, le-ltb, leb→le, le→leb, ltb→lt, lt→ltb}
use Rattle.std.proofs.Math.Decide.{dec_lt}
use Rattle.std.proofs.Math.IntN.{sub_ℕ, +ℤ_assoc, neg_ℤ-+ℤ}
use Rattle.std.specs.Int.Signed.{mag, lt_z, le_z, lt_z_no, <ℤ-≤ℤ_trans, clash_ℤ}
use Rattle.sched.proofs.Bounded.Laws.{by_bool}

-- The order

pub less_is : (x y : ℤ) → lt_z x y ≡ true → x <ℤ y
less_is x y e = record { lt = subst T (sym e) tt }

pub less_not : (x y : ℤ) → lt_z x y ≡ false → y ≤ℤ x
less_not x y e = lt_z_no (subst (λ (t : Bool). T (not t)) (sym e) tt)

pub at_most_is : (x y : ℤ) → le_z x y ≡ true → x ≤ℤ y
at_most_is x y e = record { le = subst T (sym e) tt }

pub at_most_not : (x y : ℤ) → le_z x y ≡ false → (x ≤ℤ y → ⊥)
at_most_not x y e l = subst T e l.le

pub less_at_most : {x y : ℤ} → x <ℤ y → x ≤ℤ y
less_at_most {x = pos m} {y = pos n} l = record { le = le→leb m n (omega (arith, ltb→lt m n l.lt)) }
less_at_most {x = pos m} {y = negsuc n} l = absurd l.lt
less_at_most {x = negsuc m} {y = pos n} l = record { le = tt }
less_at_most {x = negsuc m} {y = negsuc n} l = record { le = le→leb n m (omega (arith, ltb→lt n m l.lt)) }

pub at_most_trans : {x y z : ℤ} → x ≤ℤ y → y ≤ℤ z → x ≤ℤ z
at_most_trans {x = x} {y = y} {z = z} l m = by_bool (lt_z z x) (λ t. clash_ℤ (<ℤ-≤ℤ_trans (less_is z x t) l) m) (λ f. less_not z x f)

pub at_most_less : {x y z : ℤ} → x ≤ℤ y → y <ℤ z → x <ℤ z
at_most_less {x = x} {y = y} {z = z} l m = by_bool (lt_z x z) (λ t. less_is x z t) (λ f. clash_ℤ (<ℤ-≤ℤ_trans m (less_not x z f)) l)

pub at_most_both : {x y : ℤ} → x ≤ℤ y → y ≤ℤ x → x ≡ y
at_most_both {x = pos m} {y = pos n} l k = ap pos (omega (arith, leb→le m n l.le, leb→le n m k.le))
at_most_both {x = pos m} {y = negsuc n} l k = absurd l.le
at_most_both {x = negsuc m} {y = pos n} l k = absurd k.le
at_most_both {x = negsuc m} {y = negsuc n} l k = ap negsuc (omega (arith, leb→le n m l.le, leb→le m n k.le))

-- Slacks

-- the slack from a to b if the jobs inside have the volume v
abbrev pub slack_by : ℕ → ℕ → ℕ → ℤ
slack_by a b v = pos b -ℤ pos a -ℤ pos v

minus_sub : (b c : ℕ) → pos b -ℤ pos c ≡ sub_ℕ b c
minus_sub b zero = ap pos (omega arith) ∙ sym (sub_above b 0 (omega arith))
  where
    sub_above : (b c : ℕ) → c ≤ b → sub_ℕ b c ≡ pos (b - c)
    sub_above b c l = simp (le-ltb b c l)
minus_sub b (suc c) = refl

-- a slack is one difference of two naturals
pub slack_sub : (a b v : ℕ) → slack_by a b v ≡ sub_ℕ b (a + v)
slack_sub a b v =
    +ℤ_assoc (pos b) (neg_ℤ (pos a)) (neg_ℤ (pos v)) ∙ ap (λ (z : ℤ). pos b +ℤ z) (sym (neg_ℤ-+ℤ (pos a) (pos v)))
    ∙ minus_sub b (a + v)

-- .. which is below zero, or not
data Signs (b c : ℕ) : Type 0 where
  below : b < c → sub_ℕ b c ≡ negsuc (c - suc b) → Signs b c
  above : c ≤ b → sub_ℕ b c ≡ pos (b - c) → Signs b c

signs : (b c : ℕ) → Signs b c
signs b c = go (dec_lt b c)
  where
    go : Dec (b < c) → Signs b c
    go (yes l) = below l (simp (lt-ltb b c l))
    go (no l) = above (omega arith) (simp (le-ltb b c (omega arith)))

-- the order of two differences is one of sums

sub_at_most : (b c b' c' : ℕ) → b + c' ≤ b' + c → sub_ℕ b c ≤ℤ sub_ℕ b' c'
sub_at_most b c b' c' l = go (signs b c) (signs b' c')
  where
    go : Signs b c → Signs b' c' → sub_ℕ b c ≤ℤ sub_ℕ b' c'
    go (below m e) (below m' e') = rw (e, e') (record { le = le→leb (c' - suc b') (c - suc b) (omega arith) })
    go (below m e) (above m' e') = rw (e, e') (record { le = tt })
    go (above m e) (below m' e') = absurd (omega arith)
    go (above m e) (above m' e') = rw (e, e') (record { le = le→leb (b - c) (b' - c') (omega arith) })

sub_less : (b c b' c' : ℕ) → b + c' < b' + c → sub_ℕ b c <ℤ sub_ℕ b' c'
sub_less b c b' c' l = go (signs b c) (signs b' c')
  where
    go : Signs b c → Signs b' c' → sub_ℕ b c <ℤ sub_ℕ b' c'
    go (below m e) (below m' e') = rw (e, e') (record { lt = lt→ltb (c' - suc b') (c - suc b) (omega arith) })
    go (below m e) (above m' e') = rw (e, e') (record { lt = tt })
    go (above m e) (below m' e') = absurd (omega arith)
    go (above m e) (above m' e') = rw (e, e') (record { lt = lt→ltb (b - c) (b' - c') (omega arith) })

module _ (a b v a' b' v' : ℕ) where
  pub slack_at_most : b + (a' + v') ≤ b' + (a + v) → slack_by a b v ≤ℤ slack_by a' b' v'
  slack_at_most l = rw (slack_sub a b v, slack_sub a' b' v') (sub_at_most b (a + v) b' (a' + v') l)

  pub slack_less : b + (a' + v') < b' + (a + v) → slack_by a b v <ℤ slack_by a' b' v'
  slack_less l = rw (slack_sub a b v, slack_sub a' b' v') (sub_less b (a + v) b' (a' + v') l)

-- below zero exactly where the volume does not fit

pub negative_if : (a b v : ℕ) → b < a + v → slack_by a b v <ℤ pos 0
negative_if a b v l = slack_less a b v 0 0 0 (omega arith)

pub negative_only : (a b v : ℕ) → slack_by a b v <ℤ pos 0 → b < a + v
negative_only a b v n = go (dec_lt b (a + v))
  where
    go : Dec (b < a + v) → b < a + v
    go (yes l) = l
    go (no l) = clash_ℤ n (slack_at_most 0 0 0 a b v (omega arith))

-- work in one piece from a reaches until `until`

pub until_same : (a b v until : ℕ) → until ≡ a + v → pos b -ℤ pos until ≡ slack_by a b v
until_same a b v until e = minus_sub b until ∙ ap (sub_ℕ b) e ∙ sym (slack_sub a b v)

pub until_at_most : (a b v until : ℕ) → a + v ≤ until → (pos b -ℤ pos until) ≤ℤ slack_by a b v
until_at_most a b v until l = rw (minus_sub b until, slack_sub a b v) (sub_at_most b until b (a + v) (omega arith))

pub until_less : (a b v until : ℕ) → a + v < until → (pos b -ℤ pos until) <ℤ slack_by a b v
until_less a b v until l = rw (minus_sub b until, slack_sub a b v) (sub_less b until b (a + v) (omega arith))

-- the range of a difference: one bound in ℕ
pub minus_range : (b c far : ℕ) → b < far → c ≤ far → mag (pos b -ℤ pos c) < far
minus_range b c far l m = subst (λ (z : ℤ). mag z < far) (sym (minus_sub b c)) (go (signs b c))
  where
    go : Signs b c → mag (sub_ℕ b c) < far
    go (below k e) = rw e (omega arith)
    go (above k e) = rw e (omega arith)
