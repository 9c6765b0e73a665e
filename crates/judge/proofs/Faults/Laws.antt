-- The check of one slot: each way out from the tests that lead to it, and what a slot without a fault holds.
use Rattle.std.specs.Prelude.{ℕ, ◌≤◌, ◌<◌, ◌≡◌, refl, Bool, true, false, not, ◌&&◌, ◌||◌, ◌⊎◌, leb, ltb, eqb, Err, Ok}
use Rattle.std.proofs.Common.{sym, inl, inr, arith, le-leb, lt-ltb, le-ltb, eq-eqb, ne_eqb, leb-false, ltb-false, eqb-true}
use Rattle.std.proofs.lemmas.Bool.{lt-leb, not-false}
use Rattle.sched.proofs.Bounded.Laws.{by_bool, true_not_false, or_false}
use Rattle.sched.specs.Checks.{refuse_if}
use Rattle.sched.proofs.Checks.Laws.{refuse_passed}
use Rattle.sched.proofs.Theorems.RefusesJob.{RefusesJob, not_job, other_if, other_passed}
use Rattle.sched.specs.declared.Refusal.TheVariants.{BadByte, TooOften, OutOfSpan}
use Rattle.judge.specs.Faults.{slot_fault}

module _ (n r d t byte : ℕ) (spent : Bool) where
  pub idle_passes : n ≤ 64 → byte ≡ 254 → (Ok tt) ≡ slot_fault n r d t byte spent
  idle_passes few e =
      simp (le-leb n byte (omega arith), le-ltb byte n (omega arith), eq-eqb byte 254 e)

  pub asleep_passes : n ≤ 64 → byte ≡ 255 → (Ok tt) ≡ slot_fault n r d t byte spent
  asleep_passes few e =
      simp (le-leb n byte (omega arith), le-ltb byte n (omega arith), ne_eqb byte 254 (omega arith), eq-eqb byte 255 e)

  pub early_refused : byte < n → t < r → Err (OutOfSpan t) ≡ slot_fault n r d t byte spent
  early_refused l e = simp (lt-leb n byte l, lt-ltb byte n l, lt-ltb t r e)

  pub late_refused : byte < n → r ≤ t → d ≤ t → Err (OutOfSpan t) ≡ slot_fault n r d t byte spent
  late_refused l e f = simp (lt-leb n byte l, lt-ltb byte n l, le-ltb t r e, le-leb d t f)

  pub own_passes : byte < n → r ≤ t → t < d → spent ≡ false → (Ok tt) ≡ slot_fault n r d t byte spent
  own_passes l e f s = simp (lt-leb n byte l, lt-ltb byte n l, le-ltb t r e, lt-leb d t f, s)

  -- 21, 23 and 22 are about a slot, not a job
  pub slot_refuses_no_job : RefusesJob (slot_fault n r d t byte spent) → ⊥
  slot_refuses_no_job =
      let outside : Bool = ltb byte n && (ltb t r || leb d t) in
      let often = refuse_if (ltb byte n && spent) (TooOften t) (Ok tt) in
      let span = refuse_if outside (OutOfSpan t) often in
      other_if (leb n byte && not (eqb byte 254) && not (eqb byte 255)) (BadByte t) span (not_job 21 (inr (omega arith, omega arith)))
      (other_if outside (OutOfSpan t) often (not_job 23 (inr (omega arith, omega arith)))
      (other_if (ltb byte n && spent) (TooOften t) (Ok tt) (not_job 22 (inr (omega arith, omega arith))) other_passed))

and_false : (a b : Bool) → a && b ≡ false → a ≡ true → b ≡ false
and_false true b e t = e
and_false false b e t = true_not_false false t refl

-- a slot without a fault
pub record GoodSlot (n r d t byte : ℕ) (spent : Bool) : Type 0 where
  pub known : (byte < n) ⊎ ((byte ≡ 254) ⊎ (byte ≡ 255))
  pub unspent : byte < n → spent ≡ false
  pub released : byte < n → r ≤ t
  pub before : byte < n → t < d

module _ (n r d t byte : ℕ) (spent : Bool) where
  known_byte : leb n byte && not (eqb byte 254) && not (eqb byte 255) ≡ false → (byte < n) ⊎ ((byte ≡ 254) ⊎ (byte ≡ 255))
  known_byte e = by_bool (leb n byte) (λ y. inr (mark y)) (λ y. inl (leb-false n byte y))
    where
      mark : leb n byte ≡ true → (byte ≡ 254) ⊎ (byte ≡ 255)
      mark y =
          by_bool (eqb byte 254) (λ i. inl (eqb-true byte 254 i))
          (λ i. inr (eqb-true byte 255 (not-false (eqb byte 255) (and_false (leb n byte && not (eqb byte 254)) (not (eqb byte 255)) e (simp (y, i))))))

  pub slot_good : slot_fault n r d t byte spent ≡ Ok tt → GoodSlot n r d t byte spent
  slot_good e =
      let outside : Bool = ltb byte n && (ltb t r || leb d t) in
      let often = refuse_if (ltb byte n && spent) (TooOften t) (Ok tt) in
      let a = refuse_passed (leb n byte && not (eqb byte 254) && not (eqb byte 255)) (BadByte t) (refuse_if outside (OutOfSpan t) often) e in
      let b = refuse_passed outside (OutOfSpan t) often a.1 in
      let c = refuse_passed (ltb byte n && spent) (TooOften t) (Ok tt) b.1 in
      let span : byte < n → (ltb t r ≡ false) × (leb d t ≡ false) = λ l. or_false (ltb t r) (leb d t) (and_false (ltb byte n) (ltb t r || leb d t) b.0 (lt-ltb byte n l)) in
      record {
        known = known_byte a.0;
        unspent = λ l. and_false (ltb byte n) spent c.0 (lt-ltb byte n l);
        released = λ l. ltb-false t r (span l).0;
        before = λ l. leb-false d t (span l).1;
      }

  pub good_passes : n ≤ 64 → GoodSlot n r d t byte spent → slot_fault n r d t byte spent ≡ Ok tt
  good_passes few g = go g.known
    where
      go : (byte < n) ⊎ ((byte ≡ 254) ⊎ (byte ≡ 255)) → slot_fault n r d t byte spent ≡ Ok tt
      go (inl l) = sym (own_passes n r d t byte spent l (g.released l) (g.before l) (g.unspent l))
      go (inr (inl e)) = sym (idle_passes n r d t byte spent few e)
      go (inr (inr e)) = sym (asleep_passes n r d t byte spent few e)
