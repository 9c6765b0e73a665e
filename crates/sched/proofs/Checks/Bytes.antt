-- The walk over bytes, by any check of a byte: a byte that passes, one that does not, and the end, where `all` is what the whole walk gives. The
-- walk passes exactly where each byte does, tells no other numbers than its check, and names the first byte that does not pass.
use Prim.Native.Nat.{ℕ, zero, suc, ◌+◌, ◌-◌, ◌≤◌, ◌<◌}
use Rattle.std.specs.Prelude.{◌≡◌, refl, List, get_or, Err, Ok}
use Rattle.std.proofs.Math.Path.{sym}
use Rattle.std.proofs.Common.{ap, ◌∙◌}
use Rattle.std.proofs.Math.Numerals.{add-one}
use Rattle.std.proofs.Math.Decide.{ℕ_discrete}
use native.Mathlib.Omega.{arith}
use Rattle.sched.specs.Checks.{ByteCheck, bytes_by, and_then, checked_number}
use Rattle.sched.proofs.Checks.Laws.{then_passed, refused_not_passed, check_at_most}
use Rattle.sched.specs.declared.Refusal.{Refusal}
use Rattle.sched.specs.Refusals.{Checked}

module _ (check : ByteCheck) (bytes : List ℕ) (all : Checked) (n t : ℕ) (e : all ≡ bytes_by check (n - t) t bytes) where
  turn : t < n → all ≡ and_then (check t (get_or bytes t 0)) (bytes_by check (n - (t + 1)) (t + 1) bytes)
  unfolding bytes_by
  turn l = let q : n - t ≡ suc (n - (t + 1)) = omega arith in e ∙ rw (q, ← add-one t)

  pub byte_passed : t < n → check t (get_or bytes t 0) ≡ Ok tt → all ≡ bytes_by check (n - (t + 1)) (t + 1) bytes
  byte_passed l p = turn l ∙ ap (λ (c : Checked). and_then c (bytes_by check (n - (t + 1)) (t + 1) bytes)) p

  pub byte_refused : (r : Refusal) → t < n → check t (get_or bytes t 0) ≡ Err r → Err r ≡ all
  byte_refused r l p = sym (turn l ∙ ap (λ (c : Checked). and_then c (bytes_by check (n - (t + 1)) (t + 1) bytes)) p)

  pub bytes_passed : n ≤ t → (Ok tt) ≡ all
  unfolding bytes_by
  bytes_passed l = let z : n - t ≡ 0 = omega arith in sym (rw z at e)

pub bytes_good : (check : ByteCheck) (k t : ℕ) (bytes : List ℕ) → bytes_by check k t bytes ≡ Ok tt →
    (i : ℕ) → t ≤ i → i < t + k → check i (get_or bytes i 0) ≡ Ok tt
unfolding bytes_by
bytes_good check zero t bytes e i l m = absurd (omega arith)
bytes_good check (suc k) t bytes e i l m =
    let s = then_passed (check t (get_or bytes t 0)) (bytes_by check k (suc t) bytes) e in
    go (ℕ_discrete t i) s.0 (bytes_good check k (suc t) bytes s.1 i)
  where
    go : Dec (t ≡ i) → check t (get_or bytes t 0) ≡ Ok tt → (suc t ≤ i → i < suc t + k → check i (get_or bytes i 0) ≡ Ok tt) →
        check i (get_or bytes i 0) ≡ Ok tt
    go (yes q) here rest = ap (λ (n : ℕ). check n (get_or bytes n 0)) (sym q) ∙ here
    go (no q) here rest = rest (omega arith) (omega arith)

pub bytes_pass : (check : ByteCheck) (k t : ℕ) (bytes : List ℕ) → ((i : ℕ) → t ≤ i → i < t + k → check i (get_or bytes i 0) ≡ Ok tt) →
    bytes_by check k t bytes ≡ Ok tt
unfolding bytes_by
bytes_pass check zero t bytes g = refl
bytes_pass check (suc k) t bytes g =
    ap (λ (c : Checked). and_then c (bytes_by check k (suc t) bytes)) (g t (omega arith) (omega arith))
    ∙ bytes_pass check k (suc t) bytes (λ i l m. g i (omega arith) (omega arith))

pub bytes_at_most : (m : ℕ) (check : ByteCheck) (k t : ℕ) (bytes : List ℕ) → ((i : ℕ) → checked_number (check i (get_or bytes i 0)) ≤ m) →
    checked_number (bytes_by check k t bytes) ≤ m
unfolding bytes_by
bytes_at_most m check zero t bytes g = omega arith
bytes_at_most m check (suc k) t bytes g =
    check_at_most m (check t (get_or bytes t 0)) (bytes_by check k (suc t) bytes) (g t) (bytes_at_most m check k (suc t) bytes g)

-- what a walk that does not pass tells of the first byte that does not
pub record FirstByte (check : ByteCheck) (k t : ℕ) (bytes : List ℕ) (r : Refusal) : Type 0 where
  pub at : ℕ
  pub from : t ≤ at
  pub below : at < t + k
  pub told : check at (get_or bytes at 0) ≡ Err r
  pub before : (i : ℕ) → t ≤ i → i < at → check i (get_or bytes i 0) ≡ Ok tt

pub first_byte : (check : ByteCheck) (k t : ℕ) (bytes : List ℕ) (r : Refusal) → bytes_by check k t bytes ≡ Err r → FirstByte check k t bytes r
unfolding bytes_by
first_byte check zero t bytes r e = refused_not_passed r (sym e)
first_byte check (suc k) t bytes r e = by (check t (get_or bytes t 0)) refl (λ f. first_byte check k (suc t) bytes r f)
  where
    rest : Checked
    rest = bytes_by check k (suc t) bytes

    by : (c : Checked) → check t (get_or bytes t 0) ≡ c → (rest ≡ Err r → FirstByte check k (suc t) bytes r) → FirstByte check (suc k) t bytes r
    by (Err s) f ih =
        record {
          at = t;
          from = omega arith;
          below = omega arith;
          told = f ∙ (sym (ap (λ (c : Checked). and_then c rest) f) ∙ e);
          before = λ i l m. absurd (omega arith);
        }
    by (Ok tt) f ih =
        let w = ih (sym (ap (λ (c : Checked). and_then c rest) f) ∙ e) in
        record {
          at = w.at;
          from = omega (arith, w.from);
          below = omega (arith, w.below);
          told = w.told;
          before = λ i l m. earlier w i l m (ℕ_discrete t i);
        }
      where
        earlier : (w : FirstByte check k (suc t) bytes r) (i : ℕ) → t ≤ i → i < w.at → Dec (t ≡ i) → check i (get_or bytes i 0) ≡ Ok tt
        earlier w i l m (yes q) = ap (λ (n : ℕ). check n (get_or bytes n 0)) (sym q) ∙ f
        earlier w i l m (no q) = w.before i (omega arith) m
