-- The header: its checks one by one, and its bytes written and read back, and read and written again.
use Rattle.std.specs.Prelude.{ℕ, ◌+◌, ◌*◌, ◌≤◌, ◌≡◌, refl, Bool, false, List, [], ◌∷◌, ◌++◌, length, drop, ltb, Ok}
use Rattle.std.proofs.Common.{ap, sym, ◌∙◌, arith, ltb-false, le-ltb, ne_eqb}
use Rattle.sched.specs.TwoBytes.{AreBytes, two_bytes}
use Rattle.sched.proofs.TwoBytes.Laws.{word_again}
use Rattle.sched.specs.Checks.{and_then, horizon_check, count_check}
use Rattle.sched.proofs.Checks.Laws.{refuse_passed, then_passed, horizon_good}
use Rattle.sched.specs.declared.Refusal.TheVariants.{Truncated, OutOfRange}
use Rattle.list_parts.specs.Header.{header_length, header_horizon, header_wake, count_in, start_in, count_byte, header_count, header_start, header_check}

-- The checks

pub record GoodHeader (bytes : List ℕ) : Type 0 where
  pub long : header_length ≤ length bytes
  pub low : 1 ≤ header_horizon bytes
  pub high : header_horizon bytes ≤ 4096
  pub few : header_count bytes ≤ 64

pub header_passed : (bytes : List ℕ) → header_check bytes ≡ Ok tt → GoodHeader bytes
header_passed bytes e =
    let h = header_horizon bytes in
    let n = header_count bytes in
    let p₀ = refuse_passed (ltb (length bytes) header_length) (Truncated (length bytes)) (and_then (horizon_check h) (count_check n)) e in
    let p₁ = then_passed (horizon_check h) (count_check n) p₀.1 in
    let p₂ = refuse_passed (ltb 64 n) (OutOfRange 4) (Ok tt) p₁.1 in
    record {
      long = ltb-false (length bytes) header_length p₀.0;
      low = (horizon_good h p₁.0).0;
      high = (horizon_good h p₁.0).1;
      few = ltb-false 64 n p₂.0;
    }

pub header_passes : (bytes : List ℕ) → GoodHeader bytes → header_check bytes ≡ Ok tt
header_passes bytes g =
    simp (
      le-ltb (length bytes) header_length g.long,
      ne_eqb (header_horizon bytes) 0 (omega arith),
      le-ltb 4096 (header_horizon bytes) g.high,
      le-ltb 64 (header_count bytes) g.few,
    )

-- The bytes

-- the byte with the number of jobs, written and read back, and read and written again
pub count_in_byte : (start : Bool) (n : ℕ) → count_in (count_byte start n) ≡ n
count_in_byte start n = refl

pub start_in_byte : (start : Bool) (n : ℕ) → start ≡ false → start_in (count_byte start n) ≡ start
start_in_byte start n asleep = sym asleep

byte_again : (byte : ℕ) → count_byte (start_in byte) (count_in byte) ≡ byte
byte_again byte = refl

pub header_again : (bytes rest : List ℕ) → AreBytes bytes → header_length ≤ length bytes → rest ≡ drop header_length bytes →
    (two_bytes (header_horizon bytes) ++ (two_bytes (header_wake bytes) ++ (count_byte (header_start bytes) (header_count bytes) ∷ []))) ++ rest ≡ bytes
header_again [] rest small l e = absurd (omega arith)
header_again (b₀ ∷ []) rest small l e = absurd (omega arith)
header_again (b₀ ∷ b₁ ∷ []) rest small l e = absurd (omega arith)
header_again (b₀ ∷ b₁ ∷ b₂ ∷ []) rest small l e = absurd (omega arith)
header_again (b₀ ∷ b₁ ∷ b₂ ∷ b₃ ∷ []) rest small l e = absurd (omega arith)
header_again (b₀ ∷ b₁ ∷ b₂ ∷ b₃ ∷ b₄ ∷ bytes) rest small l e =
    let h = word_again b₀ b₁ (small 0) in
    let q = word_again b₂ b₃ (small 2) in
    ap (λ (x : ℕ). (two_bytes (b₀ + 256 * b₁) ++ (two_bytes (b₂ + 256 * b₃) ++ (x ∷ []))) ++ rest) (byte_again b₄)
    ∙ ap (λ (x : List ℕ). (x ++ (two_bytes (b₂ + 256 * b₃) ++ (b₄ ∷ []))) ++ rest) h
    ∙ ap (λ (x : List ℕ). (b₀ ∷ b₁ ∷ []) ++ ((x ++ (b₄ ∷ [])) ++ rest)) q
    ∙ ap (λ (x : List ℕ). b₀ ∷ b₁ ∷ b₂ ∷ b₃ ∷ b₄ ∷ x) e
