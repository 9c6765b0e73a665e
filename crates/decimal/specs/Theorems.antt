-- The digits of a number of 64 bits are its decimal spelling; and how many a number below a power of ten has at most.
use Rattle.std.specs.Prelude.{ℕ, zero, suc, ◌+◌, ◌*◌, ◌-◌, ◌/◌, ◌%◌, ◌^◌, ◌≤◌, ◌<◌, ◌≡◌, refl, List, [], ◌∷◌, ◌++◌, length, get_or}
use Rattle.std.proofs.Common.{◌∙◌, arith, length-append}
use Rattle.std.proofs.Math.Decide.{dec_lt}
use Rattle.decimal.specs.Decimal.{digits_in, digits}
use Rattle.decimal.specs.Decimal.Laws.{in_low, in_high, tenth_below}

-- the number that digits mean, read from the left, behind others that mean m
unfoldable pub value_from : ℕ → List ℕ → ℕ
value_from m [] = m
value_from m (d ∷ ds) = value_from (10 * m + (d - 48)) ds

abbrev pub value : List ℕ → ℕ
value ds = value_from 0 ds

-- a spelling of n in ASCII, without a zero in front
pub record Spells (n : ℕ) (ds : List ℕ) : Type 0 where
  pub means : value ds ≡ n
  pub some : 1 ≤ length ds
  pub each : (i : ℕ) → i < length ds → (48 ≤ get_or ds i 0) × (get_or ds i 0 ≤ 57)
  pub leads : 2 ≤ length ds → 49 ≤ get_or ds 0 0

-- one digit more

value_append : (m : ℕ) (ds es : List ℕ) → value_from m (ds ++ es) ≡ value_from (value_from m ds) es
unfolding value_from
value_append m [] es = refl
value_append m (d ∷ ds) es = value_append (10 * m + (d - 48)) ds es

each_more : (ds : List ℕ) (d : ℕ) → ((i : ℕ) → i < length ds → (48 ≤ get_or ds i 0) × (get_or ds i 0 ≤ 57)) → 48 ≤ d → d ≤ 57 →
    (i : ℕ) → i < length (ds ++ (d ∷ [])) → (48 ≤ get_or (ds ++ (d ∷ [])) i 0) × (get_or (ds ++ (d ∷ [])) i 0 ≤ 57)
each_more [] d each low high zero l = (low, high)
each_more [] d each low high (suc i) l = absurd (omega arith)
each_more (e ∷ ds) d each low high zero l = each 0 (omega arith)
each_more (e ∷ ds) d each low high (suc i) l = each_more ds d (λ k m. each (suc k) (omega arith)) low high i (omega arith)

-- the first of them stays
first_stays : (ds : List ℕ) (d : ℕ) → 1 ≤ length ds → get_or (ds ++ (d ∷ [])) 0 0 ≡ get_or ds 0 0
first_stays [] d l = absurd (omega arith)
first_stays (e ∷ ds) d l = refl

-- and the first is no zero unless the number is
record Leads (n : ℕ) (ds : List ℕ) : Type 0 where
  spells : Spells n ds
  first : 1 ≤ n → 49 ≤ get_or ds 0 0

one_digit : (n : ℕ) → n < 10 → Leads n ((48 + n) ∷ [])
unfolding value_from
one_digit n s =
    record {
      spells =
          record {
            means = omega arith;
            some = omega arith;
            each = λ i l. let z : i ≡ 0 = omega arith in rw z (omega arith, omega arith);
            leads = λ l. absurd (omega arith);
          };
      first = λ l. omega arith;
    }

digit_more : (n : ℕ) (ds : List ℕ) → 10 ≤ n → Leads (n / 10) ds → Leads n (ds ++ ((48 + n % 10) ∷ []))
unfolding value_from
digit_more n ds l t =
    let s = t.spells in
    let d = 48 + n % 10 in
    let first : 49 ≤ get_or (ds ++ (d ∷ [])) 0 0 = rw (first_stays ds d s.some) (t.first (omega arith)) in
    record {
      spells =
          record {
            means = value_append 0 ds (d ∷ []) ∙ omega (arith, s.means);
            some = simp length-append (omega arith);
            each = each_more ds d s.each (omega arith) (omega arith);
            leads = λ m. first;
          };
      first = λ m. first;
    }

in_spells : (k n : ℕ) → n < 10 ^ suc k → Leads n (digits_in (suc k) n)
in_spells zero n l = rw (in_low 0 n l) (one_digit n l)
in_spells (suc k) n l = go (dec_lt n 10) (in_spells k (n / 10) (tenth_below (suc k) n l))
  where
    go : Dec (n < 10) → Leads (n / 10) (digits_in (suc k) (n / 10)) → Leads n (digits_in (suc (suc k)) n)
    go (yes s) ih = rw (in_low (suc k) n s) (one_digit n s)
    go (no s) ih = rw (in_high (suc k) n (omega arith)) (digit_more n (digits_in (suc k) (n / 10)) (omega arith) ih)

pub digits_spell : (n : ℕ) → n < 18446744073709551616 → Spells n (digits n)
unfolding digits
digits_spell n l = (in_spells 19 n (omega arith)).spells

-- How many there are

in_few : (j k n : ℕ) → 1 ≤ k → n < 10 ^ k → length (digits_in j n) ≤ k
unfolding digits_in
in_few zero k n some l = omega arith
in_few (suc j) zero n some l = absurd (omega arith)
in_few (suc j) (suc k) n some l = go (dec_lt n 10) (in_few j k (n / 10))
  where
    more : (m : ℕ) → 10 ≤ n → n < 10 ^ suc m → 1 ≤ m
    more zero s t = absurd (omega arith)
    more (suc m) s t = omega arith

    go : Dec (n < 10) → (1 ≤ k → n / 10 < 10 ^ k → length (digits_in j (n / 10)) ≤ k) → length (digits_in (suc j) n) ≤ suc k
    go (yes s) ih = rw (in_low j n s) (omega arith)
    go (no s) ih =
        rw (in_high j n (omega arith)) (simp length-append (omega (arith, ih (more k (omega arith) l) (tenth_below k n l))))

-- a number below 10, 100, 1,000 .. has at most 1, 2, 3 .. digits
pub digits_few : (k n : ℕ) → 1 ≤ k → n < 10 ^ k → length (digits n) ≤ k
unfolding digits
digits_few k n some l = in_few 20 k n some l
