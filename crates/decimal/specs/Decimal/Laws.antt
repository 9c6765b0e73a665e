-- A number's digits are those of its tenth and one more; how many there are; and the steps of counting and of storing them.
use Rattle.std.specs.Prelude.{ℕ, zero, suc, ◌+◌, ◌*◌, ◌-◌, ◌/◌, ◌%◌, ◌^◌, ◌≤◌, ◌<◌, ◌≡◌, refl, List, [], ◌∷◌, ◌++◌, length, set}
use Rattle.std.proofs.Common.{sym, ap, ◌∙◌, pow-suc, arith, lt-ltb, le-ltb, length-append, length-set}
use Rattle.std.proofs.Math.Decide.{dec_lt}
use Rattle.std.proofs.lemmas.List.Edits.{sets, sets-eq}
use Rattle.std.proofs.lemmas.List.{set_comm}
use Rattle.decimal.specs.Decimal.{digits_in, digits, PutsDigits}

-- at most k digits: the last one, and those before it

pub in_low : (k n : ℕ) → n < 10 → digits_in (suc k) n ≡ (48 + n) ∷ []
unfolding digits_in
in_low k n l = rw (lt-ltb n 10 l, digits_in)

pub in_high : (k n : ℕ) → 10 ≤ n → digits_in (suc k) n ≡ digits_in k (n / 10) ++ ((48 + n % 10) ∷ [])
unfolding digits_in
in_high k n l = rw (le-ltb n 10 l, digits_in)

-- the tenth of a number below a power of ten
pub tenth_below : (k n : ℕ) → n < 10 ^ suc k → n / 10 < 10 ^ k
tenth_below k n l = let p : 10 ^ suc k ≡ 10 ^ k * 10 = pow-suc 10 k in omega arith

-- where k are enough, one more changes nothing
in_enough : (k n : ℕ) → n < 10 ^ suc k → digits_in (suc k) n ≡ digits_in (suc (suc k)) n
in_enough zero n l = in_low 0 n l ∙ sym (in_low 1 n l)
in_enough (suc k) n l = go (dec_lt n 10) (in_enough k (n / 10) (tenth_below (suc k) n l))
  where
    go : Dec (n < 10) → digits_in (suc k) (n / 10) ≡ digits_in (suc (suc k)) (n / 10) → digits_in (suc (suc k)) n ≡ digits_in (suc (suc (suc k))) n
    go (yes s) ih = in_low (suc k) n s ∙ sym (in_low (suc (suc k)) n s)
    go (no s) ih =
        in_high (suc k) n (omega arith) ∙ ap (λ (ds : List ℕ). ds ++ ((48 + n % 10) ∷ [])) ih ∙ sym (in_high (suc (suc k)) n (omega arith))

-- a number of 64 bits

pub digits_low : (n : ℕ) → n < 10 → digits n ≡ (48 + n) ∷ []
unfolding digits
digits_low n l = in_low 19 n l

pub digits_high : (n : ℕ) → 10 ≤ n → n < 18446744073709551616 → digits n ≡ digits (n / 10) ++ ((48 + n % 10) ∷ [])
unfolding digits
digits_high n l m = in_high 19 n l ∙ ap (λ (ds : List ℕ). ds ++ ((48 + n % 10) ∷ [])) (in_enough 18 (n / 10) (omega arith))

-- how many

in_most : (k n : ℕ) → length (digits_in k n) ≤ k
unfolding digits_in
in_most zero n = omega arith
in_most (suc k) n = go (dec_lt n 10) (in_most k (n / 10))
  where
    go : Dec (n < 10) → length (digits_in k (n / 10)) ≤ k → length (digits_in (suc k) n) ≤ suc k
    go (yes s) ih = rw (in_low k n s) (omega arith)
    go (no s) ih = rw (in_high k n (omega arith)) (simp length-append (omega arith))

pub digits_most : (n : ℕ) → length (digits n) ≤ 20
unfolding digits
digits_most n = in_most 20 n

pub length_low : (n : ℕ) → n < 10 → length (digits n) ≡ 1
length_low n l = ap length (digits_low n l)

length_high : (n : ℕ) → 10 ≤ n → n < 18446744073709551616 → length (digits n) ≡ length (digits (n / 10)) + 1
length_high n l m = ap length (digits_high n l m) ∙ length-append (digits (n / 10)) ((48 + n % 10) ∷ [])

one_le_pow : (k : ℕ) → 1 ≤ 10 ^ k
one_le_pow zero = omega arith
one_le_pow (suc k) = let p : 10 ^ suc k ≡ 10 ^ k * 10 = pow-suc 10 k in omega (arith, one_le_pow k)

-- as many as its logarithm says, and one more
pub length_by_log : (k n : ℕ) → 10 ^ k ≤ n → n < 10 * 10 ^ k → n < 18446744073709551616 → k + 1 ≡ length (digits n)
length_by_log zero n low high m = sym (length_low n (omega arith))
length_by_log (suc k) n low high m =
    let p : 10 ^ suc k ≡ 10 ^ k * 10 = pow-suc 10 k in
    let ten : 10 ≤ n = omega (arith, one_le_pow k) in
    omega (arith, length_high n ten m, length_by_log k (n / 10) (omega arith) (omega arith) (omega arith))

pub digits_some : (n : ℕ) → 1 ≤ length (digits n)
unfolding digits
digits_some n = go (dec_lt n 10)
  where
    go : Dec (n < 10) → 1 ≤ length (digits_in 20 n)
    go (yes s) = rw (in_low 19 n s) (omega arith)
    go (no s) = rw (in_high 19 n (omega arith)) (simp length-append (omega arith))

-- counting: n so far, and the digits of what is left, of which the first is counted
pub record Counted (x left n : ℕ) : Type 0 where
  pub small : left < 18446744073709551616
  pub count : n + length (digits left) ≡ length (digits x) + 1

pub counted_start : (x : ℕ) → x < 18446744073709551616 → Counted x x 1
counted_start x l = record { small = l; count = omega arith }

module _ (x left n : ℕ) (c : Counted x left n) where
  pub counted_few : n ≤ 20
  counted_few = omega (arith, c.count, digits_most x, digits_some left)

  pub counted_turn : 10 ≤ left → Counted x (left / 10) (n + 1)
  counted_turn l = record { small = omega (arith, c.small); count = omega (arith, c.count, length_high left l c.small) }

  pub counted_end : left < 10 → n ≡ length (digits x)
  counted_end l = omega (arith, c.count, length_low left l)

-- of a run of stores the last may come first
sets_last : (vs out : List ℕ) (at last : ℕ) → sets out at (vs ++ (last ∷ [])) ≡ sets (set out (at + length vs) last) at vs
sets_last [] out at last = ap (λ (i : ℕ). set out i last) (omega arith)
sets_last (v ∷ vs) out at last =
    let place : suc at + length vs ≡ at + suc (length vs) = omega arith in
    sets_last vs (set out at v) (suc at) last
    ∙ ap (λ (l : List ℕ). sets l (suc at) vs) (set_comm out at (suc at + length vs) v last (λ e. omega arith))
    ∙ ap (λ (i : ℕ). sets (set (set out i last) at v) (suc at) vs) place

-- storing: the digits of what is left are still to be stored, up to `place`
pub record Stored (x at : ℕ) (out₀ out : List ℕ) (left place : ℕ) : Type 0 where
  pub small : left < 18446744073709551616
  pub long : length out ≡ length out₀
  pub behind : place ≡ at + length (digits left)
  pub within : place ≤ length out₀
  pub rest : sets out₀ at (digits x) ≡ sets out at (digits left)

pub stored_start : (x at end : ℕ) (out : List ℕ) → x < 18446744073709551616 → at + length (digits x) ≤ length out → end ≡ at + length (digits x) → Stored x at out out x end
stored_start x at end out l room e = record { small = l; long = refl; behind = e; within = omega arith; rest = refl }

module _ (x at : ℕ) (out₀ out : List ℕ) (left place : ℕ) (s : Stored x at out₀ out left place) where
  pub stored_inside : (1 ≤ place) × (place - 1 < length out)
  stored_inside =
      let some : 1 ≤ length (digits left) = digits_some left in
      (omega (arith, s.behind), omega (arith, s.behind, s.within, s.long))

  -- more than one place is left exactly where more than one digit is
  pub stored_high : at + 1 < place → 10 ≤ left
  stored_high l = go (dec_lt left 10)
    where
      go : Dec (left < 10) → 10 ≤ left
      go (yes low) = absurd (omega (arith, s.behind, length_low left low))
      go (no high) = omega arith

  pub stored_low : place ≤ at + 1 → left < 10
  stored_low l = go (dec_lt left 10)
    where
      go : Dec (left < 10) → left < 10
      go (yes low) = low
      go (no high) = absurd (omega (arith, s.behind, length_high left (omega arith) s.small, digits_some (left / 10)))

  -- the first digit has its place, whatever has been stored behind it
  pub stored_first : at < length out
  stored_first = omega (arith, s.behind, s.within, s.long, digits_some left)

  pub stored_turn : 10 ≤ left → Stored x at out₀ (set out (place - 1) (48 + left % 10)) (left / 10) (place - 1)
  stored_turn l =
      let high = length_high left l s.small in
      let here : at + length (digits (left / 10)) ≡ place - 1 = omega (arith, s.behind) in
      let last = 48 + left % 10 in
      record {
        small = omega (arith, s.small);
        long = length-set out (place - 1) last ∙ s.long;
        behind = sym here;
        within = omega (arith, s.within);
        rest =
            s.rest ∙ ap (sets out at) (digits_high left l s.small) ∙ sets_last (digits (left / 10)) out at last
            ∙ ap (λ (i : ℕ). sets (set out i last) at (digits (left / 10))) here;
      }

  pub stored_end : left < 10 → (end : ℕ) → at + length (digits x) ≤ length out₀ → end ≡ at + length (digits x) → PutsDigits x at out₀ end (set out at (48 + left))
  stored_end l end room e =
      record {
        next = e;
        bytes = sym (s.rest ∙ ap (sets out at) (digits_low left l)) ∙ sets-eq (digits x) out₀ at room;
      }
