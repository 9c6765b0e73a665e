-- Reading a table's set: which slots are awake, which touch the set, and where the search goes on.
use Rattle.std.proofs.Math.Decide.{ℕ_discrete}
use Prim.Native.Nat.{ℕ, zero, suc, ◌+◌, ◌-◌, ◌<◌}
use mathlib.Core.Path.{◌≡◌, refl, ap, sym, ◌∙◌}
use mathlib.Core.Bool.{Bool, true, false, not}
use mathlib.Core.List.{List}
use mathlib.Core.Logic.{◌≢◌}
use native.Mathlib.Omega.{arith}
use native.Mathlib.Numerals.{add-one}
use borrow.Author.Tests.{eq-eqb, ne_eqb}
use lib.ListN.{length, get_or, set}
use lib.Seq.{get_or-set_same, get_or-set_other}
use Rattle.sched.proofs.Bounded.Laws.{by_bool}
use Rattle.sched.specs.Slots.{awake, awake_of, touches}
use Rattle.sched.proofs.Slots.Laws.{awake_of_lem, awake_of_length}
use Rattle.step3_extend.specs.Turns.{Alone}
use Rattle.laws_extension.specs.Waking.Cursor.{cursor_after}

-- a byte says whether its slot is awake
module _ (table : List ℕ) (t : ℕ) (l : t < length table) where
  pub byte_awake : get_or table t 0 ≢ 255 → true ≡ awake (awake_of table) t
  byte_awake n = sym (awake_of_lem table t l ∙ ap not (ne_eqb (get_or table t 0) 255 n))

  pub byte_asleep : get_or table t 0 ≡ 255 → false ≡ awake (awake_of table) t
  byte_asleep e = sym (awake_of_lem table t l ∙ ap not (eq-eqb (get_or table t 0) 255 e))

pub set_long : (table : List ℕ) (x : ℕ) → x < length table → x < length (awake_of table)
set_long table x l = rw awake_of_length l

-- Slots next to t

module _ (S : List Bool) where
  pub near_first : (t : ℕ) (b : Bool) → t ≡ 0 → b ≡ awake S 1 → b ≡ touches S t
  near_first t b z e = rw z e

  pub near_before : (t : ℕ) (b : Bool) → t ≢ 0 → b ≡ awake S (t - 1) → b ≡ true → true ≡ touches S t
  near_before zero b n e o = absurd (n refl)
  near_before (suc t) b n e o =
      let q : suc t - 1 ≡ t = omega arith in
      let a : awake S t ≡ true = ap (awake S) (sym q) ∙ sym e ∙ o in
      rw a

  pub near_behind : (t : ℕ) (b c : Bool) → t ≢ 0 → b ≡ awake S (t - 1) → b ≡ false → c ≡ awake S (t + 1) → c ≡ touches S t
  near_behind zero b c n e o f = absurd (n refl)
  near_behind (suc t) b c n e o f =
      let q : suc t - 1 ≡ t = omega arith in
      let a : awake S t ≡ false = ap (awake S) (sym q) ∙ sym e ∙ o in
      rw a (f ∙ ap (awake S) (add-one (suc t)))

  -- Where the search goes on

  pub cursor_first : (x : ℕ) → x ≡ 0 → 1 ≡ cursor_after S x
  unfolding cursor_after
  cursor_first x z = rw z

  pub cursor_awake : (x : ℕ) (b : Bool) → x ≢ 0 → b ≡ awake S (x - 1) → b ≡ true → x + 1 ≡ cursor_after S x
  unfolding cursor_after
  cursor_awake zero b n e o = absurd (n refl)
  cursor_awake (suc y) b n e o =
      let q : suc y - 1 ≡ y = omega arith in
      let a : awake S y ≡ true = ap (awake S) (sym q) ∙ sym e ∙ o in
      rw (a, cursor_after) (add-one (suc y))

  module _ (b c : Bool) where
    pub cursor_near : (x : ℕ) → x ≢ 0 → b ≡ awake S (x - 1) → b ≡ false → c ≡ touches S (x - 1) → c ≡ true → x + 1 ≡ cursor_after S x
    unfolding cursor_after
    cursor_near zero n e o f p = absurd (n refl)
    cursor_near (suc y) n e o f p =
        let q : suc y - 1 ≡ y = omega arith in
        let a : awake S y ≡ false = ap (awake S) (sym q) ∙ sym e ∙ o in
        let t : touches S y ≡ true = ap (touches S) (sym q) ∙ sym f ∙ p in
        rw (a, t, cursor_after) (add-one (suc y))

    pub cursor_back : (x : ℕ) → x ≢ 0 → b ≡ awake S (x - 1) → b ≡ false → c ≡ touches S (x - 1) → c ≡ false → x - 1 ≡ cursor_after S x
    unfolding cursor_after
    cursor_back zero n e o f p = absurd (n refl)
    cursor_back (suc y) n e o f p =
        let q : suc y - 1 ≡ y = omega arith in
        let a : awake S y ≡ false = ap (awake S) (sym q) ∙ sym e ∙ o in
        let t : touches S y ≡ false = ap (touches S) (sym q) ∙ sym f ∙ p in
        rw (a, t, cursor_after) q

-- The same, read off the set after slot x was woken

woken_apart : (W : List Bool) (x t : ℕ) → t ≢ x → awake (set W x false) t ≡ awake W t
woken_apart W x t n = get_or-set_other W x t false false n

woken_slept : (W : List Bool) (x : ℕ) → x < length W → awake (set W x false) x ≡ false
woken_slept W x l = get_or-set_same W x false false l

woken_near : (W : List Bool) (y : ℕ) → suc (suc y) < length W → touches (set W (suc (suc y)) false) (suc y) ≡ awake W y
woken_near W y l =
    by_bool (awake W y) (λ a. rw (woken_apart W (suc (suc y)) y (λ e. omega arith) ∙ a) (sym a))
    (λ a. rw (woken_apart W (suc (suc y)) y (λ e. omega arith) ∙ a) (woken_slept W (suc (suc y)) l ∙ sym a))

module _ (W : List Bool) where
  before : (x : ℕ) (b : Bool) → x ≢ 0 → b ≡ awake W (x - 1) → b ≡ awake (set W x false) (x - 1)
  before x b n e = e ∙ sym (woken_apart W x (x - 1) (λ q. n (omega arith)))

  pub woken_awake : (x : ℕ) (b : Bool) → x ≢ 0 → b ≡ awake W (x - 1) → b ≡ true → x + 1 ≡ cursor_after (set W x false) x
  woken_awake x b n e o = cursor_awake (set W x false) x b n (before x b n e) o

  pub woken_second : (x : ℕ) (b : Bool) → x < length W → x ≡ 1 → b ≡ awake W (x - 1) → b ≡ false → 0 ≡ cursor_after (set W x false) x
  woken_second x b l q e o =
      let z : x - 1 ≡ 0 = omega arith in
      sym z
      ∙ cursor_back (set W x false) b false x (λ r. omega arith) (before x b (λ r. omega arith) e) o
      (sym (ap (touches (set W x false)) z ∙ ap (awake (set W x false)) (sym q) ∙ woken_slept W x l)) refl

  module _ (b c : Bool) where
    near : (x : ℕ) → x < length W → x ≢ 0 → x ≢ 1 → c ≡ awake W (x - 2) → c ≡ touches (set W x false) (x - 1)
    near zero l n m f = absurd (n refl)
    near (suc zero) l n m f = absurd (m refl)
    near (suc (suc y)) l n m f =
        let p : suc (suc y) - 1 ≡ suc y = omega arith in
        let r : suc (suc y) - 2 ≡ y = omega arith in
        f ∙ ap (awake W) r ∙ sym (woken_near W y l) ∙ ap (touches (set W (suc (suc y)) false)) (sym p)

    pub woken_beside : (x : ℕ) → x < length W → x ≢ 0 → b ≡ awake W (x - 1) → b ≡ false → x ≢ 1 → c ≡ awake W (x - 2) → c ≡ true
        → x + 1 ≡ cursor_after (set W x false) x
    woken_beside x l n e o m f p = cursor_near (set W x false) b c x n (before x b n e) o (near x l n m f) p

    pub woken_back : (x : ℕ) → x < length W → x ≢ 0 → b ≡ awake W (x - 1) → b ≡ false → x ≢ 1 → c ≡ awake W (x - 2) → c ≡ false
        → x - 1 ≡ cursor_after (set W x false) x
    woken_back x l n e o m f p = cursor_back (set W x false) b c x n (before x b n e) o (near x l n m f) p

-- The first slot that can touch the set

pub record Sleeping (table : List ℕ) (t : ℕ) : Type 0 where
  pub each : (i : ℕ) → i < t → awake (awake_of table) i ≡ false

pub sleeping_start : (table : List ℕ) → Sleeping table 0
sleeping_start table = record { each = λ i l. absurd (omega arith) }

pub sleeping_turn : (table : List ℕ) (t : ℕ) → t < length table → get_or table t 0 ≡ 255 → Sleeping table t → Sleeping table (t + 1)
sleeping_turn table t l e s = record { each = λ i m. go i m (ℕ_discrete i t) }
  where
    go : (i : ℕ) → i < t + 1 → Dec (i ≡ t) → awake (awake_of table) i ≡ false
    go i m (yes q) = rw q (sym (byte_asleep table t l e))
    go i m (no q) = s.each i (omega arith)

pub alone_none : (S : List Bool) → Alone S 0
alone_none S = record { each = λ i l. absurd (omega arith) }

pub alone_before : (table : List ℕ) (t : ℕ) → Sleeping table t → Alone (awake_of table) (t - 1)
alone_before table t s = record { each = apart }
  where
    apart : (i : ℕ) → i < t - 1 → touches (awake_of table) i ≡ false
    apart zero l = s.each 1 (omega arith)
    apart (suc i) l = rw (s.each i (omega arith)) (s.each (suc (suc i)) (omega arith))
