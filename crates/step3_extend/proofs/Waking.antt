-- The set and the counters over a turn of step 3: a slot is passed, or it is the next one and is woken.
use Prim.Native.Nat.{ℕ, zero, suc, ◌+◌, ◌-◌, ◌≤◌, ◌<◌}
use mathlib.Core.Path.{◌≡◌, refl, ap, sym, ◌∙◌}
use mathlib.Core.Bool.{Bool, true, false}
use mathlib.Core.List.{List, [], ◌∷◌}
use mathlib.Core.Option.{some}
use mathlib.Core.Logic.{◌⊎◌, inl, inr}
use native.Mathlib.Omega.{arith}
use native.Mathlib.Numerals.{add-one}
use native.Mathlib.Decide.{dec_lt}
use borrow.Author.Tests.{lt-ltb}
use lib.ListN.{length, length-set}
use Rattle.sched.specs.Bounded.{least_from}
use Rattle.sched.proofs.Bounded.Laws.{lt_suc, by_bool, true_not_false}
use Rattle.sched.specs.Jobs.{Jobs, volume, total_volume}
use Rattle.sched.specs.Slots.{awake, awake_of, wake_slot}
use Rattle.steps.specs.Workable.{workable}
use Rattle.steps.specs.Extension.{wakeable, next_wake, woken_in, wake_all, extended}
use Rattle.laws_edf.specs.Run.{spans, bytes}
use Rattle.laws_edf.proofs.Theorems.{unhelpful_stays, some_slot_wakes}
use Rattle.laws_extension.specs.Waking.{Turn}
use Rattle.laws_extension.proofs.Waking.Turns.{wakes_turn, wake_skeleton}
use Rattle.laws_extension.specs.Waking.Cursor.{NoneBefore, StaysIdle, cursor_after, next_from}
use Rattle.laws_extension.proofs.Waking.Cursor.Laws.{next_from_lem, none_before_after}
use Rattle.step3_extend.specs.Turns.{Alone, Extending, Extended}

-- A search that starts at its goal finds it

least_here : (k t : ℕ) (f : ℕ → Bool) → 0 < k → f t ≡ true → least_from k t f ≡ some t
unfolding least_from
least_here zero t f l e = absurd (omega arith)
least_here (suc k) t f l e = rw (e, least_from)

next_is : (J : Jobs) (S : List Bool) (x : ℕ) → x < J.horizon → NoneBefore J S x → wakeable J S x ≡ true → next_wake J S ≡ some x
unfolding next_from
next_is J S x l n w = sym (next_from_lem J S x (omega arith) n) ∙ least_here (J.horizon - x) x (wakeable J S) (omega arith) w

woken_next : (n : ℕ) (J : Jobs) (S : List Bool) (x : ℕ) → workable J S < total_volume J → next_wake J S ≡ some x →
    woken_in (suc n) J S ≡ x ∷ woken_in n J (wake_slot S x)
unfolding woken_in
woken_next n J S x l e = rw (lt-ltb _ _ l, e, woken_in)

no_turn : (S : List Bool) → wake_all S [] ≡ S
unfolding wake_all
no_turn S = refl

module _ {J : Jobs} {S : List Bool} {short added cursor : ℕ} (e : Extending J S short added cursor) where
  -- volume is short, so a slot can be woken, and the cursor has not passed it
  pub way_inside : 0 < short → cursor < J.horizon
  way_inside l =
      let (x, m, w) = some_slot_wakes J S e.passes e.free e.skeleton e.long (omega (arith, e.short_is)) in
      go x m w (dec_lt x cursor)
    where
      go : (x : ℕ) → x < J.horizon → wakeable J S x ≡ true → Dec (x < cursor) → cursor < J.horizon
      go x m w (yes b) = true_not_false (wakeable J S x) w (e.none_before x b)
      go x m w (no b) = omega arith

  -- another cursor, if no slot before it can be woken
  moved : {t : ℕ} → NoneBefore J S t → Extending J S short added t
  moved none =
      record {
        passes = e.passes;
        free = e.free;
        long = e.long;
        skeleton = e.skeleton;
        short_is = e.short_is;
        none_before = none;
        turns = e.turns;
        still = e.still;
        whole = e.whole;
        in_all = e.in_all;
      }

  -- slots that touch nothing cannot be woken
  pub way_from : {t : ℕ} → Alone S t → Extending J S short added t
  unfolding wakeable
  way_from a = moved (λ i l. by_bool (awake S i) (λ b. rw b) (λ b. rw (b, a.each i l)))

  pub way_pass : wakeable J S cursor ≡ false → Extending J S short added (cursor + 1)
  way_pass v = moved (λ i m. past i (lt_suc (rw add-one at m)))
    where
      past : (i : ℕ) → (i < cursor) ⊎ (i ≡ cursor) → wakeable J S i ≡ false
      past i (inl m) = e.none_before i m
      past i (inr q) = rw q v

  module _ (l : 0 < short) (w : wakeable J S cursor ≡ true) where
    turn : Turn J S cursor
    turn = wakes_turn J S cursor (way_inside l) w

    stays : StaysIdle J
    stays T x y n k m s _ v = unhelpful_stays J T x y e.passes n k s v m

    -- one turn less of those that are left
    less : (n : ℕ) → length (woken_in n J S) ≡ short → extended J ≡ wake_all S (woken_in n J S) →
        (m : ℕ) × (length (woken_in m J (wake_slot S cursor)) ≡ short - 1) ×
        (extended J ≡ wake_all (wake_slot S cursor) (woken_in m J (wake_slot S cursor)))
    unfolding woken_in wake_all
    less zero s h = absurd (omega arith)
    less (suc n) s h =
        let q = woken_next n J S cursor (omega (arith, e.short_is)) (next_is J S cursor (way_inside l) e.none_before w) in
        (n, omega (arith, ap length q), h ∙ ap (wake_all S) q)

    pub way_turn : (next : ℕ) → next ≡ cursor_after S cursor → Extending J (wake_slot S cursor) (short - 1) (added + 1) next
    way_turn next goes =
        let (n, s, h) = less e.turns e.still e.whole in
        record {
          passes = e.passes;
          free = e.free;
          long = length-set S cursor true ∙ e.long;
          skeleton = wake_skeleton J S cursor e.skeleton;
          short_is = omega (arith, turn.gains, e.short_is);
          none_before = rw goes (none_before_after J stays S cursor e.long (way_inside l) turn.sleeps e.none_before);
          turns = n;
          still = s;
          whole = h;
          in_all = omega (arith, e.in_all);
        }

none_left : (ts : List ℕ) → length ts ≡ 0 → ts ≡ []
none_left [] q = refl
none_left (t ∷ ts) q = absurd (omega arith)

-- no turn is left, and the table is the run over its set
module _ {J : Jobs} (table : List ℕ) {short added cursor : ℕ} (e : Extending J (awake_of table) short added cursor) (l : short ≤ 0) where
  all_woken : awake_of table ≡ extended J
  all_woken =
      sym (e.whole ∙ ap (wake_all (awake_of table)) (none_left (woken_in e.turns J (awake_of table)) (omega (arith, e.still)))
      ∙ no_turn (awake_of table))

  pub way_end : table ≡ bytes (spans J) (awake (awake_of table)) J.horizon 0 (volume J) → Extended J table added
  way_end r =
      record {
        set_is = all_woken;
        table_is = r ∙ ap (λ (S : List Bool). bytes (spans J) (awake S) J.horizon 0 (volume J)) all_woken;
        added_is = omega (arith, e.in_all);
      }
