-- The run is a placement, and no placement has more units: from any slot and any state.
use Prim.Native.Nat.{ℕ, zero, suc, ◌+◌, ◌≤◌, ◌<◌}
use Rattle.std.specs.Prelude.{◌≡◌, refl, Bool, true, false, List, [], ◌∷◌, ltb, length, get_or}
use Rattle.std.proofs.Common.{ap, sym, ltb-true, ltb-false, lt-ltb, le-ltb}
use Rattle.std.proofs.lemmas.Bool.{false≢true}
use Rattle.std.proofs.Math.Option.{Option, none, some}
use native.Mathlib.Omega.{arith}
use Rattle.std.proofs.Math.Decide.{ℕ_discrete}
use Rattle.sched.proofs.Bounded.Laws.{by_bool}
use Rattle.sched.specs.Jobs.{Jobs, count}
use Rattle.sched.specs.Slots.{times}
use Rattle.sched.proofs.Slots.Laws.{times_none, times_same, times_other}
use Rattle.sched.specs.Feasible.{OwnSlot}
use Rattle.steps.specs.Workable.{units}
use Rattle.laws_edf.specs.Run.{Spans, State, Eligible, spans, chosen, lowered, after, gain, vol, final, slot_byte, bytes}
use Rattle.laws_edf.specs.Placed.{PlacedFrom}
use Rattle.laws_edf.specs.Pick.{View, view}
use Rattle.laws_edf.specs.Units.{lowered_there, lowered_elsewhere}
use Rattle.laws_edf.specs.Exchange.{Allowed, any_choice}

pub units_empty : (J : Jobs) → units J [] ≡ 0
unfolding units
units_empty J = refl

pub units_job : (J : Jobs) (x : ℕ) (rest : List ℕ) → x < count J → units J (x ∷ rest) ≡ suc (units J rest)
unfolding units
units_job J x rest l = rw (lt-ltb x (count J) l, units)

pub units_none : (J : Jobs) (x : ℕ) (rest : List ℕ) → count J ≤ x → units J (x ∷ rest) ≡ units J rest
unfolding units
units_none J x rest l = rw (le-ltb x (count J) l, units)

module _ (J : Jobs) (S : ℕ → Bool) (t : ℕ) (L : State) (x : ℕ) (rest : List ℕ) (c : PlacedFrom J S t L (x ∷ rest)) where
  -- the rest is placed from the next slot on, where the units that it needs are there
  rest_placed : (L' : State) → ((j : ℕ) → j < count J → times j rest ≤ L' j) → PlacedFrom J S (suc t) L' rest
  rest_placed L' o =
      record {
        in_set = λ i l k. let e : t + suc i ≡ suc t + i = omega arith in rw e at (c.in_set (suc i) (omega arith) k);
        own = λ i l k. let e : t + suc i ≡ suc t + i = omega arith in rw e at (c.own (suc i) (omega arith) k);
        often = o;
      }

  head_allowed : x < count J → Allowed (spans J) (S t) t L (some x)
  head_allowed l =
      let e : t + 0 ≡ t = omega arith in
      let s : S t ≡ true = rw e at (c.in_set 0 (omega arith) l) in
      let o : OwnSlot J x t = rw e at (c.own 0 (omega arith) l) in
      (s, record { below = l; released = o.released; before = o.before; unit = omega (arith, c.often x l, times_same x x rest refl) })

  serving_leaves : x < count J → (j : ℕ) → j < count J → times j rest ≤ lowered L x j
  serving_leaves l j b = go (ℕ_discrete x j)
    where
      go : Dec (x ≡ j) → times j rest ≤ lowered L x j
      go (yes e) = rw (← e) (omega (arith, lowered_there L x, c.often x l, times_same x x rest refl))
      go (no f) = omega (arith, lowered_elsewhere L x j (λ e. f (sym e)), c.often j b, times_other j x rest f)

  idling_leaves : count J ≤ x → (j : ℕ) → j < count J → times j rest ≤ L j
  idling_leaves l j b = omega (arith, c.often j b, times_other j x rest (omega arith))

-- No placement from a state has more units than the run from it.
pub placed_at_most : (J : Jobs) (S : ℕ → Bool) (t : ℕ) (L : State) (placed : List ℕ) → PlacedFrom J S t L placed →
    units J placed ≤ vol (spans J) S (length placed) t L
placed_at_most J S t L [] c = omega (arith, units_empty J)
placed_at_most J S t L (x ∷ rest) c =
    by_bool (ltb x (count J)) (λ e. job (ltb-true _ _ e) (placed_at_most J S (suc t) (lowered L x) rest))
    (λ e. other (ltb-false _ _ e) (placed_at_most J S (suc t) L rest))
  where
    job : x < count J → (PlacedFrom J S (suc t) (lowered L x) rest → units J rest ≤ vol (spans J) S (length rest) (suc t) (lowered L x)) →
        units J (x ∷ rest) ≤ vol (spans J) S (suc (length rest)) t L
    job l ih =
        omega (
          arith,
          units_job J x rest l,
          ih (rest_placed J S t L x rest c (lowered L x) (serving_leaves J S t L x rest c l)),
          any_choice (spans J) S (length rest) t L (some x) (head_allowed J S t L x rest c l),
        )

    other : count J ≤ x → (PlacedFrom J S (suc t) L rest → units J rest ≤ vol (spans J) S (length rest) (suc t) L) →
        units J (x ∷ rest) ≤ vol (spans J) S (suc (length rest)) t L
    other l ih =
        omega (
          arith,
          units_none J x rest l,
          ih (rest_placed J S t L x rest c L (idling_leaves J S t L x rest c l)),
          any_choice (spans J) S (length rest) t L none tt,
        )

-- The bytes of the run

pub bytes_long : (F : Spans) (S : ℕ → Bool) (h t : ℕ) (L : State) → length (bytes F S h t L) ≡ h
unfolding bytes
bytes_long F S zero t L = refl
bytes_long F S (suc h) t L = ap suc (bytes_long F S h (suc t) (after L (chosen F (S t) t L)))

-- job numbers stay clear of the bytes for idle and asleep
module _ (J : Jobs) (few : count J ≤ 254) (S : ℕ → Bool) where
  byte_eligible : (b : Bool) (t : ℕ) (L : State) (o : Option ℕ) → View (spans J) b t L o → slot_byte b o < count J →
      (b ≡ true) × Eligible (spans J) t L (slot_byte b o)
  byte_eligible false t L o v l = absurd (omega arith)
  byte_eligible true t L none v l = absurd (omega arith)
  byte_eligible true t L (some k) v l = (refl, v.1.able)

  byte_units : (b : Bool) (t : ℕ) (L : State) (o : Option ℕ) (rest : List ℕ) → View (spans J) b t L o → units J (slot_byte b o ∷ rest) ≡ gain o + units J rest
  byte_units false t L none rest v = omega (arith, units_none J 255 rest (omega arith))
  byte_units false t L (some k) rest v = absurd (false≢true v.0)
  byte_units true t L none rest v = omega (arith, units_none J 254 rest (omega arith))
  byte_units true t L (some k) rest v = omega (arith, units_job J k rest v.1.able.below)

  byte_times : (b : Bool) (t : ℕ) (L : State) (o : Option ℕ) (rest : List ℕ) (j : ℕ) → j < count J → View (spans J) b t L o →
      times j (slot_byte b o ∷ rest) + after L o j ≡ times j rest + L j
  byte_times false t L none rest j l v = omega (arith, times_other j 255 rest (omega arith))
  byte_times false t L (some k) rest j l v = absurd (false≢true v.0)
  byte_times true t L none rest j l v = omega (arith, times_other j 254 rest (omega arith))
  byte_times true t L (some k) rest j l v = go (ℕ_discrete k j)
    where
      go : Dec (k ≡ j) → times j (k ∷ rest) + lowered L k j ≡ times j rest + L j
      go (yes e) = rw (← e) (omega (arith, times_same k k rest refl, lowered_there L k, v.1.able.unit))
      go (no f) = omega (arith, times_other j k rest f, lowered_elsewhere L k j (λ e. f (sym e)))

  -- a job's number stands once for each unit served
  pub bytes_times : (h t : ℕ) (L : State) (j : ℕ) → j < count J → times j (bytes (spans J) S h t L) + final (spans J) S h t L j ≡ L j
  unfolding bytes final
  bytes_times zero t L j l = omega (arith, times_none j)
  bytes_times (suc h) t L j l =
      let o = chosen (spans J) (S t) t L in
      let rest = bytes (spans J) S h (suc t) (after L o) in
      omega (arith, bytes_times h (suc t) (after L o) j l, byte_times (S t) t L o rest j l (view (spans J) (S t) t L))

  pub bytes_units : (h t : ℕ) (L : State) → units J (bytes (spans J) S h t L) ≡ vol (spans J) S h t L
  unfolding bytes vol
  bytes_units zero t L = units_empty J
  bytes_units (suc h) t L =
      let o = chosen (spans J) (S t) t L in
      let rest = bytes (spans J) S h (suc t) (after L o) in
      omega (arith, bytes_units h (suc t) (after L o), byte_units (S t) t L o rest (view (spans J) (S t) t L))

  bytes_own : (h t : ℕ) (L : State) (i : ℕ) → i < h → get_or (bytes (spans J) S h t L) i 0 < count J →
      (S (t + i) ≡ true) × OwnSlot J (get_or (bytes (spans J) S h t L) i 0) (t + i)
  unfolding bytes
  bytes_own zero t L i l k = absurd (omega arith)
  bytes_own (suc h) t L zero l k =
      let e : t + 0 ≡ t = omega arith in
      let c = byte_eligible (S t) t L (chosen (spans J) (S t) t L) (view (spans J) (S t) t L) k in
      rw e (c.0, record { released = c.1.released; before = c.1.before })
  bytes_own (suc h) t L (suc i) l k =
      let e : t + suc i ≡ suc t + i = omega arith in
      rw e (bytes_own h (suc t) (after L (chosen (spans J) (S t) t L)) i (omega arith) k)

  -- The run from a state is a placement from it, with as many units as it serves.
  pub run_placed : (h t : ℕ) (L : State) → PlacedFrom J S t L (bytes (spans J) S h t L)
  run_placed h t L =
      record {
        in_set = λ i l k. (bytes_own h t L i (rw (bytes_long (spans J) S h t L) at l) k).0;
        own = λ i l k. (bytes_own h t L i (rw (bytes_long (spans J) S h t L) at l) k).1;
        often = λ j l. omega (arith, bytes_times h t L j l);
      }
