-- The exchange argument: any choice at a slot, followed by earliest deadline first, serves at most what earliest deadline first does.
use Rattle.std.specs.Prelude.{ℕ, zero, suc, ◌+◌, ◌≤◌, ◌<◌, ◌≡◌, Bool, true, ◌≢◌}
use Rattle.std.proofs.Math.Option.{Option, none, some}
use Rattle.std.proofs.Common.{arith}
use Rattle.std.proofs.Math.Decide.{ℕ_discrete}
use Rattle.laws_edf.specs.Run.{Spans, State, Eligible, chosen, lowered, after, gain, vol}
use Rattle.laws_edf.specs.Pick.{first_unique, View, view}
use Rattle.laws_edf.specs.Units.{OneMore, lowered_less, lowered_elsewhere, less_is_lowered, both_lowered, less_everywhere}
use Rattle.laws_edf.specs.Apart.{eligible_with, one_more_worth}

-- A has a unit of k and B one of j in its place, where j is released and k is due no later
pub record Traded (F : Spans) (t k j : ℕ) (A B Z : State) : Type 0 where
  pub more_k : OneMore k A Z
  pub more_j : OneMore j B Z
  pub sooner : F.d k ≤ F.d j
  pub below : j < F.n
  pub released : F.r j ≤ t

module _ (F : Spans) (S : ℕ → Bool) (h t : ℕ) where
  -- what the induction gives after slot t
  abbrev Later : Type 0
  Later = (k j : ℕ) (A B Z : State) → Traded F (suc t) k j A B Z → vol F S h (suc t) A ≤ vol F S h (suc t) B

  module _ (later : Later) (k j : ℕ) (A B Z : State) (c : Traded F t k j A B Z) where
    in_z_a : (i : ℕ) → i ≢ k → Eligible F t A i → Eligible F t Z i
    in_z_a i f e = eligible_with F t A Z i e (omega (arith, e.unit, c.more_k.elsewhere i f))

    in_z_b : (i : ℕ) → i ≢ j → Eligible F t B i → Eligible F t Z i
    in_z_b i f e = eligible_with F t B Z i e (omega (arith, e.unit, c.more_j.elsewhere i f))

    in_a : (i : ℕ) → Eligible F t Z i → Eligible F t A i
    in_a i e = eligible_with F t Z A i e (omega (arith, e.unit, less_everywhere k A Z c.more_k i))

    in_b : (i : ℕ) → Eligible F t Z i → Eligible F t B i
    in_b i e = eligible_with F t Z B i e (omega (arith, e.unit, less_everywhere j B Z c.more_j i))

    -- where k can be served, so can j in its place
    j_in_b : Eligible F t A k → Eligible F t B j
    j_in_b e =
        record { below = c.below; released = c.released; before = omega (arith, e.before, c.sooner); unit = omega (arith, c.more_j.there) }

    trade_by : (b : Bool) (x y : Option ℕ) → View F b t A x → View F b t B y → gain x + vol F S h (suc t) (after A x) ≤ gain y + vol F S h (suc t) (after B y)
    trade_by b none none v w =
        let i = later k j A B Z (record { more_k = c.more_k; more_j = c.more_j; sooner = c.sooner; below = c.below; released = omega (arith, c.released) }) in
        omega arith
    trade_by b none (some l) v w = go (ℕ_discrete l j)
      where
        go : Dec (l ≡ j) → 0 + vol F S h (suc t) A ≤ 1 + vol F S h (suc t) (lowered B l)
        go (yes e) = rw (e, less_is_lowered j B Z c.more_j) (omega (arith, (one_more_worth F S h (suc t) k A Z c.more_k).high))
        go (no f) = absurd (v w.0 l (in_a l (in_z_b l f w.1.able)))
    trade_by b (some m) none v w = go (ℕ_discrete m k)
      where
        go : Dec (m ≡ k) → 1 + vol F S h (suc t) (lowered A m) ≤ 0 + vol F S h (suc t) B
        go (yes e) = absurd (w v.0 j (j_in_b (rw e at v.1.able)))
        go (no f) = absurd (w v.0 m (in_b m (in_z_a m f v.1.able)))
    trade_by b (some m) (some l) v w = go (ℕ_discrete m k) (ℕ_discrete l j)
      where
        go : Dec (m ≡ k) → Dec (l ≡ j) → 1 + vol F S h (suc t) (lowered A m) ≤ 1 + vol F S h (suc t) (lowered B l)
        go (yes e) (yes q) = rw (e, q, less_is_lowered k A Z c.more_k, less_is_lowered j B Z c.more_j) (omega arith)
        go (yes e) (no q) =
            let z = in_z_b l q w.1.able in
            let i = later l j Z (lowered B l) (lowered Z l) (record {
              more_k = lowered_less Z l z.unit;
              more_j = both_lowered j l B Z c.more_j q;
              sooner = (w.1.first j (j_in_b (rw e at v.1.able))).sooner;
              below = c.below;
              released = omega (arith, c.released);
            }) in
            rw (e, less_is_lowered k A Z c.more_k) (omega arith)
        go (no f) (yes q) =
            let z = in_z_a m f v.1.able in
            let i = later k m (lowered A m) Z (lowered Z m) (record {
              more_k = both_lowered k m A Z c.more_k f;
              more_j = lowered_less Z m z.unit;
              sooner = omega (arith, c.sooner, rw q at (w.1.first m (in_b m z)).sooner);
              below = z.below;
              released = omega (arith, z.released);
            }) in
            rw (q, less_is_lowered j B Z c.more_j) (omega arith)
        go (no f) (no q) =
            let z = in_z_a m f v.1.able in
            let y = in_z_b l q w.1.able in
            let s : m ≡ l = first_unique F.d m l (v.1.first l (in_a l y)) (w.1.first m (in_b m z)) in
            let i = later k j (lowered A m) (lowered B m) (lowered Z m) (record {
              more_k = both_lowered k m A Z c.more_k f;
              more_j = both_lowered j m B Z c.more_j (rw s q);
              sooner = c.sooner;
              below = c.below;
              released = omega (arith, c.released);
            }) in
            rw (← s) (omega arith)

-- Such a trade loses nothing.
pub trade : (F : Spans) (S : ℕ → Bool) (h t k j : ℕ) (A B Z : State) → Traded F t k j A B Z → vol F S h t A ≤ vol F S h t B
unfolding vol
trade F S zero t k j A B Z c = omega arith
trade F S (suc h) t k j A B Z c =
    trade_by F S h t (trade F S h (suc t)) k j A B Z c (S t) (chosen F (S t) t A) (chosen F (S t) t B) (view F (S t) t A) (view F (S t) t B)

module _ (F : Spans) (S : ℕ → Bool) (h t : ℕ) (L : State) where
  -- of two eligible jobs, to serve the one that is due no later is at least as good; no tie rule is used
  pub serve_sooner : (k j : ℕ) → Eligible F t L k → Eligible F t L j → F.d k ≤ F.d j → vol F S h (suc t) (lowered L j) ≤ vol F S h (suc t) (lowered L k)
  serve_sooner k j a b s = go (ℕ_discrete k j)
    where
      go : Dec (k ≡ j) → vol F S h (suc t) (lowered L j) ≤ vol F S h (suc t) (lowered L k)
      go (yes e) = rw e (omega arith)
      go (no f) =
          trade F S h (suc t) k j (lowered L j) (lowered L k) (lowered (lowered L j) k) (record {
            more_k = lowered_less (lowered L j) k (rw lowered_elsewhere a.unit);
            more_j = both_lowered j k L (lowered L j) (lowered_less L j b.unit) f;
            sooner = s;
            below = b.below;
            released = omega (arith, b.released);
          })

-- what a slot may do: idle, or serve an eligible job where it is awake
abbrev pub Allowed : Spans → Bool → ℕ → State → Option ℕ → Type 0
Allowed F b t L none = Unit {0}
Allowed F b t L (some j) = (b ≡ true) × Eligible F t L j

module _ (F : Spans) (S : ℕ → Bool) (h t : ℕ) (L : State) where
  choice_by : (b : Bool) (x y : Option ℕ) → Allowed F b t L x → View F b t L y → gain x + vol F S h (suc t) (after L x) ≤ gain y + vol F S h (suc t) (after L y)
  choice_by b none none a w = omega arith
  choice_by b none (some l) a w =
      omega (arith, (one_more_worth F S h (suc t) l L (lowered L l) (lowered_less L l w.1.able.unit)).high)
  choice_by b (some j) none a w = absurd (w a.0 j a.1)
  choice_by b (some j) (some l) a w =
      omega (arith, serve_sooner F S h t L l j w.1.able a.1 (w.1.first j a.1).sooner)

  pub any_choice : (x : Option ℕ) → Allowed F (S t) t L x → gain x + vol F S h (suc t) (after L x) ≤ vol F S (suc h) t L
  unfolding vol
  any_choice x a = choice_by (S t) x (chosen F (S t) t L) a (view F (S t) t L)

  earliest_by : (b : Bool) (k : ℕ) (y : Option ℕ) → b ≡ true → Eligible F t L k → ((j : ℕ) → Eligible F t L j → F.d k ≤ F.d j) →
      View F b t L y → gain y + vol F S h (suc t) (after L y) ≤ 1 + vol F S h (suc t) (lowered L k)
  earliest_by b k none q e s w = absurd (w q k e)
  earliest_by b k (some l) q e s w = omega (arith, serve_sooner F S h t L k l e w.1.able (s l w.1.able))

  -- Whichever eligible job of earliest deadline an awake slot serves, the units served are the same.
  pub any_earliest : (k : ℕ) → S t ≡ true → Eligible F t L k → ((j : ℕ) → Eligible F t L j → F.d k ≤ F.d j) →
      vol F S (suc h) t L ≡ suc (vol F S h (suc t) (lowered L k))
  unfolding vol
  any_earliest k q e s =
      omega (arith, any_choice (some k) (q, e), earliest_by (S t) k (chosen F (S t) t L) q e s (view F (S t) t L))
