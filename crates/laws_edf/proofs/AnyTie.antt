-- Whatever is done on equal deadlines: runs that serve some eligible job of earliest deadline at each awake slot serve equally many units.
use Rattle.std.specs.Prelude.{ℕ, suc, ◌+◌, ◌≤◌, ◌≡◌, refl, Bool, true, List, [], ◌∷◌, length}
use Rattle.std.proofs.Common.{ap, sym, ◌∙◌, arith}
use Rattle.std.proofs.Math.Option.{Option, none, some}
use Rattle.laws_edf.specs.Run.{Spans, State, Eligible, chosen, after, gain, vol}
use Rattle.laws_edf.specs.Pick.{View, view}
use Rattle.laws_edf.specs.Exchange.{any_earliest}

-- what slot t may do under some tie rule
abbrev pub Sooner : Spans → Bool → ℕ → State → Option ℕ → Type 0
Sooner F b t L none = b ≡ true → (j : ℕ) → Eligible F t L j → ⊥
Sooner F b t L (some k) = (b ≡ true) × Eligible F t L k × ((j : ℕ) → Eligible F t L j → F.d k ≤ F.d j)

-- the choices of the slots from t on
abbrev pub EarliestFirst : Spans → (ℕ → Bool) → ℕ → State → List (Option ℕ) → Type 0
EarliestFirst F S t L [] = Unit {0}
EarliestFirst F S t L (o ∷ rest) = Sooner F (S t) t L o × EarliestFirst F S (suc t) (after L o) rest

unfoldable pub gains : List (Option ℕ) → ℕ
gains [] = 0
gains (o ∷ rest) = gain o + gains rest

module _ (F : Spans) (S : ℕ → Bool) (h t : ℕ) (L : State) where
  idle_by : (b : Bool) (y : Option ℕ) → Sooner F b t L none → View F b t L y → gain y + vol F S h (suc t) (after L y) ≡ vol F S h (suc t) L
  idle_by b none f v = omega arith
  idle_by b (some k) f v = absurd (f v.0 k v.1.able)

  pub sooner_step : (o : Option ℕ) → Sooner F (S t) t L o → vol F S (suc h) t L ≡ gain o + vol F S h (suc t) (after L o)
  unfolding vol
  sooner_step none f = omega (arith, idle_by (S t) (chosen F (S t) t L) f (view F (S t) t L))
  sooner_step (some k) c = omega (arith, any_earliest F S h t L k c.0 c.1 c.2)

pub any_tie_serves : (F : Spans) (S : ℕ → Bool) (t : ℕ) (L : State) (os : List (Option ℕ)) → EarliestFirst F S t L os → gains os ≡ vol F S (length os) t L
unfolding gains vol
any_tie_serves F S t L [] c = refl
any_tie_serves F S t L (o ∷ rest) c =
    ap (λ (n : ℕ). gain o + n) (any_tie_serves F S (suc t) (after L o) rest c.1) ∙ sym (sooner_step F S (length rest) t L o c.0)
