-- Where one slot more is worth a unit: the words of the law `helps_iff_lacking`.
use Rattle.std.specs.Prelude.{ℕ, ◌≤◌, ◌<◌, ◌≡◌, Bool}
use Rattle.laws_edf.specs.Run.{Spans, State, left}

-- before slot t there is a unit left, due by e, that slot t - 1 could have served
pub record Carry (F : Spans) (e t : ℕ) (L : State) : Type 0 where
  pub job : ℕ
  pub below : job < F.n
  pub released : F.r job < t
  pub unexpired : t ≤ F.d job
  pub due : F.d job ≤ e
  pub unit : 0 < L job

-- units due at e are left where nothing can serve them any more
pub record Lossy (F : Spans) (e : ℕ) (L : State) : Type 0 where
  pub job : ℕ
  pub below : job < F.n
  pub at_end : F.d job ≡ e
  pub unit : 0 < L job

-- over every slot from x up to the deadline a unit due by then is carried, and one of that deadline is lost
pub record Lacking (F : Spans) (S : ℕ → Bool) (p : State) (H x : ℕ) : Type 0 where
  pub deadline : ℕ
  pub ahead : x < deadline
  pub lossy : Lossy F deadline (left F S p H)
  pub carried : (s : ℕ) → x < s → s ≤ deadline → Carry F deadline s (left F S p s)
