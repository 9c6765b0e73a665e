-- Behind the last deadline nobody runs.
use Prim.Native.Nat.{ℕ, zero, suc, ◌+◌, ◌≤◌, ◌<◌}
use mathlib.Core.Path.{◌≡◌, refl, ap}
use mathlib.Core.Bool.{Bool, true, false}
use mathlib.Core.List.{List, [], ◌∷◌}
use mathlib.Core.Option.{Option, none}
use native.Mathlib.Omega.{arith}
use lib.ListN.{length, get_or}
use Rattle.sched.proofs.Bounded.Laws.{by_bool}
use Rattle.sched.specs.Slots.{awake}
use Rattle.steps.specs.Table.{run_byte, serve, latest_of, fill_by}
use Rattle.laws_edf.specs.Run.{Spans, servable, slot_byte}
use Rattle.laws_edf.specs.Pick.{eligible}
use Rattle.laws_edf.specs.Search.{state_of}
use Rattle.laws_edf.proofs.GoesOn.{goes_none}
use Rattle.step4_table.specs.Filling.{onward}

module _ (F : Spans) (H : ℕ) (due : (j : ℕ) → j < F.n → F.d j ≤ H) where
  nobody : (t : ℕ) (left : List ℕ) (latest : Option ℕ) → H ≤ t → onward F t left latest ≡ none
  nobody t left latest l =
      goes_none F.d (servable F t (state_of left)) F.n
      (λ j m. by_bool (servable F t (state_of left) j) (λ e. absurd (omega (arith, (eligible F t (state_of left) j m e).before, due j m))) (λ e. e)) latest

  -- slot s is the i-th from t on
  pub idle_behind : (S : List Bool) (t : ℕ) (left : List ℕ) (latest : Option ℕ) (i s : ℕ) → i < length S → s ≡ t + i → H ≤ s → get_or (fill_by (onward F) t left latest S) i 0 ≡ slot_byte (awake S i) none
  unfolding fill_by
  idle_behind [] t left latest i s l e m = absurd (omega arith)
  idle_behind (false ∷ S) t left latest zero s l e m = refl
  idle_behind (true ∷ S) t left latest zero s l e m = ap run_byte (nobody t left latest (omega arith))
  idle_behind (false ∷ S) t left latest (suc i) s l e m = idle_behind S (suc t) left latest i s (omega arith) (omega arith) m
  idle_behind (true ∷ S) t left latest (suc i) s l e m =
      let o = onward F t left latest in
      idle_behind S (suc t) (serve left o) (latest_of o latest) i s (omega arith) (omega arith) m
