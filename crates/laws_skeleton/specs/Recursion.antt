-- The least cost of the slots that are left, worked out backwards one slot at a time, and the set that reaches it, built forwards.
--
-- A set is read from left to right. The state at a slot t is whether the slot before is awake, and the slot c at which sleep began: c is t
-- where the slot before is awake. `due c t` says that t is the last slot allowed to a window that no slot from c on has met so far.
use Rattle.std.specs.Prelude.{ℕ, zero, suc, ◌+◌, ◌*◌, min, ◌≡◌, Bool, true, false, ◌&&◌, ◌||◌, List, [], ◌∷◌, ltb}
use Rattle.sched.specs.Energy.{awake_slots, runs_from}

-- what a set costs from state b on; 01's energy is this at the state before slot 0
abbrev pub cost : ℕ → Bool → List Bool → ℕ
cost q b S = awake_slots S + q * runs_from b S

module _ (due : ℕ → ℕ → Bool) where
  -- the set misses no window: no slot sleeps at which a window is due
  abbrev pub Allowed : ℕ → ℕ → List Bool → Type 0
  Allowed t c [] = Unit {0}
  Allowed t c (false ∷ S) = (due c t ≡ false) × Allowed (suc t) c S
  Allowed t c (true ∷ S) = Allowed (suc t) (suc t) S

  module _ (q : ℕ) where
    -- The least cost of the k slots from t on. Asleep before, the wake is put off until a window is due; awake before, the run goes on or
    -- ends, whichever is cheaper. `suc (least k true (suc t) (suc t))` is what is to be paid from t on once t is awake and its wake is paid.
    unfoldable pub least : ℕ → Bool → ℕ → ℕ → ℕ
    least zero b t c = 0
    least (suc k) false t c =
        elim (due c t) [ true ↦ q + suc (least k true (suc t) (suc t)) | false ↦ least k false (suc t) c ]
    least (suc k) true t c =
        min (suc (least k true (suc t) (suc t)))
        (elim (due c t) [ true ↦ q + suc (least k true (suc t) (suc t)) | false ↦ least k false (suc t) c ])

    -- Slot t, with k slots after it, is awake: a window is due, or the run goes on since to end it is dearer.
    unfoldable pub wakes_at : ℕ → Bool → ℕ → ℕ → Bool
    wakes_at k b t c = due c t || b && ltb (suc (least k true (suc t) (suc t))) (least (suc k) false t c)

    -- the set of the k slots from t on
    unfoldable pub built : ℕ → Bool → ℕ → ℕ → List Bool
    built zero b t c = []
    built (suc k) b t c =
        elim (wakes_at k b t c) [ true ↦ true ∷ built k true (suc t) (suc t) | false ↦ false ∷ built k false (suc t) c ]
