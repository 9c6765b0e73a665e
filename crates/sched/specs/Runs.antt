-- 01, "Words of the plan": "A run is a longest stretch of awake slots." The runs of a set one by one, each with its first slot and its
-- length, in rising order, where `Energy` only counts them; and where a stretch of one state ends.
use Rattle.std.specs.Prelude.{ℕ, suc, ◌+◌, ◌≤◌, ◌<◌, ◌≡◌, Bool, true, false, not, length}
use mathlib.Core.List.{List, [], ◌∷◌, Memᴰ}
use Rattle.sched.specs.Slots.{awake, awake_before}
use Rattle.sched.specs.Energy.{runs}

pub record Run : Type 0 where
  pub first : ℕ
  pub slots : ℕ

-- awake throughout, asleep right before and right after; beyond either end of the horizon everything sleeps
pub record Longest (S : List Bool) (r : Run) : Type 0 where
  pub some : 1 ≤ r.slots
  pub before : awake_before S r.first ≡ false
  pub inside : (i : ℕ) → i < r.slots → awake S (r.first + i) ≡ true
  pub after : awake S (r.first + r.slots) ≡ false

-- the awake slots at the front of a set
unfoldable pub leading : List Bool → ℕ
leading [] = 0
leading (false ∷ S) = 0
leading (true ∷ S) = suc (leading S)

-- the runs that begin in S, whose slots are numbered from t on; the Bool is the state before
unfoldable pub run_list_from : Bool → ℕ → List Bool → List Run
run_list_from b t [] = []
run_list_from b t (false ∷ S) = run_list_from false (suc t) S
run_list_from true t (true ∷ S) = run_list_from true (suc t) S
run_list_from false t (true ∷ S) = record { first = t; slots = suc (leading S) } ∷ run_list_from true (suc t) S

-- "Before slot 0 the processor sleeps."
abbrev pub run_list : List Bool → List Run
run_list S = run_list_from false 0 S

-- in rising order from slot m on, and each run ends before the slot before the next one
unfoldable pub Apart : ℕ → List Run → Type 0
Apart m [] = Unit {0}
Apart m (r ∷ rest) = (m ≤ r.first) × Apart (suc (r.first + r.slots)) rest

-- the list of the runs of a set: as many as `runs` counts, each of them longest, none of the longest missing, none twice
pub record ListsRuns (S : List Bool) (listed : List Run) : Type 0 where
  pub count : length listed ≡ runs S
  pub longest : (r : Run) → Memᴰ r listed → Longest S r
  pub every : (r : Run) → Longest S r → Memᴰ r listed
  pub apart : Apart 0 listed

-- of a set of n slots, those from `from` up to but without `end` are all awake, or all asleep, and slot `end`, if there is one, is the other
pub record StretchEnd (S : List Bool) (n from : ℕ) (state : Bool) (end : ℕ) : Type 0 where
  pub starts : from ≤ end
  pub within : end ≤ n
  pub inside : (t : ℕ) → from ≤ t → t < end → awake S t ≡ state
  pub turns : end < n → awake S end ≡ not state
