-- The run of earliest deadline first over functions: what is left of each job before each slot, and how many slots serve a job.
use Rattle.std.specs.Prelude.{ℕ, zero, suc, ◌+◌, ◌-◌, ◌≤◌, ◌<◌, Bool, true, false, ◌&&◌, List, [], ◌∷◌, leb, ltb, eqb}
use Rattle.std.proofs.Math.Option.{Option, none, some}
use Rattle.sched.specs.Bounded.{sum_below}
use Rattle.sched.specs.Jobs.{Jobs, count, release, deadline, volume}
use Rattle.sched.specs.Slots.{awake, asleep}
use Rattle.steps.specs.Table.{earliest, run_byte}

-- the number of jobs, and when each may run; volumes are a state, and so kept apart
pub record Spans : Type 0 where
  pub n : ℕ
  pub r : ℕ → ℕ
  pub d : ℕ → ℕ

-- the units of each job that are not yet served
abbrev pub State : Type 0
State = ℕ → ℕ

-- slot t may serve a unit of job j
abbrev pub servable : Spans → ℕ → State → ℕ → Bool
servable F t L j = leb (F.r j) t && ltb t (F.d j) && ltb 0 (L j)

pub record Eligible (F : Spans) (t : ℕ) (L : State) (j : ℕ) : Type 0 where
  pub below : j < F.n
  pub released : F.r j ≤ t
  pub before : t < F.d j
  pub unit : 0 < L j

-- the eligible job of earliest deadline, on equal deadlines the lowest number
unfoldable pub pick : Spans → ℕ → State → Option ℕ
pick F t L = earliest F.d (servable F t L) F.n

-- the job that slot t serves; a sleeping slot serves none
unfoldable pub chosen : Spans → Bool → ℕ → State → Option ℕ
chosen F false t L = none
chosen F true t L = pick F t L

-- one unit of job k less
unfoldable pub lowered : State → ℕ → State
lowered L k j = elim (eqb j k) [ true ↦ L j - 1 | false ↦ L j ]

abbrev pub after : State → Option ℕ → State
after L none = L
after L (some k) = lowered L k

-- the units that a slot serves
abbrev pub gain : Option ℕ → ℕ
gain none = 0
gain (some k) = 1

-- the units served by the h slots from t on, of which S tells the awake ones, where L is left before t
unfoldable pub vol : Spans → (ℕ → Bool) → ℕ → ℕ → State → ℕ
vol F S zero t L = 0
vol F S (suc h) t L = gain (chosen F (S t) t L) + vol F S h (suc t) (after L (chosen F (S t) t L))

-- what is left after these slots
unfoldable pub final : Spans → (ℕ → Bool) → ℕ → ℕ → State → State
final F S zero t L = L
final F S (suc h) t L = final F S h (suc t) (after L (chosen F (S t) t L))

abbrev pub slot_byte : Bool → Option ℕ → ℕ
slot_byte false o = asleep
slot_byte true o = run_byte o

-- a byte for each of these slots
unfoldable pub bytes : Spans → (ℕ → Bool) → ℕ → ℕ → State → List ℕ
bytes F S zero t L = []
bytes F S (suc h) t L = slot_byte (S t) (chosen F (S t) t L) ∷ bytes F S h (suc t) (after L (chosen F (S t) t L))

-- what is left before slot t where p is left before slot 0
unfoldable pub left : Spans → (ℕ → Bool) → State → ℕ → State
left F S p zero = p
left F S p (suc t) = after (left F S p t) (chosen F (S t) t (left F S p t))

-- the units left of all jobs together
abbrev pub all_units : Spans → State → ℕ
all_units F L = sum_below F.n L

-- The run of a list of jobs

abbrev pub spans : Jobs → Spans
spans J = record { n = count J; r = release J; d = deadline J }

-- the number of slots below H that serve a job
unfoldable pub edf_volume : Jobs → List Bool → ℕ
edf_volume J S = vol (spans J) (awake S) J.horizon 0 (volume J)
