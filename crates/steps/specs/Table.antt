-- 01, "From list to table", step 4, with card 6 of 02: the job of each awake slot.
use Rattle.std.specs.Prelude.{ℕ, zero, suc, Bool, true, false, ◌&&◌, List, [], ◌∷◌, get_or, leb, ltb}
use Rattle.std.proofs.Math.Option.{Option, none, some}
use Rattle.sched.specs.Bounded.{all_below}
use Rattle.sched.specs.Jobs.{Jobs, count, release, deadline}
use Rattle.sched.specs.Slots.{idle, asleep}
use Rattle.steps.specs.Workable.{lower}

-- "released, unfinished"
abbrev pub runnable : Jobs → ℕ → List ℕ → ℕ → Bool
runnable J t left j = leb (release J j) t && ltb 0 (get_or left j 0)

-- of job j and the best of the lower numbers, if there is one, the one of earlier deadline d; "on equal deadlines the lowest number"
abbrev pub earlier : (ℕ → ℕ) → ℕ → Option ℕ → Option ℕ
earlier d j none = some j
earlier d j (some k) = elim (ltb (d j) (d k)) [ true ↦ some j | false ↦ some k ]

-- among the jobs below n of which f holds, the one with the earliest deadline d
unfoldable pub earliest : (ℕ → ℕ) → (ℕ → Bool) → ℕ → Option ℕ
earliest d f zero = none
earliest d f (suc j) = elim (f j) [ true ↦ earlier d j (earliest d f j) | false ↦ earliest d f j ]

-- job k is one of the jobs below n of which f holds, and none of these has an earlier deadline d
unfoldable pub urgent : (ℕ → ℕ) → (ℕ → Bool) → ℕ → ℕ → Bool
urgent d f n k = ltb k n && f k && all_below n (λ j. elim (f j) [ true ↦ leb (d k) (d j) | false ↦ true ])

-- 02, card 6: among the jobs below n of which f holds with the earliest deadline d, "the one that ran in the latest earlier working slot goes on. If it
-- is not among them, the lowest number runs." The last argument is the job of that slot, if there is one; a job that ran before it has no claim.
unfoldable pub going_on : (ℕ → ℕ) → (ℕ → Bool) → ℕ → Option ℕ → Option ℕ
going_on d f n none = earliest d f n
going_on d f n (some k) = elim (urgent d f n k) [ true ↦ some k | false ↦ earliest d f n ]

-- A rule says which job an awake slot runs, from the slot, the units that are left and the job of the latest earlier working slot, if there is one.
abbrev pub Rule : Type 0
Rule = ℕ → List ℕ → Option ℕ → Option ℕ

-- the rule of step 4
abbrev pub choice : Jobs → Rule
choice J t left latest = going_on (deadline J) (runnable J t left) (count J) latest

-- "If there is none, the slot is idle."
abbrev pub run_byte : Option ℕ → ℕ
run_byte none = idle
run_byte (some j) = j

-- the units that are left once a slot has run this job
abbrev pub serve : List ℕ → Option ℕ → List ℕ
serve left none = left
serve left (some j) = lower left j

-- the job of the latest working slot, once a slot has run this one
abbrev pub latest_of : Option ℕ → Option ℕ → Option ℕ
latest_of none latest = latest
latest_of (some j) latest = some j

-- "Go through the awake slots in rising order", from slot t on
unfoldable pub fill_by : Rule → ℕ → List ℕ → Option ℕ → List Bool → List ℕ
fill_by rule t left latest [] = []
fill_by rule t left latest (false ∷ S) = asleep ∷ fill_by rule (suc t) left latest S
fill_by rule t left latest (true ∷ S) =
    let job = rule t left latest in
    run_byte job ∷ fill_by rule (suc t) (serve left job) (latest_of job latest) S

-- the table of a set of awake slots
unfoldable pub table_of : Jobs → List Bool → List ℕ
table_of J S = fill_by (choice J) 0 J.volumes none S
