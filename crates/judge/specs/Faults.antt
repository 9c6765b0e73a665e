-- 01, "Refused, and where", with 02, card 3: the faults that the judge looks for in a table, "slots in rising order", "at each slot 21, 23, 22",
-- "then 24 for the lowest job". The table here is just the H bytes that are judged; n is the number of jobs, and rs, ds, ps are their fields.
use Rattle.std.specs.Prelude.{ℕ, zero, suc, ◌≤◌, ◌≡◌, Bool, not, ◌&&◌, ◌||◌, List, length, get_or, take, leb, ltb, eqb, Ok}
use Rattle.sched.specs.Slots.{times, idle, asleep}
use Rattle.sched.specs.Checks.{refuse_if, and_then}
use Rattle.sched.specs.declared.Refusal.TheVariants.{BadByte, TooOften, OutOfSpan, TooRare}
use Rattle.sched.specs.Refusals.{Checked}

-- the fields belong together, and there are no more jobs than counters; a list that passes the list checks has both
pub record Sized (rs ds ps : List ℕ) : Type 0 where
  pub same_deadlines : length ds ≡ length rs
  pub same_volumes : length ps ≡ length rs
  pub few : length rs ≤ 64

-- a check of a slot, from the number of jobs, the release and deadline of the job that its byte names, the slot, the byte, and `spent`
abbrev pub SlotCheck : Type 0
SlotCheck = ℕ → ℕ → ℕ → ℕ → ℕ → Bool → Checked

-- the first fault at slot t, if it has one, "at each slot 21, 23, 22": r and d are those of the job that the byte names, and `spent` says that
-- earlier slots already named it p times or more
abbrev pub slot_fault : SlotCheck
slot_fault n r d t byte spent =
    refuse_if (leb n byte && not (eqb byte idle) && not (eqb byte asleep)) (BadByte t)
    (refuse_if (ltb byte n && (ltb t r || leb d t)) (OutOfSpan t)
    (refuse_if (ltb byte n && spent) (TooOften t) (Ok tt)))

-- the byte j stands p times or more in these slots
abbrev pub spent_in : List ℕ → List ℕ → ℕ → Bool
spent_in ps slots j = leb (get_or ps j 0) (times j slots)

abbrev pub slot_check : SlotCheck → List ℕ → List ℕ → List ℕ → List ℕ → ℕ → Checked
slot_check fault rs ds ps table t =
    let byte = get_or table t 0 in
    fault (length rs) (get_or rs byte 0) (get_or ds byte 0) t byte (spent_in ps (take t table) byte)

-- the k slots from slot t on, each by the same check
unfoldable pub slots_from : SlotCheck → ℕ → ℕ → List ℕ → List ℕ → List ℕ → List ℕ → Checked
slots_from fault zero t rs ds ps table = Ok tt
slots_from fault (suc k) t rs ds ps table = and_then (slot_check fault rs ds ps table t) (slots_from fault k (suc t) rs ds ps table)

-- 24, "a job stands fewer than p times", for the k jobs from j on; `named` says how often each stands
unfoldable pub rare_from : ℕ → ℕ → (ℕ → ℕ) → List ℕ → Checked
rare_from zero j named ps = Ok tt
rare_from (suc k) j named ps = refuse_if (ltb (named j) (get_or ps j 0)) (TooRare j) (rare_from k (suc j) named ps)

unfoldable pub faults_by : SlotCheck → List ℕ → List ℕ → List ℕ → List ℕ → Checked
faults_by fault rs ds ps table =
    and_then (slots_from fault (length table) 0 rs ds ps table) (rare_from (length rs) 0 (λ j. times j table) ps)

-- "slots in rising order", then 24
abbrev pub faults_check : List ℕ → List ℕ → List ℕ → List ℕ → Checked
faults_check = faults_by slot_fault
