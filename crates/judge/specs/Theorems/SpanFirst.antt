-- 02, card 3, "Span fault before volume fault": which of the judge's answers the card changed, and that it changed no other.
use Prim.Native.Nat.{ℕ, ◌≤◌, ◌<◌}
use Rattle.std.specs.Prelude.{◌≡◌, not, ◌&&◌, ◌||◌, ◌⊎◌, length, get_or, leb, ltb, eqb, Ok, Result}
use mathlib.Core.List.{List, [], ◌∷◌}
use Rattle.std.proofs.Math.ListN.{take}
use Rattle.sched.specs.Jobs.{Jobs, count, release, deadline, volume}
use Rattle.sched.specs.Slots.{times, idle, asleep}
use Rattle.sched.specs.Energy.{table_figures}
use Rattle.sched.specs.Checks.{Passes, refuse_if}
use Rattle.sched.specs.declared.Refusal.TheVariants.{BadByte, TooOften, OutOfSpan}
use Rattle.judge.specs.Faults.{SlotCheck, slot_fault, slot_check}
use Rattle.judge.specs.Verdict.{accepts, judge_check_by, judged_number, judged_values}
use Rattle.sched.specs.declared.Figures.{Figures}
use Rattle.sched.specs.declared.Refusal.{Refusal}

-- the faults of a slot before the card, here to be compared with: 01, "at each slot 21, 22, 23"
abbrev pub slot_fault_before : SlotCheck
slot_fault_before n r d t byte spent =
    refuse_if (leb n byte && not (eqb byte idle) && not (eqb byte asleep)) (BadByte t)
    (refuse_if (ltb byte n && spent) (TooOften t)
    (refuse_if (ltb byte n && (ltb t r || leb d t)) (OutOfSpan t) (Ok tt)))

-- the judge's answer before the card: the judge of `judged`, with that order at each slot
abbrev pub judged_before : Jobs → List ℕ → Result Figures Refusal
judged_before J table = accepts (judge_check_by slot_fault_before J table) (table_figures J (take J.horizon table))

-- slot t has both faults, 22 and 23: its byte names a job that earlier slots already named p times or more, and it is none of the job's own slots
pub record BothFaults (J : Jobs) (slots : List ℕ) (t : ℕ) : Type 0 where
  pub job : get_or slots t 0 < count J
  pub spent : volume J (get_or slots t 0) ≤ times (get_or slots t 0) (take t slots)
  pub outside : (t < release J (get_or slots t 0)) ⊎ (deadline J (get_or slots t 0) ≤ t)

-- "the lowest faulty slot has both faults": every lower slot passes the judge's check of a slot, which by `faulty_as_before` the order does not decide
pub record LowestHasBoth (J : Jobs) (slots : List ℕ) : Type 0 where
  pub at : ℕ
  pub within : at < length slots
  pub lower : (t : ℕ) → t < at → slot_check slot_fault J.releases J.deadlines J.volumes slots t ≡ Ok tt
  pub both : BothFaults J slots at

-- "where the judge reaches the slots", the lowest faulty slot has both faults
pub record Changes (J : Jobs) (table : List ℕ) : Type 0 where
  pub list : Passes J
  pub long : J.horizon ≤ length table
  pub lowest : LowestHasBoth J (take J.horizon table)

-- "22 becomes 23 with the same place", here t
pub record SpanTold (t : ℕ) (before now : Result Figures Refusal) : Type 0 where
  pub was : judged_number before ≡ 22
  pub is : judged_number now ≡ 23
  pub place_before : judged_values before ≡ t ∷ []
  pub place_now : judged_values now ≡ t ∷ []
