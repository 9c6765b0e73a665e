-- 02, card 10: from a start asleep the sleep rule is the one before this card, and so is the whole plan: of the steps only this rule got the start, and
-- the energy, which had it before, is that of 01 then (`asleep_energy`). What was before is defined here, to be compared with: "Before the first and
-- after the last working slot the processor sleeps."
use Rattle.std.specs.Prelude.{ℕ, suc, ◌-◌, ◌≡◌, refl, Bool, true, false, List, length, get_or, ltb}
use Rattle.std.proofs.Common.{ap}
use Rattle.std.proofs.Math.Option.{Option, none, some}
use Rattle.sched.specs.Bounded.{values_from}
use Rattle.sched.specs.Slots.{mark_byte, working_of}
use Rattle.steps.specs.Sleep.{working, work_before, work_after, stays_awake, slept_byte, sleep_rule}

-- Before the card

abbrev pub stays_awake_before : ℕ → Option ℕ → Option ℕ → Bool
stays_awake_before q (some a) (some b) = ltb (b - suc a) q
stays_awake_before q (some a) none = false
stays_awake_before q none after = false

abbrev pub slept_byte_before : ℕ → List ℕ → ℕ → ℕ
slept_byte_before q table t =
    let W = working_of table in
    elim (working W t) [ true ↦ get_or table t 0 | false ↦ mark_byte (stays_awake_before q (work_before W t) (work_after W t)) ]

abbrev pub sleep_rule_before : ℕ → List ℕ → List ℕ
sleep_rule_before q table = values_from (length table) 0 (slept_byte_before q table)

-- and now

same_stretch : (q : ℕ) (before after : Option ℕ) → stays_awake q false before after ≡ stays_awake_before q before after
same_stretch q none none = refl
same_stretch q none (some b) = refl
same_stretch q (some a) none = refl
same_stretch q (some a) (some b) = refl

same_byte : (q : ℕ) (table : List ℕ) (t : ℕ) → slept_byte q false table t ≡ slept_byte_before q table t
same_byte q table t =
    let W = working_of table in
    ap (λ (b : Bool). elim (working W t) [ true ↦ get_or table t 0 | false ↦ mark_byte b ]) (same_stretch q (work_before W t) (work_after W t))

pub start_asleep_as_before : (q : ℕ) (table : List ℕ) → sleep_rule q false table ≡ sleep_rule_before q table
unfolding sleep_rule
start_asleep_as_before q table = λ k. values_from (length table) 0 (λ t. same_byte q table t k)
