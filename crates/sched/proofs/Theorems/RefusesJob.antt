-- 02, card 1: when an answer refuses a job, and what is then known of the checks in front.
use Rattle.std.specs.Prelude.{ℕ, ◌<◌, ◌≡◌, Bool, true, false, ◌⊎◌, ltb, eqb, Err, Ok}
use Rattle.std.proofs.Common.{inl, inr, arith}
use Rattle.sched.specs.Refusals.{number, Checked}
use Rattle.sched.specs.Checks.{refuse_if, and_then, horizon_check, count_check, length_check, checked_number}
use Rattle.sched.proofs.Checks.Laws.{past_refusal, past_check}
use Rattle.sched.specs.declared.Refusal.{Refusal}
use Rattle.sched.specs.declared.Refusal.TheVariants.{OutOfRange, TooShort}

-- the numbers that a faulty job is refused by
abbrev pub JobFaultNumber : ℕ → Type 0
JobFaultNumber n = (n ≡ 25) ⊎ ((n ≡ 15) ⊎ (n ≡ 26))

-- an answer of a check that refuses a job
abbrev pub RefusesJob : Checked → Type 0
RefusesJob c = JobFaultNumber (checked_number c)

-- A check with another number refuses no job (`other-`); where a job is refused behind it, it has passed (`before-`), and what follows decides
-- (`past-`).

pub not_job : (n : ℕ) → n < 15 ⊎ ((15 < n) × (n < 25)) → JobFaultNumber n → ⊥
not_job n (inl l) (inl e) = omega arith
not_job n (inl l) (inr (inl e)) = omega arith
not_job n (inl l) (inr (inr e)) = omega arith
not_job n (inr l) (inl e) = omega (arith, l.1)
not_job n (inr l) (inr (inl e)) = omega (arith, l.0)
not_job n (inr l) (inr (inr e)) = omega (arith, l.1)

pub past_if : (b : Bool) (r : Refusal) (c : Checked) → (JobFaultNumber (number r) → ⊥) → RefusesJob (refuse_if b r c) →
    refuse_if b r c ≡ c
past_if b r c other f = (past_refusal JobFaultNumber b r c other f).1

pub past_then : (a c : Checked) → (RefusesJob a → ⊥) → RefusesJob (and_then a c) → and_then a c ≡ c
past_then a c other f = (past_check JobFaultNumber a c other f).1

pub before_if : (b : Bool) (r : Refusal) (c : Checked) → (JobFaultNumber (number r) → ⊥) → RefusesJob (refuse_if b r c) → b ≡ false
before_if b r c other f = (past_refusal JobFaultNumber b r c other f).0

pub before_then : (a c : Checked) → (RefusesJob a → ⊥) → RefusesJob (and_then a c) → a ≡ Ok tt
before_then a c other f = (past_check JobFaultNumber a c other f).0

pub other_if : (b : Bool) (r : Refusal) (c : Checked) → (JobFaultNumber (number r) → ⊥) → (RefusesJob c → ⊥) →
    RefusesJob (refuse_if b r c) → ⊥
other_if true r c here later f = here f
other_if false r c here later f = later f

pub other_then : (a c : Checked) → (RefusesJob a → ⊥) → (RefusesJob c → ⊥) →
    RefusesJob (and_then a c) → ⊥
other_then (Ok tt) c first later f = later f
other_then (Err r) c first later f = first f

pub other_passed : RefusesJob (Ok tt) → ⊥
other_passed f = not_job 0 (inl (omega arith)) f

pub other_horizon : (h : ℕ) → RefusesJob (horizon_check h) → ⊥
other_horizon h =
    let twelve = not_job 12 (inl (omega arith)) in
    other_if (eqb h 0) (OutOfRange 0) (refuse_if (ltb 4096 h) (OutOfRange 0) (Ok tt)) twelve
    (other_if (ltb 4096 h) (OutOfRange 0) (Ok tt) twelve other_passed)

pub other_count : (n : ℕ) → RefusesJob (count_check n) → ⊥
other_count n = other_if (ltb 64 n) (OutOfRange 4) (Ok tt) (not_job 12 (inl (omega arith))) other_passed

pub other_length : (have need : ℕ) → RefusesJob (length_check have need) → ⊥
other_length have need = other_if (ltb have need) (TooShort need) (Ok tt) (not_job 17 (inr (omega arith, omega arith))) other_passed
