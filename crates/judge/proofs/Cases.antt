-- 01, "Plans worked by hand", after card 5 of 02: the third plan as the judge sees it, with its one run; and a table for each kind of fault, two of them with a slot
-- that has two. Closed cases, so that an edit of a definition is refused here.
use Rattle.std.specs.Prelude.{◌≡◌, refl, [], ◌∷◌, Err, Ok}
use Rattle.sched.specs.Jobs.{Jobs, jobs_of}
use Rattle.sched.proofs.Cases.{third, third_table, start_awake}
use Rattle.sched.specs.Checks.{check_from}
use Rattle.sched.specs.Slots.{times, awake_of}
use Rattle.sched.specs.Energy.{awake_slots, runs_from}
use Rattle.sched.specs.declared.Refusal.TheVariants.{BadByte, TooOften, OutOfSpan, TooRare}
use Rattle.judge.specs.Faults.{slots_from, rare_from, faults_by}
use Rattle.judge.specs.Verdict.{judged}
use Rattle.judge.specs.Theorems.SpanFirst.{judged_before}
use Rattle.sched.specs.Runs.{leading, run_list_from, run_list}

pub third_accepted : judged third third_table ≡ Ok (record { energy = 13; awake = 10; runs = 1 })
unfolding judged faults_by slots_from rare_from check_from times awake_slots runs_from
third_accepted = refl

-- 02, card 10: from a start awake the same table costs no wake, and its run is counted all the same
pub third_accepted_awake : judged (start_awake third) third_table ≡ Ok (record { energy = 10; awake = 10; runs = 1 })
unfolding judged faults_by slots_from rare_from check_from times awake_slots runs_from
third_accepted_awake = refl

pub third_stretches : run_list (awake_of third_table) ≡ record { first = 0; slots = 10 } ∷ []
unfolding run_list_from leading
third_stretches = refl

-- one job (0,2,1) in three slots
abbrev small : Jobs
small = jobs_of 3 0 (0 ∷ []) (2 ∷ []) (1 ∷ [])

-- slot 2 repeats the job and lies outside its span: 23 comes first
pub twice_and_outside : judged small (255 ∷ 0 ∷ 0 ∷ []) ≡ Err (OutOfSpan 2)
unfolding judged faults_by slots_from rare_from check_from times awake_slots runs_from
twice_and_outside = refl

-- before 02, card 3, the same table was refused with 22
pub twice_before : judged_before small (255 ∷ 0 ∷ 0 ∷ []) ≡ Err (TooOften 2)
unfolding faults_by slots_from rare_from check_from times awake_slots runs_from
twice_before = refl

-- the lowest faulty slot is told, although slot 2 has both faults
pub named_twice : judged small (0 ∷ 0 ∷ 0 ∷ []) ≡ Err (TooOften 1)
unfolding judged faults_by slots_from rare_from check_from times awake_slots runs_from
named_twice = refl

pub named_outside : judged small (255 ∷ 255 ∷ 0 ∷ []) ≡ Err (OutOfSpan 2)
unfolding judged faults_by slots_from rare_from check_from times awake_slots runs_from
named_outside = refl

pub no_such_job : judged small (255 ∷ 1 ∷ 0 ∷ []) ≡ Err (BadByte 1)
unfolding judged faults_by slots_from rare_from check_from times awake_slots runs_from
no_such_job = refl

pub never_named : judged small (254 ∷ 255 ∷ 254 ∷ []) ≡ Err (TooRare 0)
unfolding judged faults_by slots_from rare_from check_from times awake_slots runs_from
never_named = refl
