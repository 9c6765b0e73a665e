-- 01, "Words of the plan", second paragraph: when a list passes the list checks; and "Refused, and where" with 02's card 1: the order in
-- which planner, judge, list writer and the search for the tightest interval find a fault, 12 for H, 19, 12 for the count, then 25, 15 or 26 for
-- the lowest faulty job. The checks of H, of a length and of a table's bytes stand by themselves, because others make them too.
use Rattle.std.specs.Prelude.{ℕ, zero, suc, ◌≤◌, ◌<◌, ◌≡◌, Bool, true, false, not, ◌&&◌, List, [], ◌∷◌, length, get_or, leb, ltb, eqb, Err, Ok}
use Rattle.sched.specs.Jobs.{Jobs, count, release, deadline, volume}
use Rattle.sched.specs.Refusals.{number, place, Checked}
use Rattle.sched.specs.declared.Refusal.{Refusal}
use Rattle.sched.specs.declared.Refusal.TheVariants.{OutOfRange, EmptySpan, TooShort, Unequal, BadByte, PastHorizon, NoVolume}

-- "each job has r < d, d ≤ H and p of at least 1"
pub record GoodJob (h r d p : ℕ) : Type 0 where
  pub span : r < d
  pub within : d ≤ h
  pub some : 1 ≤ p

-- "A list passes the list checks if .."
pub record Passes (J : Jobs) : Type 0 where
  pub low : 1 ≤ J.horizon
  pub high : J.horizon ≤ 4096
  pub same_deadlines : length J.deadlines ≡ count J
  pub same_volumes : length J.volumes ≡ count J
  pub few : count J ≤ 64
  pub good : (j : ℕ) → j < count J → GoodJob J.horizon (release J j) (deadline J j) (volume J j)

-- a refusal if the test holds, else the rest of the checks
abbrev pub refuse_if : Bool → Refusal → Checked → Checked
refuse_if true r c = Err r
refuse_if false r c = c

-- the first check that fails, or the rest
abbrev pub and_then : Checked → Checked → Checked
and_then (Ok tt) c = c
and_then (Err r) c = Err r

-- 12: "H outside 1 to 4,096 (place 0)"
abbrev pub horizon_check : ℕ → Checked
horizon_check h = refuse_if (eqb h 0) (OutOfRange 0) (refuse_if (ltb 4096 h) (OutOfRange 0) (Ok tt))

-- 17: "a lent buffer or list is too short"
abbrev pub length_check : ℕ → ℕ → Checked
length_check have need = refuse_if (ltb have need) (TooShort need) (Ok tt)

-- 12 for H and 17 for a table that comes without a list
abbrev pub table_check : ℕ → ℕ → Checked
table_check h have = and_then (horizon_check h) (length_check have h)

-- a check of a byte, from its place and its value
abbrev pub ByteCheck : Type 0
ByteCheck = ℕ → ℕ → Checked

-- the k bytes from place t on, each by the same check
unfoldable pub bytes_by : ByteCheck → ℕ → ℕ → List ℕ → Checked
bytes_by check zero t bytes = Ok tt
bytes_by check (suc k) t bytes = and_then (check t (get_or bytes t 0)) (bytes_by check k (suc t) bytes)

-- 21, "here only 64 to 253": a byte that means nothing in any table
abbrev pub byte_check : ByteCheck
byte_check t byte = refuse_if (leb 64 byte && leb byte 253) (BadByte t) (Ok tt)

-- 21 for the k slots from slot t on
abbrev pub bytes_from : ℕ → ℕ → List ℕ → Checked
bytes_from = bytes_by byte_check

-- 12, 17, then 21 for the first H slots of such a table
abbrev pub slots_check : ℕ → List ℕ → Checked
slots_check h table = and_then (table_check h (length table)) (bytes_from h 0 table)

-- a check of a job, from the horizon, the job's number, release, deadline and volume
abbrev pub JobCheck : Type 0
JobCheck = ℕ → ℕ → ℕ → ℕ → ℕ → Checked

-- "25, the deadline is above H"; 15, "a release that is not before the deadline"; "26, the volume is 0"; "the place is still the job number"
abbrev pub job_check : JobCheck
job_check h j r d p =
    refuse_if (ltb h d) (PastHorizon j)
    (refuse_if (leb d r) (EmptySpan j)
    (refuse_if (eqb p 0) (NoVolume j) (Ok tt)))

-- the k jobs from number j on, each by the same check
unfoldable pub check_from : JobCheck → ℕ → ℕ → ℕ → List ℕ → List ℕ → List ℕ → Checked
check_from check zero j h rs ds ps = Ok tt
check_from check (suc k) j h rs ds ps =
    and_then (check h j (get_or rs j 0) (get_or ds j 0) (get_or ps j 0)) (check_from check k (suc j) h rs ds ps)

-- the lowest faulty job, by a check of jobs
abbrev pub jobs_check : JobCheck → ℕ → List ℕ → List ℕ → List ℕ → Checked
jobs_check check h rs ds ps = check_from check (length rs) 0 h rs ds ps

-- 12: "more than 64 jobs (place 4)"
abbrev pub count_check : ℕ → Checked
count_check n = refuse_if (ltb 64 n) (OutOfRange 4) (Ok tt)

-- the three lengths, the count, the jobs
abbrev pub lists_check : JobCheck → ℕ → List ℕ → List ℕ → List ℕ → Checked
lists_check check h rs ds ps =
    refuse_if (not (eqb (length ds) (length rs))) (Unequal 0)
    (refuse_if (not (eqb (length ps) (length rs))) (Unequal 0)
    (and_then (count_check (length rs)) (jobs_check check h rs ds ps)))

-- behind 12 for H
abbrev pub list_check_by : JobCheck → ℕ → List ℕ → List ℕ → List ℕ → Checked
list_check_by check h rs ds ps = and_then (horizon_check h) (lists_check check h rs ds ps)

abbrev pub list_check : ℕ → List ℕ → List ℕ → List ℕ → Checked
list_check = list_check_by job_check

-- the same of a list, as planner, judge and others are lent it
abbrev pub check_of : Jobs → Checked
check_of J = list_check J.horizon J.releases J.deadlines J.volumes

-- a refusal has 01's number with its place; that a check which passes has the number 0, with no value, is ours
abbrev pub checked_number : Checked → ℕ
checked_number (Ok tt) = 0
checked_number (Err r) = number r

abbrev pub checked_values : Checked → List ℕ
checked_values (Ok tt) = []
checked_values (Err r) = place r ∷ []

-- the promise of a check: the number and the values that come back are those of the definition, and so is the case
pub record CheckPromise (wanted answer : Checked) : Type 0 where
  pub number : checked_number answer ≡ checked_number wanted
  pub values : checked_values answer ≡ checked_values wanted
  pub same : answer ≡ wanted
