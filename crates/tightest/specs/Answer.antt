-- 02, card 7: the answer for every list, and the number and values of each case.
use Rattle.std.specs.Prelude.{ℕ, ◌≡◌, List, [], ◌∷◌, eqb, ℤ, pos, Err, Ok, Result}
use Rattle.sched.specs.Jobs.{Jobs, count}
use Rattle.sched.specs.Refusals.{number, place, Checked}
use Rattle.sched.specs.Checks.{refuse_if, and_then, check_of}
use Rattle.sched.specs.declared.Refusal.TheVariants.{NoJobs}
use Rattle.tightest.specs.declared.Tight.{Tight}
use Rattle.tightest.specs.Slack.{tightest_of, IsTightest}
use Rattle.sched.specs.declared.Refusal.{Refusal}

-- "34, place 0, the list has no jobs."
abbrev pub no_jobs_check : ℕ → Checked
no_jobs_check n = refuse_if (eqb n 0) (NoJobs 0) (Ok tt)

-- "It comes after 15 and its finer kin.": behind all list checks; a list without jobs can have 12 for H or 19, and has no faulty job
abbrev pub tightness_check : Jobs → Checked
tightness_check J = and_then (check_of J) (no_jobs_check (count J))

-- where no check fails, the tightest interval is told
abbrev pub tells : Checked → Tight → Result Tight Refusal
tells (Ok tt) x = Ok x
tells (Err r) x = Err r

unfoldable pub tightness : Jobs → Result Tight Refusal
tightness J = tells (tightness_check J) (tightest_of J)

-- a refusal has 01's and 02's number with its place, an interval its slack, a and b; that an interval has the number 0 is ours
abbrev pub tightness_number : Result Tight Refusal → ℕ
tightness_number (Ok x) = 0
tightness_number (Err r) = number r

abbrev pub tightness_values : Result Tight Refusal → List ℤ
tightness_values (Ok x) = x.slack ∷ pos x.a ∷ pos x.b ∷ []
tightness_values (Err r) = pos (place r) ∷ []

-- the promise: the number and the values that come back are those of the definition, and so is the case; and an interval that comes back is the tightest
pub record TightnessPromise (J : Jobs) (answer : Result Tight Refusal) : Type 0 where
  pub number : tightness_number answer ≡ tightness_number (tightness J)
  pub values : tightness_values answer ≡ tightness_values (tightness J)
  pub same : answer ≡ tightness J
  pub tightest : (x : Tight) → answer ≡ Ok x → IsTightest J x
