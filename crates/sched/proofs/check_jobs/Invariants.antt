-- `check_jobs` meets its contract: a turn is a clause of `check_from`.
use Rattle.sched.specs.Checks.{job_check, jobs_check, check_from}
use lib.ListN.{length}
use mathlib.Core.Path.{◌≡◌}
use Prim.Native.Nat.{◌-◌}
use Rattle.sched.proofs.check_jobs.Given as goal

abbrev pub invariant-loop-j : goal.invariant-loop-j
invariant-loop-j l = jobs_check job_check l.h l.releases l.deadlines l.volumes ≡ check_from job_check (length l.releases - l.j) l.j l.h l.releases l.deadlines l.volumes
