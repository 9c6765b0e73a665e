-- What a reported interval is worth: no interval from a release to a deadline has less slack, and none at all that holds a job. `Overload` says what its
-- slack tells of the planner.
use Rattle.std.specs.Prelude.{ℕ, ◌≤◌, ◌<◌, ◌≡◌}
use Rattle.sched.specs.Jobs.{Jobs, count, release, deadline}
use Rattle.steps.specs.Overload.{volume_inside}
pub mod Overload

-- a job lies inside
pub record Holds (J : Jobs) (a b : ℕ) : Type 0 where
  pub job : ℕ
  pub known : job < count J
  pub from : a ≤ release J job
  pub to : deadline J job ≤ b

-- An interval that holds a job can be cut back to one from a release to a deadline with the same jobs inside: where no job has its release or deadline at an
-- end, one slot less holds the same jobs.

-- from a to b, cut back to a deadline
abbrev pub CutEnd : Jobs → ℕ → ℕ → Type 0
CutEnd J a b = (j : ℕ) × (j < count J) × (deadline J j ≤ b) × (volume_inside J a (deadline J j) ≡ volume_inside J a b) × Holds J a (deadline J j)

-- .. to a release
abbrev pub CutStart : Jobs → ℕ → ℕ → Type 0
CutStart J a b = (i : ℕ) × (i < count J) × (a ≤ release J i) × (volume_inside J (release J i) b ≡ volume_inside J a b) × Holds J (release J i) b
