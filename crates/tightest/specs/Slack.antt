-- 02, card 7: intervals from a release to a deadline, their slack, and the tightest of them.
use Rattle.std.specs.Prelude.{ℕ, zero, suc, ◌≤◌, ◌<◌, ◌≡◌, Bool, true, false, ◌&&◌, ◌||◌, leb, ltb, ℤ, pos, ◌-ℤ◌, ◌≤ℤ◌}
use Rattle.std.specs.Int.Signed.{lt_z, le_z}
use Rattle.sched.specs.Jobs.{Jobs, count, release, deadline}
use Rattle.steps.specs.Overload.{volume_inside}
use Rattle.tightest.specs.declared.Tight.{Tight}

-- "Its slack is b−a less the volume of the jobs inside, a signed number."
unfoldable pub slack_of : Jobs → ℕ → ℕ → ℤ
slack_of J a b = (pos b -ℤ pos a) -ℤ pos (volume_inside J a b)

-- the interval from a to b, with its slack
abbrev pub gauged : Jobs → ℕ → ℕ → Tight
gauged J a b = record { slack = slack_of J a b; a = a; b = b }

-- x is reported rather than y: "the least slack ..; on equal slack the least b, then the greatest a"
unfoldable pub tighter : Tight → Tight → Bool
tighter x y =
    lt_z x.slack y.slack
    || (le_z x.slack y.slack && (ltb x.b y.b || (leb x.b y.b && ltb y.a x.a)))

-- the best so far and, if a < b, the interval from a to b: which of them is reported
unfoldable pub try_pair : Jobs → Tight → ℕ → ℕ → Tight
try_pair J best a b = elim (ltb a b && tighter (gauged J a b) best) [ true ↦ gauged J a b | false ↦ best ]

-- "from some job's release a": from the releases of the first k jobs to the deadline of job j
unfoldable pub try_starts : Jobs → Tight → ℕ → ℕ → Tight
try_starts J best zero j = best
try_starts J best (suc k) j = try_pair J (try_starts J best k j) (release J k) (deadline J j)

-- "to some job's deadline b": from every release to the deadlines of the first k jobs
unfoldable pub try_ends : Jobs → Tight → ℕ → Tight
try_ends J best zero = best
try_ends J best (suc k) = try_starts J (try_ends J best k) (count J) k

-- every pair of jobs is tried; the first job's own interval, which is one of them, to begin with
unfoldable pub tightest_of : Jobs → Tight
tightest_of J = try_ends J (gauged J (release J 0) (deadline J 0)) (count J)

-- The same in words, for promises to name

-- "from some job's release a to some job's deadline b with a < b"
pub record ReleaseToDeadline (J : Jobs) (a b : ℕ) : Type 0 where
  pub released : (i : ℕ) × (i < count J) × (release J i ≡ a)
  pub due : (j : ℕ) × (j < count J) × (deadline J j ≡ b)
  pub ahead : a < b

-- x is such an interval with its slack, none has less, of those with as much none ends earlier, and of those with as much that end with it none
-- begins later; not always the overloaded interval that is shown, which ends first
pub record IsTightest (J : Jobs) (x : Tight) : Type 0 where
  pub spans : ReleaseToDeadline J x.a x.b
  pub slack_is : x.slack ≡ slack_of J x.a x.b
  pub least : (a b : ℕ) → ReleaseToDeadline J a b → x.slack ≤ℤ slack_of J a b
  pub least_end : (a b : ℕ) → ReleaseToDeadline J a b → slack_of J a b ≡ x.slack → x.b ≤ b
  pub greatest_start : (a : ℕ) → ReleaseToDeadline J a x.b → slack_of J a x.b ≡ x.slack → a ≤ x.a

-- x is an interval from a release to a deadline, with its slack
pub record Gauged (J : Jobs) (x : Tight) : Type 0 where
  pub spans : ReleaseToDeadline J x.a x.b
  pub slack_is : x.slack ≡ slack_of J x.a x.b

-- y is not reported rather than x
pub record AsGood (x y : Tight) : Type 0 where
  pub slack : x.slack ≤ℤ y.slack
  pub end : y.slack ≡ x.slack → x.b ≤ y.b
  pub start : y.slack ≡ x.slack → y.b ≡ x.b → y.a ≤ x.a
