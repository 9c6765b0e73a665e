-- 01, "Words of the plan", first paragraph: a list is a horizon H, a wake cost q, and jobs numbered from 0, each with release, deadline
-- and volume. The three lists of fields are kept apart, as they are lent; `Checks` says which of them belong together. The start, the state before
-- slot 0 (02, card 10), is a part of the list: true is awake. What is proved of energy, skeletons and the steps holds for either.
use Rattle.std.specs.Prelude.{ℕ, Bool, false, List, length, get_or}
use Rattle.sched.specs.Bounded.{total}

pub record Jobs : Type 0 where
  pub horizon : ℕ
  pub wake : ℕ
  pub start : Bool
  pub releases : List ℕ
  pub deadlines : List ℕ
  pub volumes : List ℕ

-- the list of these parts
abbrev pub jobs_from : ℕ → ℕ → Bool → List ℕ → List ℕ → List ℕ → Jobs
jobs_from h q start rs ds ps = record { horizon = h; wake = q; start = start; releases = rs; deadlines = ds; volumes = ps }

-- the same from a start asleep, as 01 has it: "Before slot 0 the processor sleeps."
abbrev pub jobs_of : ℕ → ℕ → List ℕ → List ℕ → List ℕ → Jobs
jobs_of h q rs ds ps = jobs_from h q false rs ds ps

abbrev pub count : Jobs → ℕ
count J = length J.releases

abbrev pub release : Jobs → ℕ → ℕ
release J j = get_or J.releases j 0

abbrev pub deadline : Jobs → ℕ → ℕ
deadline J j = get_or J.deadlines j 0

abbrev pub volume : Jobs → ℕ → ℕ
volume J j = get_or J.volumes j 0

-- "the sum of volumes"
abbrev pub total_volume : Jobs → ℕ
total_volume J = total J.volumes
