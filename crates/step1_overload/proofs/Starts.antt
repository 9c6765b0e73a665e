-- The start for an end, one job further; and the jobs by falling release, one by one.
use Prim.Native.Nat.{ℕ, suc, ◌+◌, ◌-◌, ◌≤◌, ◌<◌}
use mathlib.Core.Path.{◌≡◌, sym, ap, ◌∙◌}
use mathlib.Core.List.{List, [], ◌∷◌, map, map-append, reverse, reverse-append}
use mathlib.Core.Option.{some}
use native.Mathlib.Omega.{arith}
use borrow.Author.Tests.{lt-leb, le-leb, lt-ltb, le-ltb}
use lib.ListN.{length, get_or, take}
use lib.Seq.{take-suc}
use Rattle.sched.specs.Jobs.{Jobs, release, deadline, volume}
use Rattle.laws_edf.specs.Overload.Search.{start_for}
use Rattle.laws_edf.specs.Orders.{job_at}
use Rattle.step1_overload.specs.Search.{falling}

module _ (J : Jobs) (b j : ℕ) (js : List ℕ) (sum : ℕ) where
  pub start_late : b < deadline J j → start_for J b (j ∷ js) sum ≡ start_for J b js sum
  unfolding start_for
  start_late l = rw (lt-leb (deadline J j) b l, start_for)

  pub start_found : deadline J j ≤ b → b - release J j < sum + volume J j → start_for J b (j ∷ js) sum ≡ some (release J j)
  unfolding start_for
  start_found l m = rw (le-leb (deadline J j) b l, lt-ltb (b - release J j) (sum + volume J j) m, start_for)

  pub start_next : deadline J j ≤ b → sum + volume J j ≤ b - release J j → start_for J b (j ∷ js) sum ≡ start_for J b js (sum + volume J j)
  unfolding start_for
  start_next l m = rw (le-leb (deadline J j) b l, le-ltb (b - release J j) (sum + volume J j) m, start_for)

-- the last of the first ranks by release is the next to be visited
pub next_falling :
    (ranks arrivals : List ℕ) (at : ℕ) → 0 < at → at ≤ length arrivals →
    falling ranks (take at arrivals) ≡ job_at ranks (get_or arrivals (at - 1) 0) ∷ falling ranks (take (at - 1) arrivals)
next_falling ranks arrivals at p m =
    let up : suc (at - 1) ≡ at = omega arith in
    let last = get_or arrivals (at - 1) 0 in
    ap (λ (i : ℕ). falling ranks (take i arrivals)) (sym up)
    ∙ ap (falling ranks) (take-suc arrivals (at - 1) 0 (omega arith))
    ∙ ap reverse (map-append (job_at ranks) (take (at - 1) arrivals) (last ∷ []))
    ∙ reverse-append (map (job_at ranks) (take (at - 1) arrivals)) (job_at ranks last ∷ [])
