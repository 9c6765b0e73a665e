-- The walk over the jobs of a list: a job that passes, a job that does not, and the end. `all` is what the whole walk gives.
use Rattle.std.specs.Prelude.{Err, Ok}
use Prim.Native.Nat.{ℕ, suc, ◌+◌, ◌-◌, ◌≤◌, ◌<◌}
use mathlib.Core.Path.{◌≡◌, ap, ◌∙◌, sym}
use mathlib.Core.List.{List}
use native.Mathlib.Numerals.{add-one}
use native.Mathlib.Omega.{arith}
use lib.ListN.{get_or}
use Rattle.sched.specs.Checks.{job_check, check_from, and_then}
use Rattle.sched.specs.declared.Refusal.{Refusal}
use Rattle.sched.specs.Refusals.{Checked}

module _ (h : ℕ) (rs ds ps : List ℕ) (all : Checked) where
  check_turn : (n j : ℕ) → j < n → check_from job_check (n - j) j h rs ds ps ≡ and_then (job_check h j (get_or rs j 0) (get_or ds j 0) (get_or ps j 0)) (check_from job_check (n - (j + 1)) (j + 1) h rs ds ps)
  unfolding check_from
  check_turn n j l = let e : n - j ≡ suc (n - (j + 1)) = omega arith in rw (e, ← add-one j)

  pub check_next : (n j : ℕ) → j < n → job_check h j (get_or rs j 0) (get_or ds j 0) (get_or ps j 0) ≡ Ok tt → all ≡ check_from job_check (n - j) j h rs ds ps → all ≡ check_from job_check (n - (j + 1)) (j + 1) h rs ds ps
  check_next n j l p e = e ∙ check_turn n j l ∙ ap (λ (c : Checked). and_then c (check_from job_check (n - (j + 1)) (j + 1) h rs ds ps)) p

  pub check_stop : (n j : ℕ) (r : Refusal) → j < n → job_check h j (get_or rs j 0) (get_or ds j 0) (get_or ps j 0) ≡ Err r → all ≡ check_from job_check (n - j) j h rs ds ps → Err r ≡ all
  check_stop n j r l p e =
      sym (e ∙ check_turn n j l ∙ ap (λ (c : Checked). and_then c (check_from job_check (n - (j + 1)) (j + 1) h rs ds ps)) p)

  pub check_end : (n j : ℕ) → n ≤ j → all ≡ check_from job_check (n - j) j h rs ds ps → (Ok tt) ≡ all
  unfolding check_from
  check_end n j l e = let z : n - j ≡ 0 = omega arith in sym (rw z at e)
