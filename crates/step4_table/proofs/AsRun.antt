-- Step 4's rule does not test the deadline, the code does. Where all volume can be worked no unfinished job is past its deadline, so the two choose alike in
-- every slot.
use Prim.Native.Nat.{ℕ, ◌≤◌, ◌<◌}
use mathlib.Core.Path.{◌≡◌, refl, sym}
use mathlib.Core.Bool.{Bool, true, false, ◌&&◌}
use mathlib.Core.List.{List}
use mathlib.Core.Option.{Option, none}
use native.Mathlib.Decide.{dec_lt}
use native.Mathlib.Omega.{arith}
use borrow.Author.Tests.{ltb-false, le-ltb}
use lib.Dec.{leb, ltb}
use lib.ListN.{length}
use Rattle.sched.specs.Jobs.{Jobs, count, release, deadline, total_volume}
use Rattle.sched.specs.Checks.{Passes}
use Rattle.steps.specs.Workable.{workable}
use Rattle.steps.specs.Table.{runnable, choice, fill_by, table_of}
use Rattle.laws_edf.specs.Run.{spans, servable}
use Rattle.laws_edf.specs.Search.{state_of}
use Rattle.laws_edf.proofs.GoesOn.{goes_on_alike}
use Rattle.laws_edf.proofs.Table.{choice_earliest}
use Rattle.laws_edf.proofs.Theorems.{any_rule_same}
use Rattle.step4_table.specs.Filling.{onward}

drop_test : (a b c : Bool) → (b ≡ false → c ≡ false) → a && c ≡ a && b && c
drop_test false b c h = refl
drop_test true true c h = refl
drop_test true false c h = h refl

module _ (J : Jobs) (t : ℕ) (l : List ℕ) (in_time : (j : ℕ) → j < count J → 0 < state_of l j → t < deadline J j) where
  runnable_servable : (j : ℕ) → j < count J → runnable J t l j ≡ servable (spans J) t (state_of l) j
  runnable_servable j m =
      drop_test (leb (release J j) t) (ltb t (deadline J j)) (ltb 0 (state_of l j)) (λ q. le-ltb 0 (state_of l j) (go (ltb-false _ _ q) (dec_lt 0 (state_of l j))))
    where
      go : deadline J j ≤ t → Dec (0 < state_of l j) → state_of l j ≤ 0
      go late (yes u) = absurd (omega (arith, in_time j m u))
      go late (no n) = omega arith

  same_choice : (latest : Option ℕ) → choice J t l latest ≡ onward (spans J) t l latest
  same_choice latest = goes_on_alike (deadline J) (runnable J t l) (servable (spans J) t (state_of l)) (count J) latest runnable_servable

pub table_is_run : (J : Jobs) (S : List Bool) → Passes J → length S ≡ J.horizon → workable J S ≡ total_volume J → fill_by (onward (spans J)) 0 J.volumes none S ≡ table_of J S
unfolding table_of
table_is_run J S p long full =
    sym (any_rule_same J (choice J) (onward (spans J)) S p (choice_earliest J) (λ t l latest in_time. same_choice J t l in_time latest) long full)
