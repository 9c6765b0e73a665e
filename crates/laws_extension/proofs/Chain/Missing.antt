-- What is kept tells the set and how much volume is missing.
use Rattle.std.specs.Prelude.{ℕ, ◌+◌, ◌≤◌, ◌≡◌, refl, Bool, true, false, not, List, eqb, length, get_or}
use Rattle.std.proofs.Common.{ap, sym, ◌∙◌, arith, ne_eqb, ext_get_or}
use Rattle.std.proofs.Math.Option.{Option, none, some}
use Rattle.sched.specs.Bounded.{sum_below}
use Rattle.sched.proofs.Bounded.Laws.{sum_ext}
use Rattle.sched.specs.Jobs.{Jobs, count, total_volume}
use Rattle.sched.specs.Checks.{Passes}
use Rattle.sched.specs.Slots.{awake, awake_of, asleep}
use Rattle.sched.proofs.Slots.Laws.{awake_of_length, awake_of_lem}
use Rattle.steps.specs.Workable.{workable}
use Rattle.laws_edf.specs.Run.{Spans, State, spans, slot_byte}
use Rattle.laws_edf.specs.Pick.{View, view}
use Rattle.laws_edf.proofs.Whole.{served_and_lost}
use Rattle.laws_edf.proofs.Theorems.{workable_is_edf}
use Rattle.laws_extension.specs.Chain.{Kept}
use Rattle.laws_extension.specs.Chain.Keeping.{left_of, served_by, run_bytes, run_long, run_byte, kept_loses}

byte_awake : (F : Spans) → F.n ≤ 254 → (b : Bool) (t : ℕ) (L : State) (o : Option ℕ) → View F b t L o → not (eqb (slot_byte b o) asleep) ≡ b
byte_awake F few false t L o v = refl
byte_awake F few true t L none v = refl
byte_awake F few true t L (some k) v = rw (ne_eqb k asleep (λ e. omega (arith, v.1.able.below)))

module _ {J : Jobs} {S : List Bool} (passes : Passes J) (long : length S ≡ J.horizon) where
  -- The table tells the set.
  pub kept_set : {table : List ℕ} → table ≡ run_bytes J (awake S) → awake_of table ≡ S
  kept_set {table} is =
      ext_get_or false (awake_of table) S (awake_of_length table ∙ run_long J S is ∙ sym long)
      (λ t l.
      awake_of_lem table t (omega (arith, awake_of_length table))
      ∙ ap (λ (b : ℕ). not (eqb b asleep)) (run_byte J S is t (omega (arith, awake_of_length table, run_long J S is)))
      ∙ byte_awake (spans J) (omega (arith, passes.few)) (awake S t) t (left_of J (awake S) t) (served_by J (awake S) t)
      (view (spans J) (awake S t) t (left_of J (awake S) t)))

  -- The units lost are those by which the workable volume falls short.
  pub kept_volume : {table lost ends : List ℕ} → Kept J S table lost ends → workable J S + sum_below (count J) (λ j. get_or lost j 0) ≡ total_volume J
  kept_volume {table} {lost} kept =
      omega (
        arith,
        workable_is_edf J S long,
        served_and_lost J passes.same_volumes S,
        sum_ext (count J) (λ j. get_or lost j 0) (left_of J (awake S) J.horizon) (kept_loses kept),
      )
