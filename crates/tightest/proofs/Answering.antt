-- The answer of `find` in each case, from what the checks said; for every wake cost and every state before slot 0.
use Rattle.std.specs.Prelude.{Err, Ok, Result}
use Prim.Native.Nat.{ℕ}
use mathlib.Core.Path.{◌≡◌, refl}
use mathlib.Core.Bool.{Bool, false}
use mathlib.Core.List.{List}
use lib.ListN.{length}
use Rattle.sched.specs.Jobs.{Jobs, jobs_from}
use Rattle.sched.specs.Checks.{list_check}
use Rattle.sched.proofs.Checks.Laws.{passed_passes}
use Rattle.sched.specs.declared.Refusal.{Refusal}
use Rattle.orders.specs.Lists.{ListsOf}
use Rattle.tightest.specs.declared.Tight.{Tight}
use Rattle.tightest.specs.Slack.{IsTightest}
use Rattle.tightest.specs.Answer.{no_jobs_check, TightnessPromise}
use Rattle.tightest.proofs.Answer.Laws.{some_good, list_refused, jobs_refused, tightest_reported}
use Rattle.tightest.specs.Search.{Listed}

module _ (h : ℕ) (releases deadlines volumes : List ℕ) where
  -- the promise of `find`
  abbrev pub Reports : Result Tight Refusal → Type 0
  Reports r = (q : ℕ) (start : Bool) → TightnessPromise (jobs_from h q start releases deadlines volumes) r

  pub refuse_list : (r : Refusal) → list_check h releases deadlines volumes ≡ Err r → Reports (Err r)
  refuse_list r e q start = list_refused (jobs_from h q start releases deadlines volumes) r e

  module _ (e : list_check h releases deadlines volumes ≡ Ok tt) where
    lists_of : (q : ℕ) (start : Bool) → ListsOf (jobs_from h q start releases deadlines volumes) releases deadlines volumes
    lists_of q start =
        record { passes = passed_passes (jobs_from h q start releases deadlines volumes) e; releases_are = refl; deadlines_are = refl; volumes_are = refl }

    pub refuse_empty : (r : Refusal) → no_jobs_check (length releases) ≡ Err r → Reports (Err r)
    refuse_empty r f q start = jobs_refused (jobs_from h q start releases deadlines volumes) r e f

    module _ (f : no_jobs_check (length releases) ≡ Ok tt) where
      pub searchable : Listed releases deadlines volumes
      searchable = record { J = jobs_from h 0 false releases deadlines volumes; lists = lists_of 0 false; some = some_good (length releases) f }

      pub report_found : (x : Tight) → ((J : Jobs) → ListsOf J releases deadlines volumes → IsTightest J x) → Reports (Ok x)
      report_found x t q start =
          let J = jobs_from h q start releases deadlines volumes in
          tightest_reported J (lists_of q start).passes (some_good (length releases) f) x (t J (lists_of q start))
