-- One turn of the chain: a rank that does not reach the slot, one that gains a lost unit, one that hands on its last slot.
use Rattle.std.specs.Prelude.{ℕ, suc, ◌-◌, ◌≤◌, ◌<◌, ◌≡◌, true, false, List, leb, ltb, get_or, set}
use Rattle.std.proofs.Math.Bool.{and-false}
use Rattle.std.proofs.Common.{arith}
use borrow.Author.Tests.{leb-true, ltb-true, le-leb, lt-leb, lt-ltb, le-ltb}
use Rattle.sched.proofs.Bounded.Laws.{and_true}
use Rattle.laws_edf.specs.Orders.{job_at}
use Rattle.laws_extension.specs.Chain.{reaches, gained_at, handed_on, tried}

-- The test, read as facts

module _ (releases reach : List ℕ) (t k : ℕ) where
  pub reaches_not_yet : t < get_or releases k 0 → reaches releases reach t k ≡ false
  reaches_not_yet l = rw (lt-leb (get_or releases k 0) t l)

  pub reaches_no_more : get_or reach k 0 ≤ t → reaches releases reach t k ≡ false
  reaches_no_more l = rw (le-ltb t (get_or reach k 0) l) (and-false (leb (get_or releases k 0) t))

  pub reaches_if : get_or releases k 0 ≤ t → t < get_or reach k 0 → reaches releases reach t k ≡ true
  reaches_if l m = rw (le-leb (get_or releases k 0) t l, lt-ltb t (get_or reach k 0) m)

  pub reaching : reaches releases reach t k ≡ true → (get_or releases k 0 ≤ t) × (t < get_or reach k 0)
  reaching e =
      let (a, b) = and_true (leb (get_or releases k 0) t) (ltb t (get_or reach k 0)) e in
      (leb-true (get_or releases k 0) t a, ltb-true t (get_or reach k 0) b)

-- The turns

module _ (releases ranks table lost reach ends : List ℕ) (m k t : ℕ) where
  pub tried_closed : reaches releases reach t k ≡ false →
      tried releases ranks (suc m) k t table lost reach ends ≡ tried releases ranks m (suc k) t table lost reach ends
  unfolding tried
  tried_closed e = rw (e, tried)

  pub tried_lost : reaches releases reach t k ≡ true → 0 < get_or lost k 0 →
      tried releases ranks (suc m) k t table lost reach ends ≡ record { helped = true; books = gained_at ranks k t table lost reach ends }
  unfolding tried
  tried_lost e l = rw (e, lt-ltb 0 (get_or lost k 0) l, tried)

  pub tried_on : reaches releases reach t k ≡ true → get_or lost k 0 ≡ 0 →
      tried releases ranks (suc m) k t table lost reach ends
      ≡ tried releases ranks m (suc k) (get_or reach k 0 - 1) (set table t (job_at ranks k)) lost (handed_on ranks k t table reach) ends
  unfolding tried
  tried_on e z = rw (e, le-ltb 0 (get_or lost k 0) (omega arith), tried)
