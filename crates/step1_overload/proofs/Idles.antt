-- An event of the pass: no rank waits, and the slots until the next one comes stay idle.
use Prim.Native.Nat.{ℕ, ◌≤◌, ◌<◌}
use mathlib.Core.Path.{◌≡◌}
use mathlib.Core.Bool.{Bool, false}
use mathlib.Core.List.{List}
use mathlib.Core.Logic.{◌⊎◌, inl, inr}
use native.Mathlib.Decide.{dec_lt, ℕ_discrete}
use native.Mathlib.Omega.{arith}
use lib.ListN.{get_or}
use Rattle.sched.proofs.Bounded.Laws.{sum_mono, true_not_false}
use Rattle.sched.specs.Jobs.{Jobs, count, release, volume}
use Rattle.laws_edf.specs.Search.{state_of}
use Rattle.laws_edf.proofs.Overload.Late.Laws.{ran_idle}
use Rattle.queue.specs.Arrivals.{waits}
use Rattle.step1_overload.specs.Pass.{never, PassAt, Turned}
use Rattle.step1_overload.proofs.Waiting.{no_bit}
use Rattle.step1_overload.proofs.ToCome.{list_of, Waits, still}
use Rattle.orders.specs.declared.ordered_jobs.OrderedJobs.{OrderedJobs}
use Rattle.step1_overload.specs.declared.Pass.{Pass}

module _
    {jobs : OrderedJobs} {h q : ℕ} {start : Bool} {volumes left : List ℕ} {p : Pass} (s : PassAt (list_of jobs h q start volumes) jobs left p)
    (later : p.t < p.coming) (empty : p.waiting ≡ 0) where
  abbrev J : Jobs
  J = list_of jobs h q start volumes

  idle : (j : ℕ) → j < count J → 0 < get_or left j 0 → p.coming ≤ release J j
  idle j l u = go (still s j l u)
    where
      none_waits : (i : ℕ) → i < count J → waits jobs.ranks.now jobs.arrivals.now p.next 0 (state_of left) i ≡ false
      none_waits = no_bit (waits jobs.ranks.now jobs.arrivals.now p.next 0 (state_of left)) (count J) p.waiting s.passes.few s.came.bits_are empty

      go : Waits J jobs left p.next j ⊎ (p.coming ≤ release J j) → p.coming ≤ release J j
      go (inl h) = true_not_false (waits jobs.ranks.now jobs.arrivals.now p.next 0 (state_of left) h.rank) h.now (none_waits h.rank h.below)
      go (inr h) = h

  some_comes : p.coming < never → p.coming ≤ J.horizon
  some_comes l = go (dec_lt p.next (count J))
    where
      go : Dec (p.next < count J) → p.coming ≤ J.horizon
      go (yes m) =
          let j = jobs.orders.by_deadline.known _ (jobs.orders.by_release.known p.next m) in
          let g = s.passes.good _ j in
          omega (arith, s.coming_is.here m, g.span, g.within)
      go (no m) = absurd (omega (arith, s.coming_is.gone (omega arith)))

  nothing_left : never ≤ p.coming → (j : ℕ) → j < count J → get_or left j 0 ≡ 0
  nothing_left l j m = go (ℕ_discrete (get_or left j 0) 0)
    where
      go : Dec (get_or left j 0 ≡ 0) → get_or left j 0 ≡ 0
      go (yes z) = z
      go (no z) =
          let g = s.passes.good j m in
          absurd (omega (arith, idle j m (omega arith), g.span, g.within, s.passes.high))

  pub idle_turn : Turned J jobs left p left (record p { t = p.coming })
  idle_turn = record {
    pass = record {
      passes = s.passes;
      long = s.long;
      came = record {
        most = s.came.most;
        bits_are = s.came.bits_are;
        by_now = λ i l. omega (arith, s.came.by_now i l);
      };
      coming_is = s.coming_is;
      ahead = omega arith;
      fresh = s.fresh;
      ran = ran_idle J (state_of left) p.t p.coming p.end (omega arith) idle s.ran;
      small = λ l. omega (arith, some_comes l, sum_mono (count J) (state_of left) (volume J) s.ran.kept);
      few = s.few;
      done = nothing_left;
    };
    less = omega arith;
  }
