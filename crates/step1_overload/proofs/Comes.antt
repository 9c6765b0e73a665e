-- An event of the pass: the next rank comes.
use Prim.Native.Nat.{ℕ, suc, ◌+◌, ◌^◌, ◌≤◌, ◌<◌}
use mathlib.Core.Path.{◌≡◌}
use mathlib.Core.Bool.{Bool}
use mathlib.Core.List.{List}
use mathlib.Core.Logic.{◌≢◌}
use native.Mathlib.Decide.{dec_lt, ℕ_discrete}
use native.Mathlib.Numerals.{add-one}
use native.Mathlib.Omega.{arith}
use lib.ListN.{get_or}
use lib.Pow.{pow_mono}
use Rattle.sched.specs.Jobs.{Jobs, count}
use Rattle.laws_edf.specs.Search.{state_of}
use Rattle.laws_edf.specs.Orders.{Sorted, rank_release}
use Rattle.laws_edf.proofs.Orders.Laws.{places_differ}
use Rattle.queue.specs.Arrivals.{comes_at, waits, Come}
use Rattle.queue.specs.Mask.{mask}
use Rattle.queue.specs.Mask.Laws.{mask_joins, mask_lt}
use Rattle.step1_overload.specs.Pass.{never, Joinable, Joined, PassAt, Turned}
use Rattle.step1_overload.proofs.Waiting.{comes_joins}
use Rattle.step1_overload.proofs.ToCome.{list_of}
use Rattle.orders.specs.declared.ordered_jobs.OrderedJobs.{OrderedJobs}
use Rattle.step1_overload.specs.declared.Pass.{Pass}

module _
    {jobs : OrderedJobs} {h q : ℕ} {start : Bool} {volumes left : List ℕ} {p : Pass} (s : PassAt (list_of jobs h q start volumes) jobs left p)
    (more : p.t < never) (now : p.coming ≤ p.t) where
  abbrev J : Jobs
  J = list_of jobs h q start volumes

  arriving : Sorted (count J) (rank_release J.releases jobs.ranks.now) jobs.arrivals.now
  arriving = jobs.orders.by_release

  some_next : p.next < count J
  some_next = go (dec_lt p.next (count J))
    where
      go : Dec (p.next < count J) → p.next < count J
      go (yes l) = l
      go (no l) = absurd (omega (arith, s.coming_is.gone (omega arith), more))

  joined : mask (waits jobs.ranks.now jobs.arrivals.now (suc p.next) 0 (state_of left)) (count J) ≡ p.waiting + 2 ^ get_or jobs.arrivals.now p.next 0
  joined =
      let once : (i : ℕ) → i < p.next → get_or jobs.arrivals.now i 0 ≢ get_or jobs.arrivals.now p.next 0 = λ i l. places_differ arriving i p.next (omega (arith, some_next)) some_next (λ e. omega arith) in
      let j = comes_joins jobs.ranks.now jobs.arrivals.now p.next (count J) (state_of left) once (s.fresh p.next (omega arith) some_next) in
      omega (arith, s.came.bits_are, mask_joins (count J) _ _ (get_or jobs.arrivals.now p.next 0) j (arriving.known p.next some_next))

  pub can_arrive : Joinable jobs p
  can_arrive =
      let few = s.passes.few in
      let wide : 2 ^ count J ≤ 2 ^ 64 = pow_mono {i = count J} {j = 64} few in
      record {
        more = some_next;
        fits = omega (arith, joined, mask_lt (waits jobs.ranks.now jobs.arrivals.now (suc p.next) 0 (state_of left)) (count J) 0);
      }

  module _ {p' : Pass} (a : Joined jobs p p') where
    came : Come jobs.releases.now jobs.ranks.now jobs.arrivals.now left p.t p'.waiting (p.next + 1) 0
    came = record {
      most = omega (arith, some_next);
      bits_are = rw (add-one p.next) (omega (arith, a.waiting_is, joined));
      by_now = λ i l. go i l (ℕ_discrete i p.next);
    }
      where
        go : (i : ℕ) → i < p.next + 1 → Dec (i ≡ p.next) → comes_at J.releases jobs.ranks.now jobs.arrivals.now i ≤ p.t
        go i l (yes q) = rw q (omega (arith, s.coming_is.here some_next))
        go i l (no q) = s.came.by_now i (omega arith)

    ahead : p.t ≤ p'.coming
    ahead = go (dec_lt p'.next (count J))
      where
        go : Dec (p'.next < count J) → p.t ≤ p'.coming
        go (yes l) =
            let rises = (arriving.rising p.next p'.next (omega (arith, a.next_is)) l).sooner in
            omega (arith, a.coming_is.here l, rises, s.ahead, s.coming_is.here some_next)
        go (no l) = omega (arith, a.coming_is.gone (omega arith), more)

    pub arrive_turn : Turned J jobs left p left p'
    arrive_turn = record {
      pass = record {
        passes = s.passes;
        long = s.long;
        came = rw (a.t_is, a.next_is) came;
        coming_is = a.coming_is;
        ahead = omega (arith, a.t_is, ahead);
        fresh = λ i l m. s.fresh i (omega (arith, a.next_is)) m;
        ran = rw (a.t_is, a.end_is) s.ran;
        small = λ l. omega (arith, a.t_is, s.small (more));
        few = s.few;
        done = λ l. absurd (omega (arith, a.t_is, more));
      };
      less = omega (arith, a.t_is, a.next_is, some_next);
    }
