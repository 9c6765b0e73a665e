-- A turn from event to event, for every list with these lists: each of the three events, and what the code may read on the way.
use Prim.Native.Nat.{ℕ, ◌+◌, ◌-◌, ◌^◌, ◌≤◌, ◌<◌}
use mathlib.Core.Path.{◌≡◌, sym, subst}
use mathlib.Core.Bool.{Bool}
use mathlib.Core.List.{List}
use lib.ListN.{length, get_or, set}
use lib.Count.{count_trailing_zeros}
use Rattle.sched.specs.Jobs.{Jobs}
use Rattle.laws_edf.specs.Orders.{job_at}
use Rattle.orders.specs.declared.ordered_jobs.OrderedJobs.{OrderedJobs}
use Rattle.step1_overload.specs.declared.Pass.{Pass}
use Rattle.step1_overload.specs.Pass.{Joinable, Joined, EndAfter, PassAt, Turnable, Turned, TurnDone}
use Rattle.step1_overload.proofs.ToCome.{list_of}
use Rattle.step1_overload.proofs.Comes.{can_arrive, arrive_turn}
use Rattle.step1_overload.proofs.Idles.{idle_turn}
use Rattle.step1_overload.proofs.Serves.{served_listed, served_rank, served_deadline, served_bit, part_turn, finish_turn}

-- a list with these lists is one that is made of them
same_list : (jobs : OrderedJobs) (J : Jobs) → J.releases ≡ jobs.releases.now → J.deadlines ≡ jobs.deadlines.now →
    list_of jobs J.horizon J.wake J.start J.volumes ≡ J
same_list jobs J r d =
    λ i. record { horizon = J.horizon; wake = J.wake; start = J.start; releases = sym r i; deadlines = sym d i; volumes = J.volumes }

for_each :
    {jobs : OrderedJobs} {left left' : List ℕ} {p p' : Pass} →
    ((h q : ℕ) (start : Bool) (volumes : List ℕ) → PassAt (list_of jobs h q start volumes) jobs left p →
    Turned (list_of jobs h q start volumes) jobs left p left' p') → TurnDone jobs left p left' p'
for_each {jobs = jobs} {left = left} {left' = left'} {p = p} {p' = p'} f J r d =
    subst (λ (K : Jobs). PassAt K jobs left p → Turned K jobs left p left' p') (same_list jobs J r d) (f J.horizon J.wake J.start J.volumes)

module _ {jobs : OrderedJobs} {left : List ℕ} {p : Pass} (w : Turnable jobs left p) where
  given : PassAt (list_of jobs w.J.horizon w.J.wake w.J.start w.J.volumes) jobs left p
  given = subst (λ (K : Jobs). PassAt K jobs left p) (sym (same_list jobs w.J w.releases_are w.deadlines_are)) w.pass

  pub arrivable : p.coming ≤ p.t → Joinable jobs p
  arrivable c = can_arrive given w.more c

  pub arrive_turns : p.coming ≤ p.t → {p' : Pass} → Joined jobs p p' → TurnDone jobs left p left p'
  arrive_turns c a = for_each (λ h q start volumes s. arrive_turn s w.more c a)

  pub idle_turns : p.t < p.coming → p.waiting ≡ 0 → TurnDone jobs left p left (record p { t = p.coming })
  idle_turns l z = for_each (λ h q start volumes s. idle_turn s l z)

  module _ (some_bit : p.waiting ≡ 0 → ⊥) where
    abbrev low : ℕ
    low = count_trailing_zeros 64 p.waiting

    abbrev job : ℕ
    job = job_at jobs.ranks.now (count_trailing_zeros 64 p.waiting)

    pub low_listed : low < length jobs.ranks.now
    low_listed = served_listed given w.more some_bit

    pub low_small : low < 64
    low_small = served_rank given w.more some_bit

    pub low_bit : 2 ^ low ≤ p.waiting
    low_bit = served_bit given w.more some_bit

    pub deadline_listed : job < length jobs.deadlines.now
    deadline_listed = served_deadline given w.more some_bit

    pub part_turns :
        p.t < p.coming → p.coming - p.t < get_or left job 0 →
        TurnDone jobs left p (set left job (get_or left job 0 - (p.coming - p.t))) (record p { t = p.coming })
    part_turns l m = for_each (λ h q start volumes s. part_turn s w.more some_bit l m)

    pub finish_turns :
        (cut end : ℕ) → cut ≡ 2 ^ low → p.t < p.coming → get_or left job 0 ≤ p.coming - p.t →
        EndAfter p.end (get_or jobs.deadlines.now job 0) (p.t + get_or left job 0) end →
        TurnDone jobs left p (set left job 0) (record p { t = p.t + get_or left job 0; waiting = p.waiting - cut; end = end })
    finish_turns cut end q l m a = for_each (λ h q' start volumes s. finish_turn s w.more some_bit cut end q l m a)
