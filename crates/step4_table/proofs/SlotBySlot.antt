-- One slot of step 4, and all of them.
use Prim.Native.Nat.{ℕ, suc, ◌+◌, ◌≤◌, ◌<◌}
use mathlib.Core.Path.{◌≡◌, refl, sym, ap, ap₂, subst, ◌∙◌}
use mathlib.Core.Bool.{Bool, true, false}
use mathlib.Core.List.{List, [], ◌∷◌, ◌++◌, append-nil}
use mathlib.Core.Option.{Option, none, some}
use native.Mathlib.Omega.{arith}
use native.Mathlib.Numerals.{add-one}
use borrow.Author.Tests.{ne_eqb}
use lib.ListN.{length, get_or, set, take, drop, length-set, drop_of_length-le}
use lib.Seq.{get_or-set_other, take-suc-set, take_all, append_snoc, drop-cons}
use Rattle.sched.specs.Jobs.{Jobs}
use Rattle.sched.specs.Slots.{asleep, idle, wakeful, awake_of}
use Rattle.sched.proofs.Slots.Laws.{awake_of_length}
use Rattle.steps.specs.Table.{going_on, run_byte, serve, latest_of, fill_by}
use Rattle.laws_edf.specs.Run.{Spans, State, spans, servable, after, slot_byte}
use Rattle.laws_edf.specs.Search.{state_of, state_lowered}
use Rattle.laws_edf.specs.Orders.{Sorted, job_at}
use Rattle.orders.specs.Lists.{ListsOf}
use Rattle.orders.specs.declared.ordered_jobs.OrderedJobs.{OrderedJobs}
use Rattle.queue.specs.declared.Ready.{Ready}
use Rattle.step4_table.specs.declared.Running.{Running}
use Rattle.queue.specs.Mask.{mask}
use Rattle.queue.specs.Ranks.{spans_of, serves_rank}
use Rattle.queue.specs.Serving.{CanServe, Serves, Waits, After}
use Rattle.queue.specs.Serving.Laws.{none_after, can_serve, rank_after}
use Rattle.queue.specs.Arrivals.{ReadyAt}
use Rattle.queue.specs.Runs.{Lookable, Looked, Units}
use Rattle.queue.specs.Runs.Waiting.{looked_bits, ready_after}
use Rattle.step4_table.specs.Filling.{onward, Fills}
use Rattle.step4_table.specs.Going.{going_rank, CanGo, Stands, ran, SlotFilled}
use Rattle.step4_table.proofs.GoingRank.{set_waits, going_takes, lowest_below, none_goes}
use Rattle.step4_table.proofs.AsRun.{table_is_run}
use Rattle.step4_table.proofs.Behind.{idle_behind}

module _ {jobs : OrderedJobs} {left : List ℕ} {t : ℕ} {last fresh : Ready} (g : Lookable jobs left t last) (k : Looked jobs left t fresh) (latest : ℕ) where
  abbrev releases : List ℕ
  releases = jobs.releases.now

  abbrev deadlines : List ℕ
  deadlines = jobs.deadlines.now

  abbrev ranks : List ℕ
  ranks = jobs.ranks.now

  abbrev bits : ℕ
  bits = fresh.mask

  abbrev F : Spans
  F = spans_of releases deadlines

  sorted : Sorted (length releases) (λ j. get_or deadlines j 0) ranks
  sorted = jobs.orders.by_deadline

  few : length releases ≤ 64
  few = jobs.few

  room : length releases ≤ length left
  room = g.room

  are : bits ≡ mask (serves_rank (spans_of releases deadlines) ranks t (state_of left)) (length releases)
  are = looked_bits g k

  pub slot_can_go : (job : Option ℕ) → Stands (length releases) ranks latest job → (bits ≡ 0 → ⊥) → CanGo jobs bits latest
  slot_can_go job s some_wait =
      record {
        small = below job s;
        lowest_known = lowest_below releases deadlines ranks left sorted few room t bits are latest some_wait;
        latest_known = λ on. (set_waits releases deadlines ranks left sorted few room t bits are latest on).below;
      }
    where
      below : (o : Option ℕ) → Stands (length releases) ranks latest o → latest < 64
      below none e = omega (arith, e)
      below (some j) e = omega (arith, e.0, few)

  pub slot_can_serve : (job : Option ℕ) → Stands (length releases) ranks latest job → (bits ≡ 0 → ⊥) → (r : ℕ) → r ≡ going_rank deadlines ranks bits latest → CanServe r bits ranks left
  slot_can_serve job s some_wait r e =
      let waits = (going_takes releases deadlines ranks left sorted few room t bits are latest job s some_wait).0 in
      subst (λ (x : ℕ). CanServe x bits ranks left) (sym e) (can_serve F ranks left sorted few room t bits are (going_rank deadlines ranks bits latest) waits)

  -- an awake slot in which a job has run, or none
  filled : (table : List ℕ) (job : Option ℕ) (byte bits' : ℕ) (left' : List ℕ) (latest' : ℕ) → (get_or table t 0 ≡ asleep → ⊥) →
      After F ranks t left (onward F t left job) byte bits' left' → length left' ≡ length left →
      Stands (length releases) ranks latest' (latest_of (onward F t left job) job) →
      SlotFilled jobs left table t job left' (set table t byte) (record { ready = record fresh { mask = bits' }; latest = latest' })
  filled table job byte bits' left' latest' n a long s =
      let on : wakeful (get_or table t 0) ≡ true = rw (ne_eqb (get_or table t 0) asleep n) in
      record {
        table_is = rw on (ap (set table t) a.byte_is);
        left_is = rw on a.left_is;
        left_long = long;
        ready = ready_after g k (onward F t left job) byte bits' left' a;
        stands = rw on s;
      }

  pub slot_idles : (table : List ℕ) (job : Option ℕ) → (get_or table t 0 ≡ asleep → ⊥) → Stands (length releases) ranks latest job → bits ≡ 0 →
      SlotFilled jobs left table t job left (set table t idle) (record { ready = fresh; latest = latest })
  slot_idles table job n s z =
      let nobody = none_goes releases deadlines ranks left sorted few room t bits are latest job z in
      filled table job idle bits left latest n
      (rw nobody (subst (λ (x : ℕ). After F ranks t left none idle x left) (sym z) (none_after F ranks left sorted few room t bits are z))) refl
      (subst (λ (o : Option ℕ). Stands (length releases) ranks latest (latest_of o job)) (sym nobody) s)

  pub slot_runs : (table : List ℕ) (job : Option ℕ) (r byte bits' : ℕ) (left' : List ℕ) → (get_or table t 0 ≡ asleep → ⊥) → Stands (length releases) ranks latest job → (bits ≡ 0 → ⊥) →
      r ≡ going_rank deadlines ranks bits latest → Serves r bits ranks left byte bits' left' → length left' ≡ length left →
      SlotFilled jobs left table t job left' (set table t byte) (record { ready = record fresh { mask = bits' }; latest = r })
  slot_runs table job r byte bits' left' n s some_wait e v long =
      let (waits, takes) = going_takes releases deadlines ranks left sorted few room t bits are latest job s some_wait in
      let w : Waits F ranks t left r = subst (Waits F ranks t left) (sym e) waits in
      let goes : onward F t left job ≡ some (job_at ranks r) = takes ∙ ap (λ (x : ℕ). some (job_at ranks x)) (sym e) in
      filled table job byte bits' left' r n
      (subst (λ (o : Option ℕ). After F ranks t left o byte bits' left') (sym goes) (rank_after F ranks left sorted few room t bits are r w byte bits' left' v)) long
      (subst (λ (o : Option ℕ). Stands (length releases) ranks r (latest_of o job)) (sym goes) (w.below, refl))

-- All slots

-- the rule looks at the units of each job, not at how long their list is
serve_state : (l : List ℕ) (o : Option ℕ) → state_of (serve l o) ≡ after (state_of l) o
serve_state l none = refl
serve_state l (some j) = state_lowered l j

pub fill_state : (F : Spans) (t : ℕ) (l m : List ℕ) (latest : Option ℕ) (S : List Bool) → state_of l ≡ state_of m → fill_by (onward F) t l latest S ≡ fill_by (onward F) t m latest S
unfolding fill_by
fill_state F t l m latest [] e = refl
fill_state F t l m latest (false ∷ S) e = ap (λ (x : List ℕ). asleep ∷ x) (fill_state F (suc t) l m latest S e)
fill_state F t l m latest (true ∷ S) e =
    let o = onward F t l latest in
    let same : onward F t l latest ≡ onward F t m latest = ap (λ (L : State). going_on F.d (servable F t L) F.n latest) e in
    ap (λ (x : List ℕ). run_byte o ∷ x)
    (fill_state F (suc t) (serve l o) (serve m o) (latest_of o latest) S (serve_state l o ∙ ap (λ (L : State). after L o) e ∙ sym (serve_state m o)))
    ∙ ap (λ (x : Option ℕ). run_byte x ∷ fill_by (onward F) (suc t) (serve m x) (latest_of x latest) S) same

-- one slot more
fill_turn : (F : Spans) (t : ℕ) (l m : List ℕ) (latest : Option ℕ) (b : Bool) (S : List Bool) → state_of m ≡ after (state_of l) (ran F b t l latest) →
    fill_by (onward F) t l latest (b ∷ S) ≡ slot_byte b (ran F b t l latest) ∷ fill_by (onward F) (suc t) m (latest_of (ran F b t l latest) latest) S
unfolding fill_by
fill_turn F t l m latest false S e = ap (λ (x : List ℕ). asleep ∷ x) (fill_state F (suc t) l m latest S (sym e))
fill_turn F t l m latest true S e =
    let o = onward F t l latest in
    ap (λ (x : List ℕ). run_byte o ∷ x) (fill_state F (suc t) (serve l o) m (latest_of o latest) S (serve_state l o ∙ sym e))

-- the slots before t are filled; `table₀` and `left₀` are what it began with
pub record FilledTo (jobs : OrderedJobs) (left₀ table₀ left table : List ℕ) (t latest : ℕ) : Type 0 where
  pub same_long : length table ≡ length table₀
  pub left_long : length left ≡ length left₀
  pub rest : (i : ℕ) → t ≤ i → get_or table i 0 ≡ get_or table₀ i 0
  pub job : Option ℕ
  pub stands : Stands (length jobs.releases.now) jobs.ranks.now latest job
  pub all :
      fill_by (onward (spans_of jobs.releases.now jobs.deadlines.now)) 0 left₀ none (awake_of table₀)
      ≡ take t table ++ fill_by (onward (spans_of jobs.releases.now jobs.deadlines.now)) t left job (awake_of (drop t table₀))

pub fill_starts : (jobs : OrderedJobs) (left table : List ℕ) → FilledTo jobs left table left table 0 0
fill_starts jobs left table =
    record { same_long = refl; left_long = refl; rest = λ i l. refl; job = none; stands = refl; all = refl }

module _ (jobs : OrderedJobs) where
  pub fill_more :
      (left₀ table₀ left table : List ℕ) (t latest : ℕ) (left' table' : List ℕ) (last' : Running) → t < length table →
      (r : FilledTo jobs left₀ table₀ left table t latest) → SlotFilled jobs left table t r.job left' table' last' →
      FilledTo jobs left₀ table₀ left' table' (t + 1) last'.latest
  fill_more left₀ table₀ left table t latest left' table' last' l r d =
      let F = spans_of jobs.releases.now jobs.deadlines.now in
      let b = wakeful (get_or table t 0) in
      let o = ran F b t left r.job in
      let here : wakeful (get_or table₀ t 0) ≡ b = ap wakeful (sym (r.rest t (omega arith))) in
      let cut : awake_of (drop t table₀) ≡ b ∷ awake_of (drop (suc t) table₀) =
      ap awake_of (drop-cons table₀ t 0 (omega (arith, r.same_long))) ∙ ap (λ (x : Bool). x ∷ awake_of (drop (suc t) table₀)) here in
      let behind = fill_by (onward F) (suc t) left' (latest_of o r.job) (awake_of (drop (suc t) table₀)) in
      record {
        same_long = rw d.table_is (length-set table t _) ∙ r.same_long;
        left_long = d.left_long ∙ r.left_long;
        rest = λ i m. rw d.table_is (get_or-set_other table t i _ 0 (λ e. omega arith)) ∙ r.rest i (omega arith);
        job = latest_of o r.job;
        stands = d.stands;
        all = r.all
            ∙ ap (λ (S : List Bool). take t table ++ fill_by (onward F) t left r.job S) cut
            ∙ ap (λ (x : List ℕ). take t table ++ x) (fill_turn F t left left' r.job b (awake_of (drop (suc t) table₀)) d.left_is)
            ∙ sym (append_snoc (take t table) (slot_byte b o) behind)
            ∙ ap (λ (x : List ℕ). x ++ behind) (taken t (slot_byte b o) l d.table_is)
            ∙ ap (λ (x : ℕ). take x table' ++ fill_by (onward F) x left' (latest_of o r.job) (awake_of (drop x table₀))) (sym (add-one t));
      }
    where
      taken : (s v : ℕ) → s < length table → table' ≡ set table s v → take s table ++ (v ∷ []) ≡ take (suc s) table'
      taken s v m e = sym (ap (take (suc s)) e ∙ take-suc-set table s v m)

  pub fill_ready : (left table : List ℕ) (t : ℕ) (job : Option ℕ) (left' table' : List ℕ) (last' : Running) → SlotFilled jobs left table t job left' table' last' →
      ReadyAt jobs.releases.now jobs.deadlines.now jobs.ranks.now jobs.arrivals.now left' (t + 1) last'.ready
  fill_ready left table t job left' table' last' d = rw add-one d.ready

pub fill_ends : (jobs : OrderedJobs) (volumes left₀ table₀ left table : List ℕ) (t latest : ℕ) → Units volumes left₀ → length table ≤ t → FilledTo jobs left₀ table₀ left table t latest → Fills jobs.releases.now jobs.deadlines.now volumes table₀ table
unfolding fill_by
fill_ends jobs volumes left₀ table₀ left table t latest units l r =
    record {
      run_is = is;
      step_is = λ J p long full.
          ran_for J p ∙ table_is_run J (awake_of table₀) p.passes (awake_of_length table₀ ∙ long) full;
      behind_is = λ J p s behind inside.
          ap (λ (x : List ℕ). get_or x s 0) (ran_for J p)
          ∙ idle_behind (spans J) J.horizon (λ j b. (p.passes.good j b).within) (awake_of table₀) 0 J.volumes none s s
          (omega (arith, awake_of_length table₀)) (omega arith) behind;
    }
  where
    nothing : (x : ℕ) → length table₀ ≤ x → drop x table₀ ≡ []
    nothing x m = drop_of_length-le table₀ {i = x} m

    is : table ≡ fill_by (onward (spans_of jobs.releases.now jobs.deadlines.now)) 0 volumes none (awake_of table₀)
    is =
        sym (
        fill_state (spans_of jobs.releases.now jobs.deadlines.now) 0 volumes left₀ none (awake_of table₀) (sym units.same)
        ∙ r.all
        ∙ ap (λ (x : List ℕ). take t table ++ fill_by (onward (spans_of jobs.releases.now jobs.deadlines.now)) t left r.job (awake_of x)) (nothing t (omega (arith, r.same_long)))
        ∙ append-nil (take t table)
        ∙ take_all t table l
        )

    -- for a list with these parts
    ran_for : (J : Jobs) → ListsOf J jobs.releases.now jobs.deadlines.now volumes → table ≡ fill_by (onward (spans J)) 0 J.volumes none (awake_of table₀)
    ran_for J p =
        let same : spans_of jobs.releases.now jobs.deadlines.now ≡ spans J = sym (ap₂ spans_of p.releases_are p.deadlines_are) in
        is
        ∙ ap (λ (F : Spans). fill_by (onward F) 0 volumes none (awake_of table₀)) same
        ∙ ap (λ (v : List ℕ). fill_by (onward (spans J)) 0 v none (awake_of table₀)) (sym p.volumes_are)
