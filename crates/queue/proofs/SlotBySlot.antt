-- One slot of a run, and the run.
use Prim.Native.Nat.{ℕ, suc, ◌+◌, ◌-◌, ◌≤◌, ◌<◌}
use mathlib.Core.Path.{◌≡◌, refl, sym, ap, ◌∙◌}
use mathlib.Core.Bool.{Bool, true, false}
use mathlib.Core.List.{List, [], ◌∷◌, ◌++◌, append-nil}
use native.Mathlib.Omega.{arith}
use borrow.Author.Tests.{eq-eqb, ne_eqb}
use native.Mathlib.Numerals.{add-one}
use lib.ListN.{length, get_or, set, take, length-set}
use lib.Seq.{set-get_or, get_or-set_other, take-suc-set, take_all, append_snoc}
use Rattle.sched.specs.Slots.{asleep, awake, awake_of, wakeful}
use Rattle.sched.proofs.Slots.Laws.{awake_of_lem}
use Rattle.laws_edf.specs.Run.{Spans, State, chosen, after, slot_byte, bytes, final}
use Rattle.laws_edf.specs.Search.{state_of}
use Rattle.orders.specs.declared.ordered_jobs.OrderedJobs.{OrderedJobs}
use Rattle.queue.specs.declared.Ready.{Ready}
use Rattle.queue.specs.Ranks.{spans_of}
use Rattle.queue.specs.Serving.{CanServeLowest, ServesLowest}
use Rattle.queue.specs.Serving.Lowest.{can_serve_lowest, lowest_after}
use Rattle.queue.specs.Arrivals.{ReadyAt}
use Rattle.queue.specs.Runs.{Lookable, Looked, SlotReady, SlotDone, Runnable, RunDone, RunTo}
use Rattle.queue.specs.Runs.Waiting.{looked_bits, ready_after, ready_later}

module _ (F : Spans) where
  pub run_starts : (first : ℕ) (left table : List ℕ) → RunTo F first left table left table first
  run_starts first left table =
      record { same_long = refl; left_long = refl; rest = λ i l. refl; all = refl; ends = refl }

  bytes_turn : (S : ℕ → Bool) (h t : ℕ) (L M : State) (b : Bool) → S t ≡ b → M ≡ after L (chosen F b t L) → bytes F S (suc h) t L ≡ slot_byte b (chosen F b t L) ∷ bytes F S h (suc t) M
  unfolding bytes
  bytes_turn S h t L M b e q = rw (e, q)

  final_turn : (S : ℕ → Bool) (h t : ℕ) (L M : State) (b : Bool) → S t ≡ b → M ≡ after L (chosen F b t L) → final F S (suc h) t L ≡ final F S h (suc t) M
  unfolding final
  final_turn S h t L M b e q = rw (e, q)

  pub run_ends :
      (first : ℕ) (left₀ table₀ left table : List ℕ) (t : ℕ) → length table ≤ t → RunTo F first left₀ table₀ left table t →
      RunDone F first left₀ table₀ left table
  unfolding bytes final
  run_ends first left₀ table₀ left table t l r =
      let z : length table₀ - t ≡ 0 = omega (arith, r.same_long) in
      record {
        table_is =
            sym (r.all ∙ ap (λ (x : ℕ). take t table ++ bytes F (awake (awake_of table₀)) x t (state_of left)) z
            ∙ append-nil (take t table) ∙ take_all t table l);
        left_is = sym (r.ends ∙ ap (λ (x : ℕ). final F (awake (awake_of table₀)) x t (state_of left)) z);
        left_long = r.left_long;
      }

module _ (jobs : OrderedJobs) where
  -- a sleeping slot serves nothing
  pub slot_sleeps : (left table : List ℕ) (t : ℕ) (last : Ready) → get_or table t 0 ≡ asleep → ReadyAt jobs.releases.now jobs.deadlines.now jobs.ranks.now jobs.arrivals.now left t last → SlotDone jobs left table t left table last
  unfolding chosen
  slot_sleeps left table t last e s =
      let off : wakeful (get_or table t 0) ≡ false = rw (eq-eqb (get_or table t 0) asleep e) in
      record {
        table_is = rw off (sym (ap (set table t) (sym e) ∙ set-get_or table t 0));
        left_is = rw off;
        left_long = refl;
        ready = ready_later jobs.releases.now jobs.deadlines.now jobs.ranks.now jobs.arrivals.now left t last s;
      }

module _ {jobs : OrderedJobs} {left : List ℕ} {t : ℕ} {last fresh : Ready} (g : Lookable jobs left t last) (k : Looked jobs left t fresh) where
  abbrev F : Spans
  F = spans_of jobs.releases.now jobs.deadlines.now

  pub slot_can : 0 < fresh.mask → CanServeLowest fresh.mask jobs.ranks.now left
  slot_can = can_serve_lowest F jobs.ranks.now left jobs.orders.by_deadline jobs.few g.room t fresh.mask (looked_bits g k)

  -- an awake slot serves the lowest of its ranks
  pub slot_serves :
      (table : List ℕ) (byte bits' : ℕ) (left' : List ℕ) → (get_or table t 0 ≡ asleep → ⊥) → ServesLowest fresh.mask jobs.ranks.now left byte bits' left' → length left' ≡ length left →
      SlotDone jobs left table t left' (set table t byte) (record fresh { mask = bits' })
  slot_serves table byte bits' left' n s long =
      let on : wakeful (get_or table t 0) ≡ true = rw (ne_eqb (get_or table t 0) asleep n) in
      let a = lowest_after F jobs.ranks.now left jobs.orders.by_deadline jobs.few g.room t fresh.mask (looked_bits g k) byte bits' left' s in
      record {
        table_is = rw on (ap (set table t) a.byte_is);
        left_is = rw on a.left_is;
        left_long = long;
        ready = ready_after g k (chosen F true t (state_of left)) byte bits' left' a;
      }

-- the whole run

module _ (jobs : OrderedJobs) where
  abbrev spans : Spans
  spans = spans_of jobs.releases.now jobs.deadlines.now

  pub slot_ready :
      (first : ℕ) (left₀ table₀ left table : List ℕ) (t : ℕ) (last : Ready) → Runnable jobs left₀ table₀ →
      t < length table → RunTo spans first left₀ table₀ left table t → ReadyAt jobs.releases.now jobs.deadlines.now jobs.ranks.now jobs.arrivals.now left t last → SlotReady jobs left table t last
  slot_ready first left₀ table₀ left table t last g l r s =
      record {
        inside = l;
        lookable = record {
          short = omega (arith, g.short, r.same_long);
          room = omega (arith, g.room, r.left_long);
          ready = s;
        };
      }

  pub run_turn :
      (first : ℕ) (left₀ table₀ left table : List ℕ) (t : ℕ) (left' table' : List ℕ) (last' : Ready) → t < length table →
      RunTo spans first left₀ table₀ left table t → SlotDone jobs left table t left' table' last' →
      RunTo spans first left₀ table₀ left' table' (t + 1)
  run_turn first left₀ table₀ left table t left' table' last' l r d =
      let F = spans in
      let S = awake (awake_of table₀) in
      let b = wakeful (get_or table t 0) in
      let on : S t ≡ b = awake_of_lem table₀ t (omega (arith, r.same_long)) ∙ ap wakeful (sym (r.rest t (omega arith))) in
      let more : length table₀ - t ≡ suc (length table₀ - (t + 1)) = omega (arith, r.same_long) in
      let one = add-one t in
      record {
        same_long = rw d.table_is (length-set table t _) ∙ r.same_long;
        left_long = d.left_long ∙ r.left_long;
        rest = λ i m. rw d.table_is (get_or-set_other table t i _ 0 (λ e. omega arith)) ∙ r.rest i (omega arith);
        all = r.all ∙ ap (λ (x : ℕ). take t table ++ bytes F S x t (state_of left)) more
            ∙ ap (λ (x : List ℕ). take t table ++ x) (bytes_turn F S (length table₀ - (t + 1)) t (state_of left) (state_of left') b on d.left_is)
            ∙ sym (append_snoc (take t table) (slot_byte b (chosen F b t (state_of left))) (bytes F S (length table₀ - (t + 1)) (suc t) (state_of left')))
            ∙ ap (λ (x : List ℕ). x ++ bytes F S (length table₀ - (t + 1)) (suc t) (state_of left')) (taken t (slot_byte b (chosen F b t (state_of left))) l d.table_is)
            ∙ ap (λ (x : ℕ). take x table' ++ bytes F S (length table₀ - (t + 1)) x (state_of left')) (sym one);
        ends = r.ends ∙ ap (λ (x : ℕ). final F S x t (state_of left)) more
            ∙ final_turn F S (length table₀ - (t + 1)) t (state_of left) (state_of left') b on d.left_is
            ∙ ap (λ (x : ℕ). final F S (length table₀ - (t + 1)) x (state_of left')) (sym one);
      }
    where
      taken : (s v : ℕ) → s < length table → table' ≡ set table s v → take s table ++ (v ∷ []) ≡ take (suc s) table'
      taken s v m e = sym (ap (take (suc s)) e ∙ take-suc-set table s v m)

  pub run_ready : (left table : List ℕ) (t : ℕ) (left' table' : List ℕ) (last' : Ready) → SlotDone jobs left table t left' table' last' → ReadyAt jobs.releases.now jobs.deadlines.now jobs.ranks.now jobs.arrivals.now left' (t + 1) last'
  run_ready left table t left' table' last' d = rw add-one d.ready
