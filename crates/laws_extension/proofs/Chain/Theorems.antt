-- The chain tells whether a sleeping slot helps, and brings what is kept up to the set with that slot awake.
use Prim.Native.Nat.{ℕ, zero, suc, ◌+◌, ◌-◌, ◌≤◌, ◌<◌}
use Rattle.std.specs.Prelude.{◌≡◌, refl, Bool, true, false, List, eqb, length, get_or, set}
use Rattle.std.proofs.Common.{ap, ◌∙◌, arith, eq-eqb, ne_eqb, length-set}
use Rattle.std.proofs.Math.Path.{sym}
use Rattle.std.proofs.lemmas.Bool.{false≢true}
use Rattle.std.proofs.Math.Decide.{dec_lt}
use Rattle.std.proofs.lemmas.List.{set-get_or}
use Rattle.sched.proofs.Bounded.Laws.{by_bool}
use Rattle.sched.specs.Jobs.{Jobs, count, volume}
use Rattle.sched.specs.Checks.{Passes}
use Rattle.sched.specs.Slots.{awake, wake_slot, asleep}
use Rattle.steps.specs.Extension.{helps}
use Rattle.laws_edf.specs.Run.{spans, vol, edf_volume}
use Rattle.laws_edf.proofs.Left.{same_left, one_less_left}
use Rattle.laws_edf.proofs.Sets.{woken_extra}
use Rattle.laws_edf.proofs.Theorems.{workable_is_edf}
use Rattle.laws_extension.specs.Chain.{RankedJobs, KeptByRank, RankBooks, reaches, Tried, tried, handed_on}
use Rattle.laws_edf.specs.Orders.{job_at}
use Rattle.laws_extension.proofs.Chain.Turns.{reaching, tried_closed, tried_lost, tried_on}
use Rattle.laws_extension.proofs.Chain.Alike.{before_byte}
use Rattle.laws_extension.specs.Chain.Keeping.{run_long, run_byte, rank_last, rank_in_time}
use Rattle.laws_extension.proofs.Chain.Ahead.{Waking, ahead_start, ahead_end, gained_alike}
use Rattle.laws_extension.proofs.Chain.Storing.{Storing, storing_closed, storing_on, gained_table, gained_lost, gained_ranked}

abbrev pub RankBooksOf : Jobs → List Bool → List ℕ → List ℕ → RankBooks → Type 0
RankBooksOf J S ranks releases b = KeptByRank J S ranks releases b.table b.lost b.reach b.ends

-- the units that the run of S serves
abbrev volume_of : Jobs → (ℕ → Bool) → ℕ
volume_of J S = vol (spans J) S J.horizon 0 (volume J)

-- the chain says whether the woken run serves a unit more; if it does, the books are those of the woken set
record Found (J : Jobs) (S : ℕ → Bool) (T : List Bool) (ranks releases : List ℕ) (o : Tried) : Type 0 where
  same : o.helped ≡ eqb (volume_of J (awake T)) (suc (volume_of J S))
  booked : o.helped ≡ true → RankBooksOf J T ranks releases o.books

module _ {J : Jobs} {ranks releases lost reach₀ : List ℕ} (ends : List ℕ) {S : ℕ → Bool} (T : List Bool) {x : ℕ}
    (c : Waking J ranks releases lost reach₀ S (awake T) x) where
  abbrev FoundFrom : ℕ → ℕ → ℕ → List ℕ → List ℕ → Type 0
  FoundFrom m k t table reach = Found J S T ranks releases (tried releases ranks m k t table lost reach ends)

  abbrev Come : ℕ → ℕ → List ℕ → List ℕ → Type 0
  Come k t table reach = Storing J ranks releases lost reach₀ ends S (awake T) x k t table reach

  -- a rank that reaches the slot ends the chain or hands it on
  reaching_turn : (m k t : ℕ) (table reach : List ℕ) → Come k t table reach → k < count J → reaches releases reach t k ≡ true →
      ((w : ℕ) (table reach : List ℕ) → Come (suc k) w table reach → FoundFrom m (suc k) w table reach) → FoundFrom (suc m) k t table reach
  reaching_turn m k t table reach h below r later = go (dec_lt 0 (get_or lost k 0))
    where
      go : Dec (0 < get_or lost k 0) → FoundFrom (suc m) k t table reach
      go (yes u) =
          let apart = (gained_alike c h.come below (rw (← h.unasked k (omega arith)) r) u).apart in
          rw (tried_lost releases ranks table lost reach ends m k t r u)
          (record {
            same = sym (eq-eqb (volume_of J (awake T)) (suc (volume_of J S))
                (one_less_left (spans J) S (awake T) (volume J) J.horizon (job_at ranks k) (c.ranked.sorted.known k below) apart));
            booked = λ _. record { table_is = gained_table c h below r u; lost_is = gained_lost c h below r u; ranked = gained_ranked c h below r u };
          })
      go (no f) =
          let z : get_or lost k 0 ≡ 0 = omega arith in
          let w = get_or reach k 0 - 1 in
          let q : get_or reach k 0 ≡ suc w = omega (arith, (reaching releases reach t k r).1) in
          rw (tried_on releases ranks table lost reach ends m k t r z)
          (later w (set table t (job_at ranks k)) (handed_on ranks k t table reach) (storing_on c h below r z w q))

  found : (m k t : ℕ) (table reach : List ℕ) → m + k ≡ count J → Come k t table reach → FoundFrom m k t table reach
  unfolding tried
  found zero k t table reach q h =
      let met = same_left (spans J) S (awake T) (volume J) J.horizon (ahead_end c h.come (omega arith)) in
      record {
        same = sym (ne_eqb (volume_of J (awake T)) (suc (volume_of J S)) (λ (e : volume_of J (awake T) ≡ suc (volume_of J S)). omega (arith, met)));
        booked = λ e. absurd (false≢true e);
      }
  found (suc m) k t table reach q h =
      by_bool (reaches releases reach t k)
      (λ r. reaching_turn m k t table reach h (omega arith) r (λ w table reach. found m (suc k) w table reach (omega arith)))
      (λ r. rw (tried_closed releases ranks table lost reach ends m k t r)
      (found m (suc k) t table reach (omega arith) (storing_closed c h (omega arith) r)))

helps_by_volume : (J : Jobs) (S : List Bool) (x : ℕ) → length S ≡ J.horizon →
    helps J S x ≡ eqb (volume_of J (awake (wake_slot S x))) (suc (volume_of J (awake S)))
unfolding helps edf_volume
helps_by_volume J S x long =
    rw (workable_is_edf J (wake_slot S x) (length-set S x true ∙ long), workable_is_edf J S long)

module _ {J : Jobs} {S : List Bool} {ranks releases table lost reach ends : List ℕ} {x first : ℕ} (passes : Passes J) (long : length S ≡ J.horizon)
    (ranked : RankedJobs J ranks) (b : KeptByRank J S ranks releases table lost reach ends) (inside : x < J.horizon) (sleeps : awake S x ≡ false)
    (within : first ≤ count J) (low : (i : ℕ) → i < first → get_or reach i 0 ≤ x) where
  waking : Waking J ranks releases lost reach (awake S) (awake (wake_slot S x)) x
  waking =
      record {
        few = omega (arith, passes.few);
        ranked = ranked;
        extra = woken_extra S x (rw long inside) sleeps;
        releases_are = b.ranked.releases_are;
        loses = b.lost_is;
        in_time = λ k l. rank_in_time b k l passes ranked;
        due = b.ranked.reach_due;
        last = λ k l. rank_last b k l passes ranked;
      }

  -- slot x is blank as it stands
  blank : table ≡ set table x asleep
  blank =
      let e : get_or table x 0 ≡ asleep = run_byte J S b.table_is x inside ∙ rw sleeps in
      sym (set-get_or table x 0) ∙ ap (λ (v : ℕ). set table x v) e

  starts : Storing J ranks releases lost reach ends (awake S) (awake (wake_slot S x)) x first x table reach
  starts =
      record {
        come = ahead_start waking inside first within low;
        table_long = run_long J S b.table_is;
        done = λ s l. run_byte J S b.table_is s (omega arith) ∙ before_byte (spans J) (volume J) waking.extra s l;
        to_do = λ s l m. run_byte J S b.table_is s m;
        unasked = λ i l. refl;
        ranked = rw (← blank) b.ranked;
      }

  finds : Found J (awake S) (wake_slot S x) ranks releases (tried releases ranks (count J - first) first x table lost reach ends)
  finds = found ends (wake_slot S x) waking (count J - first) first x table reach (omega arith) starts

  pub rank_tests : helps J S x ≡ (tried releases ranks (count J - first) first x table lost reach ends).helped
  rank_tests = helps_by_volume J S x long ∙ sym finds.same

  pub rank_updates : helps J S x ≡ true →
      RankBooksOf J (wake_slot S x) ranks releases (tried releases ranks (count J - first) first x table lost reach ends).books
  rank_updates e = finds.booked (sym rank_tests ∙ e)
