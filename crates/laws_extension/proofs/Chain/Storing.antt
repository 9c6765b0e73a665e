-- What the chain has made of the books where it has come to slot t and rank k, and a turn of it.
use Rattle.std.specs.Prelude.{ℕ, suc, ◌-◌, ◌≤◌, ◌<◌, max, ◌≡◌, Bool, true, false, List, ◌≢◌, length, get_or, set}
use Rattle.std.proofs.Common.{ap, sym, ◌∙◌, arith, length-set, get_or-set_same, get_or-set_other, ext_get_or}
use Rattle.std.proofs.Math.Decide.{ℕ_discrete, dec_lt}
use Rattle.sched.specs.Jobs.{Jobs, count, volume}
use Rattle.sched.specs.Slots.{asleep}
use Rattle.laws_edf.specs.Run.{spans}
use Rattle.laws_edf.proofs.Placements.{bytes_long}
use Rattle.laws_extension.specs.Chain.{end_below, ByRank, reaches, later_end, gained_reach, handed_on}
use Rattle.laws_edf.specs.Orders.{job_at}
use Rattle.laws_extension.specs.Chain.Ends.{end_gained, end_kept, end_blank, end_unblanked}
use Rattle.laws_extension.specs.Chain.Served.{table_byte, serves_byte}
use Rattle.laws_extension.proofs.Chain.Alike.{alike_byte}
use Rattle.laws_extension.specs.Chain.Keeping.{left_of, run_bytes, run_byte_at}
use Rattle.laws_extension.proofs.Chain.Ahead.{Alike, Waking, Ahead, other_job, ahead_closed, serves_there, gained_alike, given_later, given_alike, ahead_on}
use Rattle.laws_extension.proofs.Chain.Ranked.{end_at, ranked_on, ranked_gained}

-- Below t the table is that of the woken run, above it that of the other, and slot t is to be stored. The lists by rank are those of the table
-- without slot t, and the ranks from k on reach as far as at first.
pub record Storing (J : Jobs) (ranks releases lost reach₀ ends : List ℕ) (S S' : ℕ → Bool) (x k t : ℕ) (table reach : List ℕ) : Type 0 where
  pub come : Ahead J ranks S S' x k t
  pub table_long : length table ≡ J.horizon
  pub done : (s : ℕ) → s < t → get_or table s 0 ≡ run_byte_at J S' s
  pub to_do : (s : ℕ) → t < s → s < J.horizon → get_or table s 0 ≡ run_byte_at J S s
  pub unasked : (i : ℕ) → k ≤ i → get_or reach i 0 ≡ get_or reach₀ i 0
  pub ranked : ByRank J ranks releases (set table t asleep) lost reach ends

module _ {J : Jobs} {ranks releases lost reach₀ ends : List ℕ} {S S' : ℕ → Bool} {x : ℕ} (c : Waking J ranks releases lost reach₀ S S' x)
    {k t : ℕ} {table reach : List ℕ} (h : Storing J ranks releases lost reach₀ ends S S' x k t table reach) (below : k < count J) where
  here_reach : get_or reach k 0 ≡ get_or reach₀ k 0
  here_reach = h.unasked k (omega arith)

  pub storing_closed : reaches releases reach t k ≡ false → Storing J ranks releases lost reach₀ ends S S' x (suc k) t table reach
  storing_closed r =
      record {
        come = ahead_closed c h.come below (rw (← here_reach) r);
        table_long = h.table_long;
        done = h.done;
        to_do = h.to_do;
        unasked = λ i l. h.unasked i (omega arith);
        ranked = h.ranked;
      }

  differ : (i : ℕ) → i < count J → i ≢ k → job_at ranks i ≢ job_at ranks k
  differ i l f = other_job c.ranked i k l below f

  -- the table with the job of rank k in slot t
  abbrev stored : List ℕ
  stored = set table t (job_at ranks k)

  no_job : (i : ℕ) → i < count J → job_at ranks i ≢ asleep
  no_job i l e = omega (arith, c.few, c.ranked.sorted.known i l)

  stored_long : length stored ≡ J.horizon
  stored_long = length-set table t (job_at ranks k) ∙ h.table_long

  in_table : t < length table
  in_table = omega (arith, h.table_long, h.come.inside)

  own_end : end_at J ranks stored k ≡ max (end_at J ranks (set table t asleep) k) (suc t)
  own_end =
      end_gained table t in_table (job_at ranks k) asleep (λ e. no_job k below (sym e)) J.horizon h.come.inside

  other_end : (i : ℕ) → i < count J → i ≢ k → end_at J ranks (set table t asleep) i ≡ end_at J ranks stored i
  other_end i l f = end_kept table t in_table (job_at ranks i) asleep (job_at ranks k) (no_job i l) (differ i l f) J.horizon

  module _ (r : reaches releases reach t k ≡ true) where
    far : reaches releases reach₀ t k ≡ true
    far = rw (← here_reach) r

    here : run_byte_at J S' t ≡ job_at ranks k
    here = serves_byte (spans J) S' (volume J) t (job_at ranks k) (serves_there c h.come below far)

    -- up to b, where the runs serve alike after t, the store makes the table that of the woken run
    stored_to : (b : ℕ) → b ≤ J.horizon → Alike J S S' (job_at ranks k) (suc t) b → (s : ℕ) → s < b → get_or stored s 0 ≡ run_byte_at J S' s
    stored_to b m alike s l = go (ℕ_discrete s t) (dec_lt s t)
      where
        go : Dec (s ≡ t) → Dec (s < t) → get_or stored s 0 ≡ run_byte_at J S' s
        go (yes e) _ =
            rw e (get_or-set_same table t (job_at ranks k) 0 in_table ∙ sym here)
        go (no f) (yes u) = get_or-set_other table t s (job_at ranks k) 0 f ∙ h.done s u
        go (no f) (no g) =
            get_or-set_other table t s (job_at ranks k) 0 f ∙ h.to_do s (omega arith) (omega arith)
            ∙ alike_byte (spans J) (volume J) c.extra (omega (arith, h.come.from)) alike s (omega arith) l

    -- the job gives up its last slot w
    pub storing_on : get_or lost k 0 ≡ 0 → (w : ℕ) → get_or reach k 0 ≡ suc w →
        Storing J ranks releases lost reach₀ ends S S' x (suc k) w stored (handed_on ranks k t table reach)
    storing_on none_lost w given =
        let given₀ : get_or reach₀ k 0 ≡ suc w = sym here_reach ∙ given in
        let later : t < w = given_later c h.come below far none_lost given₀ in
        let end = h.ranked.reach_end k below none_lost in
        let come = ahead_on c h.come below far none_lost given₀ in
        let inside : w < length stored = omega (arith, stored_long, come.inside) in
        let top : end_at J ranks stored k ≡ suc w = omega (arith, own_end) in
        let from_w : get_or reach k 0 - 1 ≡ w = omega arith in
        record {
          come = come;
          table_long = stored_long;
          done = stored_to w (omega (arith, come.inside)) (given_alike c h.come below far none_lost given₀);
          to_do = λ s l m. get_or-set_other table t s (job_at ranks k) 0 (omega arith) ∙ h.to_do s (omega arith) m;
          unasked = λ i l. get_or-set_other reach k i _ 0 (omega arith) ∙ h.unasked i (omega arith);
          ranked =
              ranked_on h.ranked k below (set stored w asleep)
              (λ i l f. other_end i l f
              ∙ end_unblanked stored w inside (job_at ranks k) asleep J.horizon top (job_at ranks i) (differ i l f) (no_job i l))
              none_lost (end_below (job_at ranks k) (get_or reach k 0 - 1) stored)
              (rw from_w (end_blank stored w inside (job_at ranks k) asleep (λ e. no_job k below (sym e)) J.horizon top));
        }

    -- the job gains one of its lost units
    module _ (some_lost : 0 < get_or lost k 0) where
      alike : Alike J S S' (job_at ranks k) (suc t) J.horizon
      alike = gained_alike c h.come below far some_lost

      pub gained_table : stored ≡ run_bytes J S'
      gained_table =
          ext_get_or 0 stored (run_bytes J S') (stored_long ∙ sym (bytes_long (spans J) S' J.horizon 0 (volume J)))
          (λ s l. let m : s < J.horizon = omega (arith, stored_long) in
          stored_to J.horizon (omega arith) alike s m ∙ sym (table_byte (spans J) S' (volume J) J.horizon s m))

      pub gained_lost : (i : ℕ) → i < count J → get_or (set lost k (get_or lost k 0 - 1)) i 0 ≡ left_of J S' J.horizon (job_at ranks i)
      gained_lost i l = go (ℕ_discrete i k)
        where
          go : Dec (i ≡ k) → get_or (set lost k (get_or lost k 0 - 1)) i 0 ≡ left_of J S' J.horizon (job_at ranks i)
          go (yes e) =
              rw e
              (get_or-set_same lost k (get_or lost k 0 - 1) 0 (omega (arith, h.ranked.lost_long))
              ∙ omega (arith, c.loses k below, alike.apart.there))
          go (no f) =
              get_or-set_other lost k i (get_or lost k 0 - 1) 0 f ∙ c.loses i l ∙ alike.apart.elsewhere (job_at ranks i) (differ i l f)

      pub gained_ranked :
          ByRank J ranks releases stored (set lost k (get_or lost k 0 - 1)) (gained_reach k t lost reach ends) (set ends k (later_end k t ends))
      gained_ranked =
          ranked_gained h.ranked k below stored other_end t
          (ap (λ (e : ℕ). max e (suc t)) (h.ranked.ends_is k below some_lost) ∙ sym own_end) some_lost
