-- The lists by rank stay those of the table where a rank hands on its last slot, and where it gains a slot for one of its lost units.
use Rattle.std.specs.Prelude.{ℕ, ◌-◌, ◌≤◌, ◌<◌, ◌≡◌, refl, List, ◌≢◌, length, get_or, set}
use Rattle.std.proofs.Common.{sym, ◌∙◌, arith, eq-eqb, ne_eqb, length-set, get_or-set_same, get_or-set_other}
use Rattle.std.proofs.Math.Decide.{ℕ_discrete}
use Rattle.sched.specs.Jobs.{Jobs, count, deadline}
use Rattle.laws_extension.specs.Chain.{end_below, ByRank, later_end, gained_reach}
use Rattle.laws_edf.specs.Orders.{job_at}

-- the end of a rank's job in a table
abbrev pub end_at : Jobs → List ℕ → List ℕ → ℕ → ℕ
end_at J ranks table k = end_below (job_at ranks k) J.horizon table

-- the lists differ in the entry of rank k only
abbrev ButAt : ℕ → List ℕ → List ℕ → Type 0
ButAt k a b = (length b ≡ length a) × ((i : ℕ) → i ≢ k → get_or b i 0 ≡ get_or a i 0)

but_set : (k v : ℕ) (a : List ℕ) → ButAt k a (set a k v)
but_set k v a = (length-set a k v, λ i f. get_or-set_other a k i v 0 f)

but_none : (k : ℕ) (a : List ℕ) → ButAt k a a
but_none k a = (refl, λ i f. refl)

-- in the other table only the job of rank k ends elsewhere
module _ {J : Jobs} {ranks releases table lost reach ends : List ℕ} (b : ByRank J ranks releases table lost reach ends) (k : ℕ) (below : k < count J)
    (other : List ℕ) (same : (i : ℕ) → i < count J → i ≢ k → end_at J ranks table i ≡ end_at J ranks other i) where
  ranked_but : {lost₁ reach₁ ends₁ : List ℕ} → ButAt k lost lost₁ → ButAt k reach reach₁ → ButAt k ends ends₁ →
      (0 < get_or lost₁ k 0 → get_or reach₁ k 0 ≡ deadline J (job_at ranks k)) → (get_or lost₁ k 0 ≡ 0 → get_or reach₁ k 0 ≡ end_at J ranks other k) →
      (0 < get_or lost₁ k 0 → get_or ends₁ k 0 ≡ end_at J ranks other k) → ByRank J ranks releases other lost₁ reach₁ ends₁
  ranked_but {lost₁} {reach₁} {ends₁} l r e due_there end_there kept_there =
      record {
        lost_long = omega (arith, l.0, b.lost_long);
        reach_long = omega (arith, r.0, b.reach_long);
        ends_long = omega (arith, e.0, b.ends_long);
        releases_are = b.releases_are;
        reach_due = λ i m u. due i m u (ℕ_discrete i k);
        reach_end = λ i m z. end i m z (ℕ_discrete i k);
        ends_is = λ i m u. kept i m u (ℕ_discrete i k);
      }
    where
      due : (i : ℕ) → i < count J → 0 < get_or lost₁ i 0 → Dec (i ≡ k) → get_or reach₁ i 0 ≡ deadline J (job_at ranks i)
      due i m u (yes q) = rw q (due_there (rw q at u))
      due i m u (no f) = r.1 i f ∙ b.reach_due i m (rw (l.1 i f) at u)

      end : (i : ℕ) → i < count J → get_or lost₁ i 0 ≡ 0 → Dec (i ≡ k) → get_or reach₁ i 0 ≡ end_at J ranks other i
      end i m z (yes q) = rw q (end_there (rw q at z))
      end i m z (no f) = r.1 i f ∙ b.reach_end i m (sym (l.1 i f) ∙ z) ∙ same i m f

      kept : (i : ℕ) → i < count J → 0 < get_or lost₁ i 0 → Dec (i ≡ k) → get_or ends₁ i 0 ≡ end_at J ranks other i
      kept i m u (yes q) = rw q (kept_there (rw q at u))
      kept i m u (no f) = e.1 i f ∙ b.ends_is i m (rw (l.1 i f) at u) ∙ same i m f

  pub ranked_on : get_or lost k 0 ≡ 0 → (e : ℕ) → e ≡ end_at J ranks other k → ByRank J ranks releases other lost (set reach k e) ends
  ranked_on none_lost e is =
      ranked_but (but_none k lost) (but_set k e reach) (but_none k ends) (λ u. absurd (omega arith))
      (λ z. get_or-set_same reach k e 0 (omega (arith, b.reach_long)) ∙ is) (λ u. absurd (omega arith))

  -- its last lost unit gained, the rank reaches as far as its last slot
  pub ranked_gained : (t : ℕ) → later_end k t ends ≡ end_at J ranks other k → 0 < get_or lost k 0 →
      ByRank J ranks releases other (set lost k (get_or lost k 0 - 1)) (gained_reach k t lost reach ends) (set ends k (later_end k t ends))
  ranked_gained t later some_lost = go (ℕ_discrete (get_or lost k 0 - 1) 0)
    where
      less : get_or (set lost k (get_or lost k 0 - 1)) k 0 ≡ get_or lost k 0 - 1
      less = get_or-set_same lost k (get_or lost k 0 - 1) 0 (omega (arith, b.lost_long))

      stored : (a : List ℕ) → count J ≤ length a → get_or (set a k (later_end k t ends)) k 0 ≡ end_at J ranks other k
      stored a long = get_or-set_same a k (later_end k t ends) 0 (omega arith) ∙ later

      go : Dec (get_or lost k 0 - 1 ≡ 0) →
          ByRank J ranks releases other (set lost k (get_or lost k 0 - 1)) (gained_reach k t lost reach ends) (set ends k (later_end k t ends))
      go (yes z) =
          rw (eq-eqb (get_or lost k 0 - 1) 0 z, gained_reach)
          (ranked_but (but_set k _ lost) (but_set k _ reach) (but_set k _ ends) (λ u. absurd (omega (arith, less)))
          (λ _. stored reach b.reach_long) (λ _. stored ends b.ends_long))
      go (no f) =
          rw (ne_eqb (get_or lost k 0 - 1) 0 f, gained_reach)
          (ranked_but (but_set k _ lost) (but_none k reach) (but_set k _ ends) (λ _. b.reach_due k below some_lost)
          (λ z. absurd (f (sym less ∙ z))) (λ _. stored ends b.ends_long))
