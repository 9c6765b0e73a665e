-- What `run_end` finds among a few slots is the best of all slots: between two starts of windows nothing changes but the slots paid.
use Rattle.std.specs.Prelude.{ℕ, zero, suc, ◌+◌, ◌≤◌, ◌<◌, ◌≡◌, refl, true, false, ◌&&◌, ◌⊎◌, leb, ltb, eqb}
use Rattle.std.proofs.Common.{sym, ◌∙◌, inl, inr, ⊎_elim, arith, le-leb, leb-true, ltb-true, ltb-false, eqb-true, eq-eqb, lt-ltb}
use mathlib.Core.List.Memᴰ.{cases_cons as apart}
use mathlib.Core.List.Memᴰ.{head as here}
use mathlib.Core.List.Memᴰ.{not-nil as nowhere}
use mathlib.Core.List.Memᴰ.{tail as there}
use mathlib.Core.List.{List, [], ◌∷◌, Memᴰ as Among}
use Rattle.std.proofs.Math.Decide.{ℕ_discrete, dec_lt, dec_le}
use Rattle.sched.specs.Jobs.{Jobs}
use Rattle.sched.proofs.Bounded.Laws.{by_bool, true_not_false, and_true, or_true, or_false}
use Rattle.laws_skeleton.specs.Windows.{window_start}
use Rattle.laws_skeleton.specs.Runs.{sleep_cost, through_cost, beats, run_end, takes}
use Rattle.laws_skeleton.proofs.Runs.Clauses.{sleep_wakes, sleep_skips, run_end_none, run_end_takes, run_end_keeps}

-- a job whose window starts at u
record Starts (J : Jobs) (u : ℕ) (js : List ℕ) : Type 0 where
  job : ℕ
  inside : Among job js
  is : window_start J job ≡ u

starts_or_same : (J : Jobs) (u : ℕ) (js vs : List ℕ) → Starts J u js ⊎ (sleep_cost J u js vs ≡ sleep_cost J (suc u) js vs)
unfolding sleep_cost
starts_or_same J u [] vs = inr refl
starts_or_same J u (j ∷ js) [] = inr refl
starts_or_same J u (j ∷ js) (v ∷ vs) = go (ℕ_discrete (window_start J j) u) (dec_le (suc u) (window_start J j)) (starts_or_same J u js vs)
  where
    more : Starts J u js → Starts J u (j ∷ js)
    more h = record { job = h.job; inside = there h.inside; is = h.is }

    go : Dec (window_start J j ≡ u) → Dec (suc u ≤ window_start J j) → Starts J u js ⊎ (sleep_cost J u js vs ≡ sleep_cost J (suc u) js vs)
        → Starts J u (j ∷ js) ⊎ (sleep_cost J u (j ∷ js) (v ∷ vs) ≡ sleep_cost J (suc u) (j ∷ js) (v ∷ vs))
    go (yes e) d ih = inl (record { job = j; inside = here refl; is = e })
    go (no n) (yes l) ih = inr (sleep_wakes J u j v js vs (omega arith) ∙ sym (sleep_wakes J (suc u) j v js vs l))
    go (no n) (no m) (inl h) = inl (more h)
    go (no n) (no m) (inr e) = inr (sleep_skips J u j v js vs (omega arith) ∙ e ∙ sym (sleep_skips J (suc u) j v js vs (omega arith)))

module _ (J : Jobs) (js vs : List ℕ) where
  abbrev T : ℕ → ℕ
  T = through_cost J js vs

  -- a run is at least as well ended at s as at u, and better where u is earlier
  pub record Leads (s u : ℕ) : Type 0 where
    pub le : T s ≤ T u
    pub tie : u < s → T s < T u

  leads_self : (s : ℕ) → Leads s s
  leads_self s = record { le = omega arith; tie = λ l. absurd (omega arith) }

  leads_on : (a b c : ℕ) → Leads a b → Leads b c → Leads a c
  leads_on a b c x y = record { le = omega (arith, x.le, y.le); tie = λ l. go l (dec_lt c b) }
    where
      go : c < a → Dec (c < b) → T a < T c
      go l (yes m) = omega (arith, x.le, y.tie m)
      go l (no m) = omega (arith, x.tie (omega arith), y.le)

  beats_leads : (c s : ℕ) → beats J js vs c s ≡ true → Leads c s
  beats_leads c s e = ⊎_elim
      (λ (l : ltb (T c) (T s) ≡ true). let m = ltb-true (T c) (T s) l in record { le = omega arith; tie = λ x. m })
      (λ (b : eqb (T c) (T s) && ltb c s ≡ true). tied (and_true (eqb (T c) (T s)) (ltb c s) b))
      (or_true (ltb (T c) (T s)) (eqb (T c) (T s) && ltb c s) e)
    where
      tied : (eqb (T c) (T s) ≡ true) × (ltb c s ≡ true) → Leads c s
      tied b = record { le = omega (arith, eqb-true (T c) (T s) b.0); tie = λ x. absurd (omega (arith, ltb-true c s b.1)) }

  stays_leads : (c s : ℕ) → beats J js vs c s ≡ false → Leads s c
  stays_leads c s e = record { le = ltb-false (T c) (T s) both.0; tie = λ l. go l (ℕ_discrete (T c) (T s)) }
    where
      both : (ltb (T c) (T s) ≡ false) × (eqb (T c) (T s) && ltb c s ≡ false)
      both = or_false (ltb (T c) (T s)) (eqb (T c) (T s) && ltb c s) e

      go : c < s → Dec (T c ≡ T s) → T s < T c
      go l (yes q) = true_not_false (eqb (T c) (T s) && ltb c s) (rw (eq-eqb (T c) (T s) q, lt-ltb c s l)) both.1
      go l (no n) = omega (arith, ltb-false (T c) (T s) both.0)

  -- r is the best of s and the slots behind the starts of the windows of ks
  record Chosen (low s : ℕ) (ks : List ℕ) (r : ℕ) : Type 0 where
    from : low ≤ s → low ≤ r
    start : Leads r s
    each : (k : ℕ) → Among k ks → low ≤ suc (window_start J k) → Leads r (suc (window_start J k))
    within : (h : ℕ) → s ≤ h → ((k : ℕ) → Among k ks → window_start J k < h) → r ≤ h

  chosen_takes : (low s k : ℕ) (ks : List ℕ) (r : ℕ) → takes J js vs low s k ≡ true → Chosen low (suc (window_start J k)) ks r
      → Chosen low s (k ∷ ks) r
  chosen_takes low s k ks r e c = record {
    from = λ l. c.from (leb-true low (suc (window_start J k)) both.0);
    start = leads_on r (suc (window_start J k)) s c.start (beats_leads (suc (window_start J k)) s both.1);
    each = λ i m l. ⊎_elim (λ (q : i ≡ k). rw q c.start) (λ (n : Among i ks). c.each i n l) (apart m);
    within = λ h l f. c.within h (f k (here refl)) (λ i m. f i (there m));
  }
    where
      both : (leb low (suc (window_start J k)) ≡ true) × (beats J js vs (suc (window_start J k)) s ≡ true)
      both = and_true (leb low (suc (window_start J k))) (beats J js vs (suc (window_start J k)) s) e

  chosen_keeps : (low s k : ℕ) (ks : List ℕ) (r : ℕ) → takes J js vs low s k ≡ false → Chosen low s ks r → Chosen low s (k ∷ ks) r
  chosen_keeps low s k ks r e c = record {
    from = c.from;
    start = c.start;
    each = λ i m l. ⊎_elim (λ (q : i ≡ k). rw q (behind (rw q at l))) (λ (n : Among i ks). c.each i n l) (apart m);
    within = λ h l f. c.within h l (λ i m. f i (there m));
  }
    where
      behind : low ≤ suc (window_start J k) → Leads r (suc (window_start J k))
      behind l =
          leads_on r s (suc (window_start J k)) c.start (stays_leads (suc (window_start J k)) s (rw (le-leb low (suc (window_start J k)) l) at e))

  chosen : (low s : ℕ) (ks : List ℕ) → Chosen low s ks (run_end J js vs low s ks)
  chosen low s [] =
      rw (run_end_none J js vs low s) (record { from = λ l. l; start = leads_self s; each = λ k m. absurd (nowhere m); within = λ h l f. l })
  chosen low s (k ∷ ks) =
      by_bool (takes J js vs low s k)
      (λ e. rw (run_end_takes J js vs low s k ks e) (chosen_takes low s k ks _ e (chosen low (suc (window_start J k)) ks)))
      (λ e. rw (run_end_keeps J js vs low s k ks e) (chosen_keeps low s k ks _ e (chosen low s ks)))

  -- the best of the few is the best of all

  pub run_end_leads : (low k u : ℕ) → low + k ≡ u → Leads (run_end J js vs low low js) u
  run_end_leads low zero u e = let z : low ≡ u = omega arith in rw (← z) (chosen low low js).start
  run_end_leads low (suc k) u e = go (starts_or_same J (low + k) js vs) (run_end_leads low k (low + k) refl)
    where
      up : suc (low + k) ≡ u
      up = omega arith

      go : Starts J (low + k) js ⊎ (sleep_cost J (low + k) js vs ≡ sleep_cost J (suc (low + k)) js vs) → Leads (run_end J js vs low low js) (low + k)
          → Leads (run_end J js vs low low js) u
      go (inl h) ih =
          let z : suc (window_start J h.job) ≡ u = omega (arith, h.is) in
          rw (← z) ((chosen low low js).each h.job h.inside (omega (arith, h.is)))
      go (inr q) ih = rw (← up) (record { le = omega (arith, ih.le); tie = λ l. omega (arith, ih.le) })

  pub run_end_from : (low : ℕ) → low ≤ run_end J js vs low low js
  run_end_from low = (chosen low low js).from (omega arith)

  pub run_end_within : (low h : ℕ) → low ≤ h → ((k : ℕ) → Among k js → window_start J k < h) → run_end J js vs low low js ≤ h
  run_end_within low h l f = (chosen low low js).within h l f
