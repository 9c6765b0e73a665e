-- One number a job is enough: with the right numbers `sleep_cost` is the recursion's cost of sleep from any slot, and `run_end` the best end.
use Rattle.std.specs.Prelude.{ℕ, suc, ◌+◌, ◌-◌, ◌≤◌, ◌<◌, ◌≡◌, refl, true, false}
use Rattle.std.proofs.Math.Path.{sym}
use Rattle.std.proofs.Common.{ap, ◌∙◌, ⊎_elim, arith}
use mathlib.Core.List.Memᴰ.{cases_cons as apart}
use mathlib.Core.List.Memᴰ.{head as here}
use mathlib.Core.List.Memᴰ.{not-nil as nowhere}
use mathlib.Core.List.{List, [], ◌∷◌, Memᴰ as Among}
use Rattle.std.proofs.Math.Decide.{dec_le}
use Rattle.sched.specs.Jobs.{Jobs, count}
use Rattle.sched.specs.Checks.{Passes}
use Rattle.sched.proofs.Bounded.Laws.{by_bool}
use Rattle.laws_skeleton.specs.Windows.{window_start, window_end, due}
use Rattle.laws_skeleton.proofs.Windows.Laws.{Due, due_job, job_due, window_opens, window_within}
use Rattle.laws_skeleton.proofs.Order.Laws.{Rest, rest_next}
use Rattle.laws_skeleton.specs.Runs.{sleep_cost, run_end, end_after, values, value_at}
use Rattle.laws_skeleton.proofs.Runs.Until.{asleep_at, awake_at, Until, until_cost, least_waits, least_wakes, least_over}
use Rattle.laws_skeleton.proofs.Runs.Clauses.{sleep_none, sleep_wakes, sleep_skips, values_first}
use Rattle.laws_skeleton.proofs.Runs.Choice.{run_end_leads, run_end_from, run_end_within}

-- every window that starts at s or later belongs to a job of js
abbrev pub Holds : Jobs → ℕ → List ℕ → Type 0
Holds J s js = (k : ℕ) → k < count J → s ≤ window_start J k → Among k js

pub holds_later : (J : Jobs) (s u : ℕ) (js : List ℕ) → s ≤ u → Holds J s js → Holds J u js
holds_later J s u js l o k m n = o k m (omega arith)

pub holds_skips : (J : Jobs) (s j : ℕ) (js : List ℕ) → window_start J j < s → Holds J s (j ∷ js) → Holds J s js
holds_skips J s j js l o k m n = ⊎_elim (λ (q : k ≡ j). absurd (omega (arith, ap (window_start J) q))) (λ (i : Among k js). i) (apart (o k m n))

module _ (J : Jobs) (p : Passes J) where
  abbrev Z : ℕ → ℕ
  Z = asleep_at (due J) J.wake J.horizon

  -- behind the last slot of job j's window only windows of the jobs behind j start
  pub holds_behind : (s j : ℕ) (js : List ℕ) → Rest J (j ∷ js) → window_end J j < s → Holds J s js
  holds_behind s j js r l k m n = let o = window_opens J p k m in ⊎_elim
      (λ (i : Among k (j ∷ js)). ⊎_elim (λ (q : k ≡ j). absurd (omega (arith, ap (window_end J) q))) (λ (a : Among k js). a) (apart i))
      (λ (f : (i : ℕ) → Among i (j ∷ js) → window_end J k ≤ window_end J i). absurd (omega (arith, f j (here refl))))
      (r.before k m)

  -- no window is due before that of the first job, and none where there is no job

  pub none_due : (s u j : ℕ) (js : List ℕ) → Rest J (j ∷ js) → Holds J s (j ∷ js) → u < window_end J j → due J s u ≡ false
  none_due s u j js r o l = by_bool (due J s u) (λ e. absurd (go (due_job J s u e))) (λ e. e)
    where
      go : Due J s u → ⊥
      go d =
          ⊎_elim
          (λ (q : d.job ≡ j). omega (arith, d.closes, ap (window_end J) q))
          (λ (i : Among d.job js). omega (arith, d.closes, r.rising.0 d.job i))
          (apart (o d.job d.listed d.opens))

  pub never_due : (s u : ℕ) → Holds J s [] → due J s u ≡ false
  never_due s u o = by_bool (due J s u) (λ e. let d = due_job J s u e in absurd (nowhere (o d.job d.listed d.opens))) (λ e. e)

  pub first_due : (s j : ℕ) (js : List ℕ) → Rest J (j ∷ js) → s ≤ window_start J j → due J s (window_end J j) ≡ true
  first_due s j js r l = job_due J s (window_end J j) (record { job = j; listed = r.listed j (here refl); opens = l; closes = refl })

  -- a run ends within the horizon, whatever the numbers are
  pub run_end_inside : (js vs : List ℕ) (low : ℕ) → ((k : ℕ) → Among k js → k < count J) → low ≤ J.horizon → run_end J js vs low low js ≤ J.horizon
  run_end_inside js vs low listed l =
      run_end_within J js vs low J.horizon l (λ k m. omega (arith, window_opens J p k (listed k m), window_within J p k))

  -- with the right numbers the best end is found

  Right : List ℕ → List ℕ → Type 0
  Right js vs = (s : ℕ) → s ≤ J.horizon → Holds J s js → sleep_cost J s js vs ≡ Z s

  until_right : (js vs : List ℕ) (low : ℕ) → Rest J js → Right js vs → low ≤ J.horizon → Holds J low js
      → Until (due J) J.wake J.horizon low (run_end J js vs low low js)
  unfolding Right
  until_right js vs low r right l o =
      let e = run_end J js vs low low js in
      let f = run_end_from J js vs low in
      let w = run_end_inside js vs low r.listed l in
      let found = right e w (holds_later J low e js f o) in
      record {
        from = f;
        within = w;
        best = λ u a b. omega (arith, found, right u b (holds_later J low u js a o), (run_end_leads J js vs low (u - low) u (omega arith)).le);
        first = λ u a b.
            omega (arith, found, right u (omega arith) (holds_later J low u js a o), (run_end_leads J js vs low (u - low) u (omega arith)).tie b);
      }

  -- the cost from an awake slot t on, from right numbers of the jobs behind
  value_right : (t : ℕ) (js vs : List ℕ) → Rest J js → Right js vs → t < J.horizon → Holds J (suc t) js
      → value_at J t js vs ≡ suc (awake_at (due J) J.wake J.horizon (suc t))
  unfolding Right
  value_right t js vs r right l o =
      let w = until_right js vs (suc t) r right l o in
      let s = end_after J js vs t in
      omega (arith, until_cost (due J) J.wake J.horizon (suc t) s w, right s w.within (holds_later J (suc t) s js w.from o), w.from)

  -- sleep that begins at s goes on until the window of the first job that starts at s or later
  wait_cost : (s j : ℕ) (js : List ℕ) → Rest J (j ∷ js) → Holds J s (j ∷ js) → s ≤ window_start J j
      → Z s ≡ J.wake + suc (awake_at (due J) J.wake J.horizon (suc (window_end J j)))
  wait_cost s j js r o l =
      let e = window_end J j in
      let h = window_within J p j in
      least_waits (due J) J.wake J.horizon (e - s) s s e
      (omega (arith, window_opens J p j (r.listed j (here refl)))) (omega arith)
      (λ u a b. none_due s u j js r o b)
      ∙ least_wakes (due J) J.wake J.horizon e s h (first_due s j js r l)

  pub values_right : (js : List ℕ) → Rest J js → (s : ℕ) → s ≤ J.horizon → Holds J s js → sleep_cost J s js (values J js) ≡ Z s
  unfolding Right
  values_right [] r s l o =
      sleep_none J s (values J [])
      ∙ sym (least_over (due J) J.wake J.horizon s)
      ∙ sym (least_waits (due J) J.wake J.horizon (J.horizon - s) s s J.horizon (omega arith) (omega arith) (λ u a b. never_due s u o))
  values_right (j ∷ js) r s l o = go (dec_le s (window_start J j)) (values_right js (rest_next J j js r))
    where
      behind : Holds J (suc (window_end J j)) js
      behind = holds_behind (suc (window_end J j)) j js r (omega arith)

      go : Dec (s ≤ window_start J j) → Right js (values J js) → sleep_cost J s (j ∷ js) (values J (j ∷ js)) ≡ Z s
      go (yes m) right =
          rw (values_first J j js)
          (sleep_wakes J s j _ js (values J js) m
          ∙ ap (λ (n : ℕ). J.wake + n) (value_right (window_end J j) js (values J js) (rest_next J j js r) right (window_within J p j) behind)
          ∙ sym (wait_cost s j js r o m))
      go (no n) right =
          rw (values_first J j js) (sleep_skips J s j _ js (values J js) (omega arith) ∙ right s l (holds_skips J s j js (omega arith) o))

  -- the best end of a run, by those numbers
  pub run_end_right : (js : List ℕ) (low : ℕ) → Rest J js → low ≤ J.horizon → Holds J low js
      → Until (due J) J.wake J.horizon low (run_end J js (values J js) low low js)
  unfolding Right
  run_end_right js low r l o = until_right js (values J js) low r (values_right js r) l o

  -- the cost from any awake slot on, by those numbers
  pub awake_right : (js : List ℕ) (t : ℕ) → Rest J js → t < J.horizon → Holds J (suc t) js
      → value_at J t js (values J js) ≡ suc (awake_at (due J) J.wake J.horizon (suc t))
  unfolding Right
  awake_right js t r l o = value_right t js (values J js) r (values_right js r) l o
