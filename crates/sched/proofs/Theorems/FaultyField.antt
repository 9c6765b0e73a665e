-- 02, card 1, "Say which job field is bad": when a list is refused for a job, and which job and field it is then. `list_check` is what planner,
-- judge, list writer and the search for the tightest interval begin with; for the list reader see `joblist/specs/Theorems/FaultyField`.
use Rattle.std.specs.Prelude.{ℕ, zero, suc, ◌+◌, ◌≤◌, ◌<◌, ◌≡◌, refl, Bool, true, false, not, List, [], ◌∷◌, ◌↔◌, length, get_or, leb, ltb, eqb, Err, Ok}
use Rattle.std.proofs.Common.{ap, sym, subst, ◌∙◌, inl, inr, arith, le-ltb, ne_eqb, leb-true, leb-false, ltb-true, ltb-false, eqb-true}
use Rattle.std.proofs.Math.Decide.{ℕ_discrete}
use Rattle.std.proofs.lemmas.Bool.{eqb-false, not-false}
use Rattle.sched.specs.Jobs.{jobs_of}
use Rattle.sched.specs.Checks.{GoodJob, refuse_if, and_then, horizon_check, count_check, job_check, check_from, jobs_check, list_check}
use Rattle.sched.specs.Checks.{checked_number, checked_values}
use Rattle.sched.proofs.Checks.Laws.{job_good, job_passes, job_place, horizon_good, lists_equal, then_fails, then_passes}
use Rattle.sched.proofs.Checks.Laws.{refuse_passed, refused_not_passed, passed_passes}
use Rattle.sched.proofs.Theorems.RefusesJob.{RefusesJob, not_job, past_if, past_then, before_if, before_then, other_passed, other_horizon, other_count}
use Rattle.sched.specs.declared.Refusal.TheVariants.{OutOfRange, EmptySpan, Unequal, PastHorizon, NoVolume}
use Rattle.sched.specs.Refusals.{Checked}

-- the number n that comes back for a job: "25, the deadline is above H", 15, "a release that is not before the deadline", "26, the volume is 0",
-- and "the order is 25, 15, 26"
pub record NamesField (h r d p n : ℕ) : Type 0 where
  pub deadline : n ≡ 25 ↔ h < d
  pub span : n ≡ 15 ↔ ((d ≤ h) × (d ≤ r))
  pub volume : n ≡ 26 ↔ ((d ≤ h) × ((r < d) × (p ≡ 0)))

-- an answer that refuses a job of three lists: the place is the lowest faulty job, and the number names its field
pub record FaultyJob (h : ℕ) (rs ds ps : List ℕ) (answer : Checked) : Type 0 where
  pub job : ℕ
  pub values : checked_values answer ≡ job ∷ []
  pub there : job < length rs
  pub lower : (i : ℕ) → i < job → GoodJob h (get_or rs i 0) (get_or ds i 0) (get_or ps i 0)
  pub names : NamesField h (get_or rs job 0) (get_or ds job 0) (get_or ps job 0) (checked_number answer)

-- what the list checks look at before the jobs is in order
pub record Ready (h : ℕ) (rs ds ps : List ℕ) : Type 0 where
  pub low : 1 ≤ h
  pub high : h ≤ 4096
  pub same_deadlines : length ds ≡ length rs
  pub same_volumes : length ps ≡ length rs
  pub few : length rs ≤ 64

-- one of the jobs is faulty
pub record SomeFaulty (h : ℕ) (rs ds ps : List ℕ) : Type 0 where
  pub job : ℕ
  pub there : job < length rs
  pub faulty : GoodJob h (get_or rs job 0) (get_or ds job 0) (get_or ps job 0) → ⊥

pub job_names_field : (h j r d p : ℕ) → NamesField h r d p (checked_number (job_check h j r d p))
job_names_field h j r d p = by (ltb h d) (leb d r) (eqb p 0) refl refl refl
  where
    by : (horizon span volume : Bool) → ltb h d ≡ horizon → leb d r ≡ span → eqb p 0 ≡ volume →
        NamesField h r d p (checked_number (refuse_if horizon (PastHorizon j) (refuse_if span (EmptySpan j) (refuse_if volume (NoVolume j) (Ok tt)))))
    by true span volume a b c =
        let late = ltb-true h d a in
        record {
          deadline = (λ _. late, λ _. refl);
          span = (λ e. absurd (omega arith), λ g. absurd (omega (arith, g.0)));
          volume = (λ e. absurd (omega arith), λ g. absurd (omega (arith, g.0)));
        }
    by false true volume a b c =
        let within = ltb-false h d a in
        let empty = leb-true d r b in
        record {
          deadline = (λ e. absurd (omega arith), λ l. absurd (omega arith));
          span = (λ _. (within, empty), λ _. refl);
          volume = (λ e. absurd (omega arith), λ g. absurd (omega (arith, g.1.0)));
        }
    by false false true a b c =
        let within = ltb-false h d a in
        let span = leb-false d r b in
        record {
          deadline = (λ e. absurd (omega arith), λ l. absurd (omega arith));
          span = (λ e. absurd (omega arith), λ g. absurd (omega (arith, g.1)));
          volume = (λ _. (within, (span, eqb-true p 0 c)), λ _. refl);
        }
    by false false false a b c =
        let within = ltb-false h d a in
        let span = leb-false d r b in
        record {
          deadline = (λ e. absurd (omega arith), λ l. absurd (omega arith));
          span = (λ e. absurd (omega arith), λ g. absurd (omega (arith, g.1)));
          volume = (λ e. absurd (omega arith), λ g. absurd (eqb-false p 0 c g.1.1));
        }

-- an answer that is a job's own check, and refuses it
pub own_values : (h j r d p : ℕ) (c : Checked) → c ≡ job_check h j r d p → RefusesJob c → checked_values c ≡ j ∷ []
own_values h j r d p (Ok tt) e f = absurd (other_passed f)
own_values h j r d p (Err x) e f = ap (λ (n : ℕ). n ∷ []) (job_place h j r d p x (sym e))

-- the k jobs from j on, of which one is refused
record Met (k j h : ℕ) (rs ds ps : List ℕ) (c : Checked) : Type 0 where
  job : ℕ
  from : j ≤ job
  to : job < j + k
  lower : (i : ℕ) → j ≤ i → i < job → GoodJob h (get_or rs i 0) (get_or ds i 0) (get_or ps i 0)
  own : c ≡ job_check h job (get_or rs job 0) (get_or ds job 0) (get_or ps job 0)

walk_met : (k j h : ℕ) (rs ds ps : List ℕ) → RefusesJob (check_from job_check k j h rs ds ps) →
    Met k j h rs ds ps (check_from job_check k j h rs ds ps)
unfolding check_from
walk_met zero j h rs ds ps f = absurd (other_passed f)
walk_met (suc k) j h rs ds ps f = go here refl (λ g. walk_met k (suc j) h rs ds ps g)
  where
    Good : ℕ → Type 0
    Good i = GoodJob h (get_or rs i 0) (get_or ds i 0) (get_or ps i 0)

    here : Checked
    here = job_check h j (get_or rs j 0) (get_or ds j 0) (get_or ps j 0)

    rest : Checked
    rest = check_from job_check k (suc j) h rs ds ps

    below : Good j → (to : ℕ) → ((i : ℕ) → suc j ≤ i → i < to → Good i) → (i : ℕ) → j ≤ i → i < to → Dec (j ≡ i) → Good i
    below this to later i l u (yes q) = rw q at this
    below this to later i l u (no q) = later i (omega arith) u

    go : (c : Checked) → here ≡ c → (RefusesJob rest → Met k (suc j) h rs ds ps rest) → Met (suc k) j h rs ds ps (and_then here rest)
    go (Err x) e later =
        record {
          job = j;
          from = omega arith;
          to = omega arith;
          lower = λ i l m. absurd (omega arith);
          own = then_fails here rest x e ∙ sym e;
        }
    go (Ok tt) e later =
        let m = later (subst RefusesJob (then_passes here rest e) f) in
        let this = job_good h j (get_or rs j 0) (get_or ds j 0) (get_or ps j 0) e in
        record {
          job = m.job;
          from = omega (arith, m.from);
          to = omega (arith, m.to);
          lower = λ i l u. below this m.job m.lower i l u (ℕ_discrete j i);
          own = then_passes here rest e ∙ m.own;
        }

-- The checks before the jobs: passed where a job is refused, and where they pass the jobs decide
module _ (h : ℕ) (rs ds ps : List ℕ) where
  abbrev jobs : Checked
  jobs = jobs_check job_check h rs ds ps

  abbrev counted : Checked
  counted = and_then (count_check (length rs)) jobs

  abbrev volumes : Checked
  volumes = refuse_if (not (eqb (length ps) (length rs))) (Unequal 0) counted

  abbrev deadlines : Checked
  deadlines = refuse_if (not (eqb (length ds) (length rs))) (Unequal 0) volumes

  list_ready : RefusesJob (list_check h rs ds ps) → Ready h rs ds ps
  list_ready f =
      let nineteen = not_job 19 (inr (omega arith, omega arith)) in
      let f₁ = subst RefusesJob (past_then (horizon_check h) deadlines (other_horizon h) f) f in
      let f₂ = subst RefusesJob (past_if (not (eqb (length ds) (length rs))) (Unequal 0) volumes nineteen f₁) f₁ in
      let f₃ = subst RefusesJob (past_if (not (eqb (length ps) (length rs))) (Unequal 0) counted nineteen f₂) f₂ in
      let bounds = horizon_good h (before_then (horizon_check h) deadlines (other_horizon h) f) in
      let count = before_then (count_check (length rs)) jobs (other_count (length rs)) f₃ in
      record {
        low = bounds.0;
        high = bounds.1;
        same_deadlines = eqb-true (length ds) (length rs) (not-false _ (before_if (not (eqb (length ds) (length rs))) (Unequal 0) volumes nineteen f₁));
        same_volumes = eqb-true (length ps) (length rs) (not-false _ (before_if (not (eqb (length ps) (length rs))) (Unequal 0) counted nineteen f₂));
        few = ltb-false 64 (length rs) (refuse_passed (ltb 64 (length rs)) (OutOfRange 4) (Ok tt) count).0;
      }

  jobs_decide : Ready h rs ds ps → list_check h rs ds ps ≡ jobs
  jobs_decide ok =
      then_passes (horizon_check h) deadlines (simp (ne_eqb h 0 (omega (arith, ok.low)), le-ltb 4096 h ok.high))
      ∙ lists_equal h rs ds ps ok.same_deadlines ok.same_volumes
      ∙ then_passes (count_check (length rs)) jobs (simp (le-ltb 64 (length rs) ok.few))

-- The theorem: where a list is refused for a job, it is the lowest faulty one, and the number names its field.
pub list_faulty_job : (h : ℕ) (rs ds ps : List ℕ) → RefusesJob (list_check h rs ds ps) → FaultyJob h rs ds ps (list_check h rs ds ps)
list_faulty_job h rs ds ps f =
    let walk : Checked = jobs_check job_check h rs ds ps in
    let e = jobs_decide h rs ds ps (list_ready h rs ds ps f) in
    let g : RefusesJob walk = subst RefusesJob e f in
    let m = walk_met (length rs) 0 h rs ds ps g in
    let r = get_or rs m.job 0 in
    let d = get_or ds m.job 0 in
    let p = get_or ps m.job 0 in
    record {
      job = m.job;
      values = ap checked_values e ∙ own_values h m.job r d p walk m.own g;
      there = omega (arith, m.to);
      lower = λ i l. m.lower i (omega arith) l;
      names = subst (λ (c : Checked). NamesField h r d p (checked_number c)) (sym (e ∙ m.own)) (job_names_field h m.job r d p);
    }

-- A job is refused exactly when it is faulty

pub job_refused : (h j r d p : ℕ) → RefusesJob (job_check h j r d p) ↔ (GoodJob h r d p → ⊥)
job_refused h j r d p = (λ f g. other_passed (subst RefusesJob (job_passes h j r d p g) f), λ n. by (ltb h d) (leb d r) (eqb p 0) (λ e. n (job_good h j r d p e)))
  where
    by : (horizon span volume : Bool) →
        (refuse_if horizon (PastHorizon j) (refuse_if span (EmptySpan j) (refuse_if volume (NoVolume j) (Ok tt))) ≡ Ok tt → ⊥) →
        RefusesJob (refuse_if horizon (PastHorizon j) (refuse_if span (EmptySpan j) (refuse_if volume (NoVolume j) (Ok tt))))
    by true span volume n = inl refl
    by false true volume n = inr (inl refl)
    by false false true n = inr (inr refl)
    by false false false n = absurd (n refl)

walk_refuses : (k j h : ℕ) (rs ds ps : List ℕ) → (check_from job_check k j h rs ds ps ≡ Ok tt → ⊥) → RefusesJob (check_from job_check k j h rs ds ps)
unfolding check_from
walk_refuses zero j h rs ds ps n = absurd (n refl)
walk_refuses (suc k) j h rs ds ps n = go here refl (λ m. walk_refuses k (suc j) h rs ds ps m)
  where
    here : Checked
    here = job_check h j (get_or rs j 0) (get_or ds j 0) (get_or ps j 0)

    rest : Checked
    rest = check_from job_check k (suc j) h rs ds ps

    go : (c : Checked) → here ≡ c → ((rest ≡ Ok tt → ⊥) → RefusesJob rest) → RefusesJob (and_then here rest)
    go (Err x) e later =
        let stops = then_fails here rest x e ∙ sym e in
        subst RefusesJob (sym stops)
        ((job_refused h j (get_or rs j 0) (get_or ds j 0) (get_or ps j 0)).1
        (λ g. refused_not_passed x (sym e ∙ job_passes h j (get_or rs j 0) (get_or ds j 0) (get_or ps j 0) g)))
    go (Ok tt) e later =
        let goes_on = then_passes here rest e in
        subst RefusesJob (sym goes_on) (later (λ q. n (goes_on ∙ q)))

-- The theorem: a list is refused for a job exactly when all that is looked at before is in order and a job is faulty.
pub list_refuses_job : (h : ℕ) (rs ds ps : List ℕ) → RefusesJob (list_check h rs ds ps) ↔ (Ready h rs ds ps × SomeFaulty h rs ds ps)
list_refuses_job h rs ds ps = (λ f. (list_ready h rs ds ps f, some (list_faulty_job h rs ds ps f) f), λ x. refuses x.0 x.1)
  where
    named : (r d p : ℕ) → NamesField h r d p (checked_number (list_check h rs ds ps)) → RefusesJob (list_check h rs ds ps) → GoodJob h r d p → ⊥
    named r d p m (inl e) g = omega (arith, m.deadline.0 e, g.within)
    named r d p m (inr (inl e)) g = omega (arith, (m.span.0 e).1, g.span)
    named r d p m (inr (inr e)) g = omega (arith, (m.volume.0 e).1.1, g.some)

    some : FaultyJob h rs ds ps (list_check h rs ds ps) → RefusesJob (list_check h rs ds ps) → SomeFaulty h rs ds ps
    some x f =
        let j = x.job in
        record { job = j; there = x.there; faulty = named (get_or rs j 0) (get_or ds j 0) (get_or ps j 0) x.names f }

    refuses : Ready h rs ds ps → SomeFaulty h rs ds ps → RefusesJob (list_check h rs ds ps)
    refuses ok bad =
        let e = jobs_decide h rs ds ps ok in
        subst RefusesJob (sym e)
        (walk_refuses (length rs) 0 h rs ds ps (λ q. bad.faulty ((passed_passes (jobs_of h 0 rs ds ps) (e ∙ q)).good bad.job bad.there)))
