-- A list passes the checks in their order exactly when it passes the list checks of 01.
use Rattle.std.specs.Prelude.{ℕ, zero, suc, ◌+◌, ◌≤◌, ◌<◌, ◌≡◌, refl, Bool, true, false, not, List, length, get_or, leb, ltb, eqb, Err, Ok}
use Rattle.std.proofs.Common.{ap, sym, arith, lt-ltb, le-ltb, eq-eqb, ne_eqb, leb-false, ltb-false, eqb-true}
use Rattle.std.proofs.Math.Decide.{ℕ_discrete}
use Rattle.std.proofs.lemmas.Bool.{lt-leb, eqb-false, not-false}
use Rattle.sched.specs.Jobs.{Jobs, count}
use Rattle.sched.specs.Refusals.{number, place, Checked}
use Rattle.sched.specs.Checks.{checked_number, checked_values, CheckPromise, GoodJob, Passes, refuse_if, and_then, horizon_check, length_check, table_check, bytes_from, slots_check, job_check, check_from, jobs_check, count_check, lists_check, check_of}
use Rattle.sched.specs.declared.Refusal.{Refusal}
use Rattle.sched.specs.declared.Refusal.TheVariants.{OutOfRange, EmptySpan, TooShort, Unequal, PastHorizon, NoVolume}

-- an answer that is the definition's has its number and values
pub check_same : {wanted answer : Checked} → answer ≡ wanted → CheckPromise wanted answer
check_same e = record { number = ap checked_number e; values = ap checked_values e; same = e }

pub refused_not_passed : {A : Type 0} (r : Refusal) → ◌≡◌ {A = Checked} (Err r) (Ok tt) → A
refused_not_passed r e = let z : ◌≡◌ {A = ℕ} 0 1 = cc in absurd (omega arith)

-- a check that passes has not met its fault
pub refuse_passed : (b : Bool) (r : Refusal) (c : Checked) → refuse_if b r c ≡ Ok tt → (b ≡ false) × (c ≡ Ok tt)
refuse_passed true r c e = refused_not_passed r e
refuse_passed false r c e = (refl, e)

pub then_passed : (a c : Checked) → and_then a c ≡ Ok tt → (a ≡ Ok tt) × (c ≡ Ok tt)
then_passed (Ok tt) c e = (refl, e)
then_passed (Err r) c e = refused_not_passed r e

pub job_good : (h j r d p : ℕ) → job_check h j r d p ≡ Ok tt → GoodJob h r d p
job_good h j r d p e =
    let volume = refuse_if (eqb p 0) (NoVolume j) (Ok tt) in
    let span = refuse_if (leb d r) (EmptySpan j) volume in
    let a = refuse_passed (ltb h d) (PastHorizon j) span e in
    let b = refuse_passed (leb d r) (EmptySpan j) volume a.1 in
    let c = refuse_passed (eqb p 0) (NoVolume j) (Ok tt) b.1 in
    record { span = leb-false d r b.0; within = ltb-false h d a.0; some = positive (eqb-false p 0 c.0) }
  where
    positive : (p ≡ 0 → ⊥) → 1 ≤ p
    positive n = omega arith

-- every fault of a job is told with the job's number
pub job_place : (h j r d p : ℕ) (x : Refusal) → job_check h j r d p ≡ Err x → place x ≡ j
job_place h j r d p x e = by (ltb h d) (leb d r) (eqb p 0) e
  where
    told : (y : Refusal) → ◌≡◌ {A = Checked} (Err y) (Err x) → place x ≡ place y
    told y q = sym (ap (λ (c : Checked). get_or (checked_values c) 0 0) q)

    by : (horizon span volume : Bool) →
        refuse_if horizon (PastHorizon j) (refuse_if span (EmptySpan j) (refuse_if volume (NoVolume j) (Ok tt))) ≡ Err x → place x ≡ j
    by true span volume q = told (PastHorizon j) q
    by false true volume q = told (EmptySpan j) q
    by false false true q = told (NoVolume j) q
    by false false false q = refused_not_passed x (sym q)

pub job_passes : (h j r d p : ℕ) → GoodJob h r d p → job_check h j r d p ≡ Ok tt
job_passes h j r d p g = simp (le-ltb h d g.within, lt-leb d r g.span, ne_eqb p 0 (omega arith))

-- checks in a row: the first decides where it fails, else the next
pub then_fails : (a c : Checked) (r : Refusal) → a ≡ Err r → and_then a c ≡ Err r
then_fails a c r e = ap (λ (x : Checked). and_then x c) e

pub then_passes : (a c : Checked) → a ≡ Ok tt → and_then a c ≡ c
then_passes a c e = ap (λ (x : Checked). and_then x c) e

-- two checks that agree where the one in front passes
pub then_same : (a c c' : Checked) → (a ≡ Ok tt → c ≡ c') → and_then a c ≡ and_then a c'
then_same (Ok tt) c c' f = f refl
then_same (Err r) c c' f = refl

-- numbers P that the check in front cannot give: it has passed, and what follows decides
pub past_refusal : (P : ℕ → Type 0) (b : Bool) (r : Refusal) (c : Checked) → (P (number r) → ⊥) → P (checked_number (refuse_if b r c)) → (b ≡ false) × (refuse_if b r c ≡ c)
past_refusal P true r c other e = absurd (other e)
past_refusal P false r c other e = (refl, refl)

pub past_check : (P : ℕ → Type 0) (a c : Checked) → (P (checked_number a) → ⊥) → P (checked_number (and_then a c)) → (a ≡ Ok tt) × (and_then a c ≡ c)
past_check P (Ok tt) c other e = (refl, refl)
past_check P (Err r) c other e = absurd (other e)

-- numbers up to m
pub refusal_at_most : (m : ℕ) (b : Bool) (r : Refusal) (c : Checked) → number r ≤ m → checked_number c ≤ m → checked_number (refuse_if b r c) ≤ m
refusal_at_most m true r c here later = here
refusal_at_most m false r c here later = later

pub check_at_most : (m : ℕ) (a c : Checked) → checked_number a ≤ m → checked_number c ≤ m → checked_number (and_then a c) ≤ m
check_at_most m (Ok tt) c here later = later
check_at_most m (Err r) c here later = here

pub horizon_at_most : (h : ℕ) → checked_number (horizon_check h) ≤ 12
horizon_at_most h =
    refusal_at_most 12 (eqb h 0) (OutOfRange 0) (refuse_if (ltb 4096 h) (OutOfRange 0) (Ok tt)) (omega arith)
    (refusal_at_most 12 (ltb 4096 h) (OutOfRange 0) (Ok tt) (omega arith) (omega arith))

-- H, and lengths

pub horizon_good : (h : ℕ) → horizon_check h ≡ Ok tt → (1 ≤ h) × (h ≤ 4096)
horizon_good h e =
    let a = refuse_passed (eqb h 0) (OutOfRange 0) (refuse_if (ltb 4096 h) (OutOfRange 0) (Ok tt)) e in
    let b = refuse_passed (ltb 4096 h) (OutOfRange 0) (Ok tt) a.1 in
    (positive (eqb-false h 0 a.0), ltb-false 4096 h b.0)
  where
    positive : (h ≡ 0 → ⊥) → 1 ≤ h
    positive n = omega arith

pub length_good : (have need : ℕ) → length_check have need ≡ Ok tt → need ≤ have
length_good have need e = ltb-false have need (refuse_passed (ltb have need) (TooShort need) (Ok tt) e).0

pub length_passes : (have need : ℕ) → need ≤ have → length_check have need ≡ Ok tt
length_passes have need l = simp (le-ltb have need l)

pub length_fails : (have need : ℕ) → have < need → length_check have need ≡ Err (TooShort need)
length_fails have need l = simp (lt-ltb have need l)

pub table_good : (h have : ℕ) → table_check h have ≡ Ok tt → (h ≤ 4096) × (h ≤ have)
table_good h have e =
    let (a, b) = then_passed (horizon_check h) (length_check have h) e in
    ((horizon_good h a).1, length_good have h b)

pub slots_good : (h : ℕ) (table : List ℕ) → slots_check h table ≡ Ok tt → (h ≤ 4096) × (h ≤ length table)
slots_good h table e = table_good h (length table) (then_passed (table_check h (length table)) (bytes_from h 0 table) e).0

-- where the three lists have one length, the count decides, then the jobs
pub lists_equal : (h : ℕ) (rs ds ps : List ℕ) → length ds ≡ length rs → length ps ≡ length rs →
    lists_check job_check h rs ds ps ≡ and_then (count_check (length rs)) (jobs_check job_check h rs ds ps)
lists_equal h rs ds ps d p = simp (eq-eqb (length ds) (length rs) d, eq-eqb (length ps) (length rs) p)

-- the k jobs from j on
from_good : (k j h : ℕ) (rs ds ps : List ℕ) → check_from job_check k j h rs ds ps ≡ Ok tt →
    (i : ℕ) → j ≤ i → i < j + k → GoodJob h (get_or rs i 0) (get_or ds i 0) (get_or ps i 0)
unfolding check_from
from_good zero j h rs ds ps e i l m = absurd (omega arith)
from_good (suc k) j h rs ds ps e i l m =
    let s = then_passed (job_check h j (get_or rs j 0) (get_or ds j 0) (get_or ps j 0)) (check_from job_check k (suc j) h rs ds ps) e in
    go (ℕ_discrete j i) (job_good h j (get_or rs j 0) (get_or ds j 0) (get_or ps j 0) s.0) (from_good k (suc j) h rs ds ps s.1 i)
  where
    Good : ℕ → Type 0
    Good n = GoodJob h (get_or rs n 0) (get_or ds n 0) (get_or ps n 0)

    go : Dec (j ≡ i) → Good j → (suc j ≤ i → i < suc j + k → Good i) → Good i
    go (yes q) here rest = rw q at here
    go (no q) here rest = rest (omega arith) (omega arith)

from_passes : (k j h : ℕ) (rs ds ps : List ℕ) → ((i : ℕ) → j ≤ i → i < j + k → GoodJob h (get_or rs i 0) (get_or ds i 0) (get_or ps i 0)) →
    check_from job_check k j h rs ds ps ≡ Ok tt
unfolding check_from
from_passes zero j h rs ds ps g = refl
from_passes (suc k) j h rs ds ps g =
    rw (job_passes h j (get_or rs j 0) (get_or ds j 0) (get_or ps j 0) (g j (omega arith) (omega arith)))
    (from_passes k (suc j) h rs ds ps (λ i l m. g i (omega arith) (omega arith)))

pub passed_passes : (J : Jobs) → check_of J ≡ Ok tt → Passes J
passed_passes J e =
    let h = J.horizon in
    let rs = J.releases in
    let ds = J.deadlines in
    let ps = J.volumes in
    let x₄ : Checked = jobs_check job_check h rs ds ps in
    let x₃ : Checked = and_then (count_check (length rs)) x₄ in
    let x₂ : Checked = refuse_if (not (eqb (length ps) (length rs))) (Unequal 0) x₃ in
    let x₁ : Checked = refuse_if (not (eqb (length ds) (length rs))) (Unequal 0) x₂ in
    let a = then_passed (horizon_check h) x₁ e in
    let b = refuse_passed (not (eqb (length ds) (length rs))) (Unequal 0) x₂ a.1 in
    let c = refuse_passed (not (eqb (length ps) (length rs))) (Unequal 0) x₃ b.1 in
    let d = then_passed (count_check (length rs)) x₄ c.1 in
    let f = refuse_passed (ltb 64 (length rs)) (OutOfRange 4) (Ok tt) d.0 in
    record {
      low = (horizon_good h a.0).0;
      high = (horizon_good h a.0).1;
      same_deadlines = eqb-true (length ds) (length rs) (not-false _ b.0);
      same_volumes = eqb-true (length ps) (length rs) (not-false _ c.0);
      few = ltb-false 64 (length rs) f.0;
      good = λ j l. from_good (length rs) 0 h rs ds ps d.1 j (omega arith) (omega arith);
    }

pub passes_passed : (J : Jobs) → Passes J → check_of J ≡ Ok tt
passes_passed J p =
    simp (
      ne_eqb J.horizon 0 (omega arith),
      le-ltb 4096 J.horizon p.high,
      eq-eqb (length J.deadlines) (count J) p.same_deadlines,
      eq-eqb (length J.volumes) (count J) p.same_volumes,
      le-ltb 64 (count J) p.few,
    )
    (from_passes (count J) 0 J.horizon J.releases J.deadlines J.volumes (λ i l m. p.good i (omega arith)))
