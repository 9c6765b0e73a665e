-- 02, card 1, "Say which job field is bad": all that the card changed in the answers of the list checks. `list_check` is what planner, judge, list
-- writer and the search for the tightest interval begin with; for the list reader see `joblist/specs/Theorems/OnlyNumber`.
use Rattle.std.specs.Prelude.{ℕ, ◌≡◌, refl, Bool, true, false, ◌||◌, List, [], ◌↔◌, leb, ltb, eqb, Err, Ok}
use Rattle.std.proofs.Common.{ap, ◌∙◌, inl, inr, arith, eqb-true}
use Rattle.std.proofs.lemmas.Bool.{eqb-false}
use Rattle.sched.specs.Refusals.{number, place, Checked}
use Rattle.sched.specs.Checks.{JobCheck, refuse_if, and_then, job_check}
use Rattle.sched.specs.Checks.{checked_number, checked_values}
use Rattle.sched.proofs.Theorems.RefusesJob.{JobFaultNumber}
use Rattle.sched.specs.declared.Refusal.{Refusal}
use Rattle.sched.specs.declared.Refusal.TheVariants.{EmptySpan, PastHorizon, NoVolume}

-- the check of a job before the card, here to be compared with: 15 where "r not below d, or d above H, or p is 0"
abbrev pub job_check_before : JobCheck
job_check_before h j r d p =
    refuse_if (leb d r) (EmptySpan j)
    (refuse_if (ltb h d) (EmptySpan j)
    (refuse_if (eqb p 0) (EmptySpan j) (Ok tt)))

-- Two answers by their number and values, before and now. A job is refused now exactly when it was before, and it is the same job, since all
-- values are the same; what changes is only the number, from 15 to 25, 15 or 26; and every other number is the same.
pub record OnlyNumber (before now : ℕ) (values_before values_now : List ℕ) : Type 0 where
  pub job : before ≡ 15 ↔ JobFaultNumber now
  pub values : values_before ≡ values_now
  pub others : (JobFaultNumber now → ⊥) → before ≡ now

-- The answer before is the answer now with 25 and 26 told as 15

abbrev told_if : Bool → Refusal → Refusal
told_if true r = EmptySpan (place r)
told_if false r = r

abbrev told15 : Refusal → Refusal
told15 r = told_if (eqb (number r) 25 || eqb (number r) 26) r

abbrev pub coarse : Checked → Checked
coarse (Ok tt) = Ok tt
coarse (Err r) = Err (told15 r)

told_number : (r : Refusal) (a b : Bool) → eqb (number r) 25 ≡ a → eqb (number r) 26 ≡ b →
    OnlyNumber (number (told_if (a || b) r)) (number r) (checked_values (Err (told_if (a || b) r))) (checked_values (Err r))
told_number r true b x y =
    let is : JobFaultNumber (number r) = inl (eqb-true (number r) 25 x) in
    record { job = (λ _. is, λ _. refl); values = refl; others = λ n. absurd (n is) }
told_number r false true x y =
    let is : JobFaultNumber (number r) = inr (inr (eqb-true (number r) 26 y)) in
    record { job = (λ _. is, λ _. refl); values = refl; others = λ n. absurd (n is) }
told_number r false false x y = record { job = (λ e. inr (inl e), back); values = refl; others = λ _. refl }
  where
    back : JobFaultNumber (number r) → number r ≡ 15
    back (inl e) = absurd (eqb-false (number r) 25 x e)
    back (inr (inl e)) = e
    back (inr (inr e)) = absurd (eqb-false (number r) 26 y e)

-- an accepted call has the number 0
pub accepted_same : (values : List ℕ) → OnlyNumber 0 0 values values
accepted_same values = record { job = (λ e. inr (inl e), back); values = refl; others = λ _. refl }
  where
    back : JobFaultNumber 0 → ◌≡◌ {A = ℕ} 0 15
    back (inl e) = absurd (omega arith)
    back (inr (inl e)) = e
    back (inr (inr e)) = absurd (omega arith)

pub coarse_number : (c : Checked) → OnlyNumber (checked_number (coarse c)) (checked_number c) (checked_values (coarse c)) (checked_values c)
coarse_number (Ok tt) = accepted_same []
coarse_number (Err r) = told_number r (eqb (number r) 25) (eqb (number r) 26) refl refl

-- checks in a row, before and now; a refusal that is told by the same number is the same
pub if_coarse : (b : Bool) (r : Refusal) (before now : Checked) → r ≡ told15 r → before ≡ coarse now → refuse_if b r before ≡ coarse (refuse_if b r now)
if_coarse true r before now same e = ap (λ (x : Refusal). Err x) same
if_coarse false r before now same e = e

pub then_coarse : (a b a' b' : Checked) → a ≡ coarse a' → b ≡ coarse b' → and_then a b ≡ coarse (and_then a' b')
then_coarse a b (Ok tt) b' e f = ap (λ (x : Checked). and_then x b) e ∙ f
then_coarse a b (Err r) b' e f = ap (λ (x : Checked). and_then x b) e

-- a check that refuses no job is as it was
pub other_same : (c : Checked) → (JobFaultNumber (checked_number c) → ⊥) → c ≡ coarse c
other_same (Ok tt) other = refl
other_same (Err r) other = ap (λ (x : Refusal). Err x) (by (eqb (number r) 25) (eqb (number r) 26) refl refl)
  where
    by : (a b : Bool) → eqb (number r) 25 ≡ a → eqb (number r) 26 ≡ b → r ≡ told_if (a || b) r
    by true b x y = absurd (other (inl (eqb-true (number r) 25 x)))
    by false true x y = absurd (other (inr (inr (eqb-true (number r) 26 y))))
    by false false x y = refl

-- the check of a job, by whether each test holds
pub job_coarse : (h j r d p : ℕ) → job_check_before h j r d p ≡ coarse (job_check h j r d p)
job_coarse h j r d p = by (leb d r) (ltb h d) (eqb p 0)
  where
    by : (span horizon volume : Bool) →
        refuse_if span (EmptySpan j) (refuse_if horizon (EmptySpan j) (refuse_if volume (EmptySpan j) (Ok tt))) ≡
        coarse (refuse_if horizon (PastHorizon j) (refuse_if span (EmptySpan j) (refuse_if volume (NoVolume j) (Ok tt))))
    by true true volume = refl
    by true false volume = refl
    by false true volume = refl
    by false false true = refl
    by false false false = refl
