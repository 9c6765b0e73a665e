-- The table of a run against its states: which job a slot serves, and when a unit of a job is left.
use Prim.Native.Nat.{ℕ, zero, suc, ◌+◌, ◌≤◌, ◌<◌}
use Rattle.std.specs.Prelude.{◌≡◌, refl, Bool, true, false, ◌≢◌, get_or}
use Rattle.std.proofs.Math.Path.{ap}
use Rattle.std.proofs.Common.{sym, ◌∙◌}
use Rattle.std.proofs.Math.Option.{Option, none, some}
use native.Mathlib.Omega.{arith}
use Rattle.std.proofs.Math.Decide.{le_ind}
use Rattle.laws_edf.specs.Run.{Spans, State, chosen, lowered, after, slot_byte, bytes, left}
use Rattle.laws_edf.specs.Pick.{Chosen, View, view}
use Rattle.laws_edf.specs.Units.{lowered_there, lowered_elsewhere}
use Rattle.laws_edf.proofs.Left.{left_falls}
use Rattle.laws_extension.specs.Chain.Ends.{Ends}

-- the job that slot t serves in the run from p
abbrev pub served : Spans → (ℕ → Bool) → State → ℕ → Option ℕ
served F S p t = chosen F (S t) t (left F S p t)

abbrev pub byte_of : Spans → (ℕ → Bool) → State → ℕ → ℕ
byte_of F S p t = slot_byte (S t) (served F S p t)

module _ (F : Spans) (b : Bool) (t : ℕ) (L : State) (j : ℕ) where
  byte_of_job : (o : Option ℕ) → View F b t L o → o ≡ some j → slot_byte b o ≡ j
  byte_of_job none v e = let z : ◌≡◌ {A = ℕ} 0 1 = cc in absurd (omega arith)
  byte_of_job (some k) v e = let q : k ≡ j = cc in rw (v.0, q)

  job_of_byte : F.n ≤ 254 → j < F.n → (c : Bool) → b ≡ c → (o : Option ℕ) → slot_byte c o ≡ j → o ≡ some j
  job_of_byte few l false q o e = absurd (omega arith)
  job_of_byte few l true q none e = absurd (omega arith)
  job_of_byte few l true q (some k) e = ap some e

  kept_where_other : (o : Option ℕ) → o ≢ some j → after L o j ≡ L j
  kept_where_other none f = refl
  kept_where_other (some k) f = lowered_elsewhere L k j (λ e. f (ap some (sym e)))

  less_where_served : (o : Option ℕ) → View F b t L o → o ≡ some j → L j ≡ suc (after L o j)
  less_where_served none v e = let z : ◌≡◌ {A = ℕ} 0 1 = cc in absurd (omega arith)
  less_where_served (some k) v e = let q : k ≡ j = cc in rw (← q) (omega (arith, v.1.able.unit, lowered_there L k))

module _ (F : Spans) (S : ℕ → Bool) (p : State) where
  bytes_from : (h t i : ℕ) → i < h → get_or (bytes F S h t (left F S p t)) i 0 ≡ byte_of F S p (t + i)
  unfolding bytes left
  bytes_from zero t i l = absurd (omega arith)
  bytes_from (suc h) t zero l = let q : t + 0 ≡ t = omega arith in rw q
  bytes_from (suc h) t (suc i) l =
      let q : t + suc i ≡ suc t + i = omega arith in rw q (bytes_from h (suc t) i (omega arith))

  pub table_byte : (H t : ℕ) → t < H → get_or (bytes F S H 0 p) t 0 ≡ byte_of F S p t
  unfolding left
  table_byte H t l = let q : 0 + t ≡ t = omega arith in rw q at (bytes_from H 0 t l)

  pub serves_byte : (t j : ℕ) → served F S p t ≡ some j → byte_of F S p t ≡ j
  serves_byte t j e = byte_of_job F (S t) t (left F S p t) j (served F S p t) (view F (S t) t (left F S p t)) e

  byte_serves : F.n ≤ 254 → (t j : ℕ) → j < F.n → byte_of F S p t ≡ j → served F S p t ≡ some j
  byte_serves few t j l e = job_of_byte F (S t) t (left F S p t) j few l (S t) refl (served F S p t) e

  unserved_keeps : (t j : ℕ) → served F S p t ≢ some j → left F S p (suc t) j ≡ left F S p t j
  unfolding left
  unserved_keeps t j f = kept_where_other F (S t) t (left F S p t) j (served F S p t) f

  pub served_less : (t j : ℕ) → served F S p t ≡ some j → left F S p t j ≡ suc (left F S p (suc t) j)
  unfolding left
  served_less t j e =
      less_where_served F (S t) t (left F S p t) j (served F S p t) (view F (S t) t (left F S p t)) e

  -- a slot that serves a job is awake, and the job is the first of those eligible
  pub served_first : (t j : ℕ) → served F S p t ≡ some j → (S t ≡ true) × Chosen F t (left F S p t) j
  served_first t j e = rw e at (view F (S t) t (left F S p t))

  pub served_lowers : (t j : ℕ) → served F S p t ≡ some j → left F S p (suc t) ≡ lowered (left F S p t) j
  unfolding left
  served_lowers t j e = ap (λ (o : Option ℕ). after (left F S p t) o) e

-- e is one more than the last slot below H that serves j, or 0 where none does
pub record LastServed (F : Spans) (S : ℕ → Bool) (p : State) (H j e : ℕ) : Type 0 where
  pub within : e ≤ H
  pub serves : (t : ℕ) → e ≡ suc t → served F S p t ≡ some j
  pub last : (t : ℕ) → e ≤ t → t < H → served F S p t ≢ some j

module _ {F : Spans} {S : ℕ → Bool} {p : State} {H j e : ℕ} where
  -- the table tells which slot serves a job last
  pub ends_served : F.n ≤ 254 → j < F.n → Ends j H (bytes F S H 0 p) e → LastServed F S p H j e
  ends_served few l c =
      record {
        within = c.within;
        serves = λ t q. byte_serves F S p few t j l (sym (table_byte F S p H t (omega (arith, c.within))) ∙ c.holds t q);
        last = λ t a b s. c.last t a b (table_byte F S p H t b ∙ serves_byte F S p t j s);
      }

  -- after its last slot a job keeps the units that it loses
  pub left_after_last : LastServed F S p H j e → (t : ℕ) → e ≤ t → t ≤ H → left F S p t j ≡ left F S p H j
  left_after_last c t a b =
      sym
      (le_ind (λ m. m ≤ H → left F S p m j ≡ left F S p t j) (λ _. refl)
      (λ m q ih l. unserved_keeps F S p m j (c.last m (omega arith) l) ∙ ih (omega arith)) H b (omega arith))

  pub left_before_last : LastServed F S p H j e → (t : ℕ) → t < e → 0 < left F S p t j
  left_before_last c t l = go e refl l
    where
      go : (f : ℕ) → e ≡ f → t < f → 0 < left F S p t j
      go zero q m = absurd (omega arith)
      go (suc s) q m = omega (arith, served_less F S p s j (c.serves s q), left_falls F S p t s j (omega arith))

  pub last_in_time : LastServed F S p H j e → e ≤ F.d j
  last_in_time c = go e refl
    where
      go : (f : ℕ) → e ≡ f → f ≤ F.d j
      go zero q = omega arith
      go (suc t) q = (served_first F S p t j (c.serves t q)).1.able.before
