-- 02, card 6: which job a slot of the plan runs, by the words of `specs/JobOfSlot`.
use Rattle.std.specs.Prelude.{ℕ, zero, suc, ◌+◌, ◌-◌, ◌≤◌, ◌<◌, ◌≡◌, Bool, true, false, ◌&&◌, ◌⊎◌, ◌≢◌, length, get_or, take, leb, ltb}
use Rattle.std.proofs.Math.Path.{refl}
use Rattle.std.proofs.Common.{sym, ap, ap₂, subst, ◌∙◌, inl, inr, arith, ltb-true, lt-ltb, le-ltb, leb-true, le-leb}
use mathlib.Core.List.{List, [], ◌∷◌}
use Rattle.std.proofs.Math.Option.{Option, none, some}
use Rattle.std.proofs.Math.Decide.{ℕ_discrete, dec_lt}
use Rattle.sched.specs.Bounded.{last_below}
use Rattle.sched.proofs.Bounded.Laws.{by_bool, and_true, last_some}
use Rattle.sched.specs.Jobs.{Jobs, count, release, deadline, volume}
use Rattle.sched.specs.Checks.{Passes}
use Rattle.sched.specs.Slots.{idle, asleep, times, works, working_of}
use Rattle.sched.proofs.Slots.Laws.{times_none, times_named, times_unnamed}
use Rattle.steps.specs.Workable.{lower}
use Rattle.steps.specs.Extension.{extended}
use Rattle.steps.specs.Table.{runnable, going_on, choice, run_byte, serve, latest_of, fill_by, table_of}
use Rattle.steps.specs.Sleep.{working, work_before, sleep_rule}
use Rattle.steps.proofs.Sleep.Laws.{slept_length, working_of_lem, working_kept, others_rest}
use Rattle.steps.specs.Steps.{table_from, plan_table}
use Rattle.laws_edf.specs.Run.{State, lowered}
use Rattle.laws_edf.specs.Rules.{Soonest, OneOf}
use Rattle.laws_edf.specs.Units.{lowered_there, lowered_elsewhere}
use Rattle.laws_edf.specs.Search.{state_of, state_lowered}
use Rattle.laws_edf.specs.Pick.{First, Earliest}
use Rattle.laws_edf.proofs.GoesOn.{goes_on, goes_on_one, else_lowest, goes_on_alike}
use Rattle.laws_edf.proofs.Table.{choice_earliest}
use Rattle.laws_rivals.proofs.Steps.{from_length, plan_length}
use Rattle.laws_rivals.specs.JobOfSlot.{byte_at, latest_before, open_at, named_job, ByCard, job_in}

-- for slot 1 that is slot 0, and slot 0 has none before it
pub latest_earlier : (latest_before (1 ∷ 0 ∷ []) 1 ≡ some 1) × (latest_before (1 ∷ 0 ∷ []) 0 ≡ none)
unfolding last_below
latest_earlier = (refl, refl)

in_working : (byte : ℕ) → works byte ≡ true → job_in byte ≡ some byte
in_working byte w = rw (w, job_in)

in_other : (byte : ℕ) → works byte ≡ false → job_in byte ≡ none
in_other byte w = rw (w, job_in)

some_injective : (a b : ℕ) → ◌≡◌ {A = Option ℕ} (some a) (some b) → a ≡ b
some_injective a b e = cc

-- a slot without a job runs none of the jobs below 64
in_none : (byte j : ℕ) → j < 64 → job_in byte ≡ none → byte ≢ j
in_none byte j few e q =
    let z : ◌≡◌ {A = Option ℕ} (some byte) none = sym (in_working byte (lt-ltb byte 64 (omega arith))) ∙ e in
    let w : ◌≡◌ {A = ℕ} 0 1 = cc in
    omega arith

in_some : (byte k : ℕ) → job_in byte ≡ some k → byte ≡ k
in_some byte k e =
    by_bool (works byte) (λ w. some_injective byte k (sym (in_working byte w) ∙ e))
    (λ w.
    let z : ◌≡◌ {A = Option ℕ} none (some k) = sym (in_other byte w) ∙ e in
    let v : ◌≡◌ {A = ℕ} 0 1 = cc in
    absurd (omega arith))

-- the latest job, as t rises by one
latest_next : (table : List ℕ) (t : ℕ) → t < length table → latest_before table (suc t) ≡ latest_of (job_in (get_or table t 0)) (latest_before table t)
unfolding last_below
latest_next table t l =
    by_bool (works (get_or table t 0))
    (λ w.
    let here : working (working_of table) t ≡ true = working_of_lem table t l ∙ w in
    let last : work_before (working_of table) (suc t) ≡ some t = rw (here, last_below) in
    rw (in_working (get_or table t 0) w) (ap (byte_at table) last))
    (λ w.
    let here : working (working_of table) t ≡ false = working_of_lem table t l ∙ w in
    let last : work_before (working_of table) (suc t) ≡ work_before (working_of table) t = rw (here, last_below) in
    rw (in_other (get_or table t 0) w) (ap (byte_at table) last))

module _ (J : Jobs) (few : count J ≤ 64) (table : List ℕ) where
  -- the books before slot t are what the table tells
  record Told (t : ℕ) (left : List ℕ) (latest : Option ℕ) : Type 0 where
    units : (j : ℕ) → j < count J → get_or left j 0 ≡ volume J j - times j (take t table)
    last : latest ≡ latest_before table t

  told_start : Told 0 J.volumes none
  unfolding last_below
  told_start = record { units = λ j l. omega (arith, times_none j); last = refl }

  units_next : (t : ℕ) (left : List ℕ) (o : Option ℕ) (j : ℕ) → t < length table → j < count J → job_in (get_or table t 0) ≡ o →
      get_or left j 0 ≡ volume J j - times j (take t table) → get_or (serve left o) j 0 ≡ volume J j - times j (take (suc t) table)
  units_next t left none j l m e u = omega (arith, times_unnamed j t table l (in_none (get_or table t 0) j (omega arith) e))
  units_next t left (some k) j l m e u = go (ℕ_discrete j k)
    where
      at : (i : ℕ) → get_or (lower left k) i 0 ≡ lowered (state_of left) k i
      at i = ap (λ (L : State). L i) (state_lowered left k)

      byte : get_or table t 0 ≡ k
      byte = in_some (get_or table t 0) k e

      go : Dec (j ≡ k) → get_or (lower left k) j 0 ≡ volume J j - times j (take (suc t) table)
      go (yes q) = omega (arith, at j, ap (lowered (state_of left) k) q, lowered_there (state_of left) k, ap (state_of left) q, times_named j t table l (byte ∙ sym q), u)
      go (no q) = omega (arith, at j, lowered_elsewhere (state_of left) k j q, times_unnamed j t table l (λ s. q (omega (arith, byte, s))), u)

  told_next : (t : ℕ) (left : List ℕ) (latest o : Option ℕ) → t < length table → job_in (get_or table t 0) ≡ o → Told t left latest → Told (suc t) (serve left o) (latest_of o latest)
  told_next t left latest o l e told =
      record {
        units = λ j m. units_next t left o j l m e (told.units j m);
        last = ap₂ latest_of (sym e) told.last ∙ sym (latest_next table t l);
      }

  -- so the sentence names the job that step 4 takes
  open_is : (t : ℕ) (left : List ℕ) (latest : Option ℕ) → Told t left latest → (j : ℕ) → j < count J → open_at J table t j ≡ runnable J t left j
  open_is t left latest told j l = ap (λ (b : Bool). leb (release J j) t && b) (go (dec_lt (times j (take t table)) (volume J j)))
    where
      go : Dec (times j (take t table) < volume J j) → ltb (times j (take t table)) (volume J j) ≡ ltb 0 (get_or left j 0)
      go (yes m) = lt-ltb (times j (take t table)) (volume J j) m ∙ sym (lt-ltb 0 (get_or left j 0) (omega (arith, told.units j l)))
      go (no n) = le-ltb (times j (take t table)) (volume J j) (omega arith) ∙ sym (le-ltb 0 (get_or left j 0) (omega (arith, told.units j l)))

  named_is : (t : ℕ) (left : List ℕ) (latest : Option ℕ) → Told t left latest → named_job J table t ≡ choice J t left latest
  named_is t left latest told =
      goes_on_alike (deadline J) (open_at J table t) (runnable J t left) (count J) (latest_before table t) (open_is t left latest told)
      ∙ ap (choice J t left) (sym told.last)

  -- from slot t on the table runs the jobs of l; where l has none, it may mark the slot idle or asleep
  abbrev Runs : ℕ → List ℕ → Type 0
  Runs t l = (i : ℕ) → i < length l → (t + i < length table) × (job_in (get_or table (t + i) 0) ≡ job_in (get_or l i 0))

  byte_in : (o : Option ℕ) (f : ℕ → Bool) → OneOf (deadline J) f (count J) o → job_in (run_byte o) ≡ o
  byte_in none f v = refl
  byte_in (some k) f v = in_working k (lt-ltb k 64 (omega (arith, v.below)))

  chosen_in : (t : ℕ) (left : List ℕ) (latest : Option ℕ) → job_in (run_byte (choice J t left latest)) ≡ choice J t left latest
  chosen_in t left latest = byte_in (choice J t left latest) (runnable J t left) (choice_earliest J t left latest)

  module _ (t x : ℕ) (rest : List ℕ) (same : Runs t (x ∷ rest)) where
    head : (t < length table) × (job_in (get_or table t 0) ≡ job_in x)
    head = let e : t + 0 ≡ t = omega arith in rw e at (same 0 (omega arith))

    tail : Runs (suc t) rest
    tail i l = let e : t + suc i ≡ suc t + i = omega arith in rw e at (same (suc i) (omega arith))

  -- one slot, which runs o, and those behind it
  slot : (t : ℕ) (left : List ℕ) (latest o : Option ℕ) (n : ℕ) → t < length table → job_in (get_or table t 0) ≡ o → Told t left latest →
      (works (get_or table t 0) ≡ true → choice J t left latest ≡ o) → (Told (suc t) (serve left o) (latest_of o latest) → (i : ℕ) → i < n → ByCard J table (suc t + i)) →
      (i : ℕ) → i < suc n → ByCard J table (t + i)
  slot t left latest o n l here told is behind zero m =
      let e : t ≡ t + 0 = omega arith in
      subst (ByCard J table) e (λ w. named_is t left latest told ∙ is w ∙ sym here ∙ in_working (get_or table t 0) w)
  slot t left latest o n l here told is behind (suc i) m =
      let e : suc t + i ≡ t + suc i = omega arith in
      subst (ByCard J table) e (behind (told_next t left latest o l here told) i (omega arith))

  walk : (S : List Bool) (t : ℕ) (left : List ℕ) (latest : Option ℕ) → Runs t (fill_by (choice J) t left latest S) → Told t left latest → (i : ℕ) → i < length S → ByCard J table (t + i)
  unfolding fill_by
  walk [] t left latest same told = λ i m. absurd (omega arith)
  walk (false ∷ S) t left latest same told =
      let rest = fill_by (choice J) (suc t) left latest S in
      let (l, here) = head t asleep rest same in
      slot t left latest none (length S) l here told (λ w. absurd (in_none (get_or table t 0) (get_or table t 0) (ltb-true (get_or table t 0) 64 w) here refl))
      (walk S (suc t) left latest (tail t asleep rest same))
  walk (true ∷ S) t left latest same told =
      let o = choice J t left latest in
      let rest = fill_by (choice J) (suc t) (serve left o) (latest_of o latest) S in
      let (l, here) = head t (run_byte o) rest same in
      slot t left latest o (length S) l (here ∙ chosen_in t left latest) told (λ w. refl) (walk S (suc t) (serve left o) (latest_of o latest) (tail t (run_byte o) rest same))

-- the sleep rule changes no job
job_kept : (q : ℕ) (start : Bool) (table : List ℕ) (t : ℕ) → t < length table → job_in (get_or (sleep_rule q start table) t 0) ≡ job_in (get_or table t 0)
job_kept q start table t l =
    by_bool (works (get_or table t 0)) (λ w. ap job_in (working_kept q start table t l w)) (λ w. marked (others_rest q start table t l w) ∙ sym (in_other (get_or table t 0) w))
  where
    marked : (get_or (sleep_rule q start table) t 0 ≡ idle) ⊎ (get_or (sleep_rule q start table) t 0 ≡ asleep) → job_in (get_or (sleep_rule q start table) t 0) ≡ none
    marked (inl e) = ap job_in e
    marked (inr e) = ap job_in e

-- Each working slot runs the job that the card's sentence names: in the table of any set of slots,
job_from : (J : Jobs) (S : List Bool) → Passes J → (t : ℕ) → t < length (table_from J S) → ByCard J (table_from J S) t
unfolding table_from table_of
job_from J S p t l =
    let e : 0 + t ≡ t = omega arith in
    subst (ByCard J (table_from J S)) e
    (walk J p.few (table_from J S) S 0 J.volumes none same (told_start J p.few (table_from J S)) t (omega (arith, from_length J S p)))
  where
    same : Runs J p.few (table_from J S) 0 (table_of J S)
    same i m =
        let e : i ≡ 0 + i = omega arith in
        subst (λ (s : ℕ). (s < length (table_from J S)) × (job_in (get_or (table_from J S) s 0) ≡ job_in (get_or (table_of J S) i 0))) e
        (omega (arith, slept_length J.wake J.start (table_of J S)), job_kept J.wake J.start (table_of J S) i m)

-- and so in the plan's
pub job_of_slot : (J : Jobs) → Passes J → (t : ℕ) → t < J.horizon → works (get_or (plan_table J) t 0) ≡ true → named_job J (plan_table J) t ≡ some (get_or (plan_table J) t 0)
unfolding plan_table
job_of_slot J p t l = job_from J (extended J) p t (omega (arith, plan_length J p))

-- "Do not swap jobs on a tie"

module _ (J : Jobs) (table : List ℕ) (by_card : (t : ℕ) → t < length table → ByCard J table t) where
  -- a job that runs is open, and of the open jobs none is due earlier
  soonest : (t : ℕ) → t < length table → works (get_or table t 0) ≡ true → Soonest (deadline J) (open_at J table t) (count J) (get_or table t 0)
  soonest t l w =
      subst (OneOf (deadline J) (open_at J table t) (count J)) (by_card t l w) (goes_on_one (deadline J) (open_at J table t) (count J) (latest_before table t))

  -- the slot in which the latest job ran
  ran : (t k : ℕ) → t ≤ length table → latest_before table t ≡ some k → (i : ℕ) × (i < t) × (works (get_or table i 0) ≡ true) × (get_or table i 0 ≡ k)
  ran t k l e = by_last (work_before (working_of table) t) refl e
    where
      by_last : (o : Option ℕ) → work_before (working_of table) t ≡ o → byte_at table o ≡ some k → (i : ℕ) × (i < t) × (works (get_or table i 0) ≡ true) × (get_or table i 0 ≡ k)
      by_last none q e = let z : ◌≡◌ {A = ℕ} 0 1 = cc in absurd (omega arith)
      by_last (some i) q e =
          let at = last_some t (working (working_of table)) i q in
          (i, at.below, sym (working_of_lem table i (omega (arith, at.below))) ∙ at.holds, some_injective (get_or table i 0) k e)

  gives_way : (t k : ℕ) → t < length table → works (get_or table t 0) ≡ true → latest_before table t ≡ some k → get_or table t 0 ≢ k →
      (volume J k ≤ times k (take t table)) ⊎ (deadline J (get_or table t 0) < deadline J k)
  gives_way t k l w e other = go (dec_lt (times k (take t table)) (volume J k)) (dec_lt (deadline J (get_or table t 0)) (deadline J k))
    where
      now : Soonest (deadline J) (open_at J table t) (count J) (get_or table t 0)
      now = soonest t l w

      -- an unfinished job that is due no later would be one of the soonest
      still : times k (take t table) < volume J k → deadline J k ≤ deadline J (get_or table t 0) → Soonest (deadline J) (open_at J table t) (count J) k
      still unit due =
          let (i, before, worked, is) = ran t k (omega arith) e in
          let then : Soonest (deadline J) (open_at J table i) (count J) k = subst (Soonest (deadline J) (open_at J table i) (count J)) is (soonest i (omega arith) worked) in
          let released = leb-true (release J k) i (and_true (leb (release J k) i) (ltb (times k (take i table)) (volume J k)) then.holds).0 in
          record {
            below = then.below;
            holds = rw (le-leb (release J k) t (omega arith), lt-ltb (times k (take t table)) (volume J k) unit);
            first = λ j m h. omega (arith, now.first j m h);
          }

      go : Dec (times k (take t table) < volume J k) → Dec (deadline J (get_or table t 0) < deadline J k) → (volume J k ≤ times k (take t table)) ⊎ (deadline J (get_or table t 0) < deadline J k)
      go (no done) due = inl (omega arith)
      go (yes unit) (yes due) = inr due
      go (yes unit) (no due) =
          let on : going_on (deadline J) (open_at J table t) (count J) (some k) ≡ some k = goes_on (deadline J) (open_at J table t) (count J) k (still unit (omega arith)) in
          absurd (other (some_injective (get_or table t 0) k (sym (by_card t l w) ∙ ap (going_on (deadline J) (open_at J table t) (count J)) e ∙ on)))

-- "If it is not among them, the lowest number runs": where a slot does not go on with the latest job, every open job of a lower number is due later than its own
pub lowest_else : (J : Jobs) → Passes J → (t : ℕ) → t < J.horizon → works (get_or (plan_table J) t 0) ≡ true → (latest_before (plan_table J) t ≡ some (get_or (plan_table J) t 0) → ⊥) →
    (j : ℕ) → j < get_or (plan_table J) t 0 → open_at J (plan_table J) t j ≡ true → deadline J (get_or (plan_table J) t 0) < deadline J j
lowest_else J p t l w other j less is_open = go (dec_lt (deadline J k) (deadline J j))
  where
    k : ℕ
    k = get_or (plan_table J) t 0

    lowest : Earliest (deadline J) (open_at J (plan_table J) t) (count J) k
    lowest = else_lowest (deadline J) (open_at J (plan_table J) t) (count J) (latest_before (plan_table J) t) k (job_of_slot J p t l w) other

    before : First (deadline J) k j
    before = lowest.first j (omega (arith, lowest.below)) is_open

    go : Dec (deadline J k < deadline J j) → deadline J k < deadline J j
    go (yes later) = later
    go (no n) = absurd (omega (arith, before.lower (omega arith)))

-- a job gives way to another only once it is finished, or to a job that is due earlier
pub no_swap : (J : Jobs) → Passes J → (t k : ℕ) → t < J.horizon → works (get_or (plan_table J) t 0) ≡ true → latest_before (plan_table J) t ≡ some k → get_or (plan_table J) t 0 ≢ k →
    (volume J k ≤ times k (take t (plan_table J))) ⊎ (deadline J (get_or (plan_table J) t 0) < deadline J k)
no_swap J p t k l = gives_way J (plan_table J) (λ s m. job_of_slot J p s (omega (arith, plan_length J p))) t k (omega (arith, plan_length J p))
