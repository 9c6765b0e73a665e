-- What the rest of the plan needs of the sleep rule: working slots stay as they are, so a feasible table stays feasible.
use Rattle.std.specs.Prelude.{ℕ, zero, suc, ◌+◌, ◌-◌, ◌≤◌, ◌<◌, ◌≡◌, refl, Bool, true, false, not, List, [], ◌∷◌, ◌++◌, ◌⊎◌, length, get_or, drop, replicate}
use Rattle.std.proofs.Common.{sym, ap₂, ◌∙◌, append-nil, inl, inr, zero-add, arith, ltb-true, ltb-false, le-ltb, ne_eqb, ext_get_or}
use Rattle.std.proofs.Math.Path.{ap}
use Rattle.std.proofs.Math.Option.{Option, none, some}
use Rattle.std.proofs.Math.Decide.{ℕ_discrete}
use Rattle.std.proofs.lemmas.List.{length-map}
use Rattle.std.proofs.Math.Seq.{drop-length}
use Rattle.sched.proofs.Bounded.Laws.{by_bool, values_length, values_at}
use Rattle.sched.specs.Jobs.{Jobs, count}
use Rattle.sched.specs.Slots.{mark_byte, idle, asleep, wakeful, awake_of, times, works, working_of}
use Rattle.sched.proofs.Slots.Laws.{awake_of_lem, awake_of_length, times_same, times_other}
use Rattle.sched.specs.Feasible.{Feasible}
use Rattle.steps.specs.Sleep.{working, work_before, work_after, stays_awake, idle_at, slept_byte, sleep_rule}
use Rattle.steps.proofs.Sleep.FromFront.{next_work, slept_from, next_none, slept_none, slept_work, slept_rest, slept_stretch, rule_from_front}

mark_rests : (b : Bool) → works (mark_byte b) ≡ false
mark_rests true = refl
mark_rests false = refl

mark_known : (b : Bool) → (mark_byte b ≡ idle) ⊎ (mark_byte b ≡ asleep)
mark_known true = inl refl
mark_known false = inr refl

-- a working slot is awake
pub works_awake : (byte : ℕ) → works byte ≡ true → wakeful byte ≡ true
works_awake byte w = let low = ltb-true byte 64 w in ap not (ne_eqb byte asleep (λ e. absurd (omega arith)))

pub slept_length : (q : ℕ) (start : Bool) (table : List ℕ) → length (sleep_rule q start table) ≡ length table
unfolding sleep_rule
slept_length q start table = values_length (length table) 0 (slept_byte q start table)

-- slot by slot

pub working_of_lem : (table : List ℕ) (t : ℕ) → t < length table → working (working_of table) t ≡ works (get_or table t 0)
working_of_lem [] t l = absurd (omega arith)
working_of_lem (x ∷ table) zero l = refl
working_of_lem (x ∷ table) (suc t) l = working_of_lem table t (omega arith)

module _ (q : ℕ) (start : Bool) (table : List ℕ) (t : ℕ) (l : t < length table) where
  slot : get_or (sleep_rule q start table) t 0 ≡ slept_byte q start table t
  unfolding sleep_rule
  slot = values_at (length table) 0 (slept_byte q start table) t 0 l ∙ ap (slept_byte q start table) (zero-add t)

  pub working_kept : works (get_or table t 0) ≡ true → get_or (sleep_rule q start table) t 0 ≡ get_or table t 0
  working_kept w = let here : working (working_of table) t ≡ true = working_of_lem table t l ∙ w in slot ∙ rw (here, slept_byte)

  others_marked : works (get_or table t 0) ≡ false → get_or (sleep_rule q start table) t 0 ≡ mark_byte (idle_at q start (working_of table) t)
  others_marked w = let here : working (working_of table) t ≡ false = working_of_lem table t l ∙ w in slot ∙ rw (here, slept_byte)

  pub others_rest : works (get_or table t 0) ≡ false → (get_or (sleep_rule q start table) t 0 ≡ idle) ⊎ (get_or (sleep_rule q start table) t 0 ≡ asleep)
  others_rest w = rw (others_marked w) (mark_known (idle_at q start (working_of table) t))

-- "shorter than 0" never holds: with wake cost 0 every slot that does not work sleeps
never_shorter : (start : Bool) (before after : Option ℕ) → stays_awake 0 start before after ≡ false
never_shorter start none none = refl
never_shorter true none (some b) = le-ltb b 0 (omega arith)
never_shorter false none (some b) = refl
never_shorter start (some a) none = refl
never_shorter start (some a) (some b) = le-ltb (b - suc a) 0 (omega arith)

pub free_wakes_sleep : (start : Bool) (table : List ℕ) (t : ℕ) → t < length table → works (get_or table t 0) ≡ false → get_or (sleep_rule 0 start table) t 0 ≡ asleep
free_wakes_sleep start table t l w =
    others_marked 0 start table t l w ∙ ap mark_byte (never_shorter start (work_before (working_of table) t) (work_after (working_of table) t))

-- with no working slot all sleep
pub no_work_sleeps : (q : ℕ) (start : Bool) (table : List ℕ) → ((t : ℕ) → t < length table → works (get_or table t 0) ≡ false) → sleep_rule q start table ≡ replicate (length table) asleep
no_work_sleeps q start table quiet =
    let (next, slept) = slept_stretch q start none (length table) 0 table (omega arith) quiet in
    let none_ahead : next_work (0 + length table) (drop (length table) table) ≡ none =
    ap (next_work (0 + length table)) (drop-length table) ∙ next_none (0 + length table) in
    rule_from_front q start table ∙ slept
    ∙ ap (λ (o : Option ℕ). replicate (length table) (mark_byte (stays_awake q start none o)) ++ slept_from q start none (0 + length table) (drop (length table) table)) none_ahead
    ∙ ap (λ (r : List ℕ). replicate (length table) asleep ++ r)
    (ap (slept_from q start none (0 + length table)) (drop-length table) ∙ slept_none q start none (0 + length table))
    ∙ append-nil (replicate (length table) asleep)

-- the same slots work
working_from : (q : ℕ) (start : Bool) (before : Option ℕ) (t : ℕ) (l : List ℕ) → working_of (slept_from q start before t l) ≡ working_of l
working_from q start before t [] = ap working_of (slept_none q start before t)
working_from q start before t (byte ∷ rest) =
    by_bool (works byte)
    (λ w. ap working_of (slept_work t byte rest q start before w) ∙ ap (λ (W : List Bool). works byte ∷ W) (working_from q start (some t) (suc t) rest))
    (λ w. ap working_of (slept_rest t byte rest q start before w)
    ∙ ap₂ (λ (b : Bool) (W : List Bool). b ∷ W) (mark_rests (stays_awake q start before (next_work (suc t) rest)) ∙ sym w) (working_from q start before (suc t) rest))

pub working_stays : (q : ℕ) (start : Bool) (table : List ℕ) → working_of (sleep_rule q start table) ≡ working_of table
working_stays q start table = ap working_of (rule_from_front q start table) ∙ working_from q start none 0 table

-- each job stands as often as before
times_from : (j q : ℕ) (start : Bool) (before : Option ℕ) (t : ℕ) (l : List ℕ) → j < 64 → times j (slept_from q start before t l) ≡ times j l
times_from j q start before t [] few = ap (times j) (slept_none q start before t)
times_from j q start before t (byte ∷ rest) few =
    by_bool (works byte)
    (λ w. ap (times j) (slept_work t byte rest q start before w) ∙ same_byte (slept_from q start (some t) (suc t) rest) (times_from j q start (some t) (suc t) rest few))
    (λ w. ap (times j) (slept_rest t byte rest q start before w) ∙ no_job (stays_awake q start before (next_work (suc t) rest)) (slept_from q start before (suc t) rest) w (times_from j q start before (suc t) rest few))
  where
    same_byte : (l : List ℕ) → times j l ≡ times j rest → times j (byte ∷ l) ≡ times j (byte ∷ rest)
    same_byte l e = go (ℕ_discrete byte j)
      where
        go : Dec (byte ≡ j) → times j (byte ∷ l) ≡ times j (byte ∷ rest)
        go (yes s) = times_same j byte l s ∙ ap suc e ∙ sym (times_same j byte rest s)
        go (no s) = times_other j byte l s ∙ e ∙ sym (times_other j byte rest s)

    no_job : (b : Bool) (l : List ℕ) → works byte ≡ false → times j l ≡ times j rest → times j (mark_byte b ∷ l) ≡ times j (byte ∷ rest)
    no_job b l w e =
        let high = ltb-false byte 64 w in
        let marked = ltb-false (mark_byte b) 64 (mark_rests b) in
        times_other j (mark_byte b) l (λ s. absurd (omega arith)) ∙ e ∙ sym (times_other j byte rest (λ s. absurd (omega arith)))

-- jobs have numbers below 64, so a feasible table stays feasible
module _ (J : Jobs) (q : ℕ) (start : Bool) (table : List ℕ) (few : count J ≤ 64) (f : Feasible J table) where
  inside : (t : ℕ) → t < J.horizon → t < length table
  inside t l = omega (arith, f.long)

  -- a slot that names a job did so before
  named : (t : ℕ) → t < J.horizon → get_or (sleep_rule q start table) t 0 < count J → get_or (sleep_rule q start table) t 0 ≡ get_or table t 0
  named t l m = by_bool (works (get_or table t 0)) (working_kept q start table t (inside t l)) (λ w. go (others_rest q start table t (inside t l) w))
    where
      go : (get_or (sleep_rule q start table) t 0 ≡ idle) ⊎ (get_or (sleep_rule q start table) t 0 ≡ asleep) → get_or (sleep_rule q start table) t 0 ≡ get_or table t 0
      go (inl e) = absurd (omega arith)
      go (inr e) = absurd (omega arith)

  pub slept_feasible : Feasible J (sleep_rule q start table)
  slept_feasible = record {
    long = slept_length q start table ∙ f.long;
    known = λ t l. by_bool (works (get_or table t 0)) (λ w. rw (working_kept q start table t (inside t l) w) (f.known t l)) (λ w. inr (others_rest q start table t (inside t l) w));
    own = λ t l m. let same = named t l m in rw same (f.own t l (rw same at m));
    exact = λ j l. ap (times j) (rule_from_front q start table) ∙ times_from j q start none 0 table (omega arith) ∙ f.exact j l;
  }

-- the rule goes by the working slots alone: tables in which the same slots work are awake in the same slots after it

module _ (q : ℕ) (start : Bool) (one two : List ℕ) (same : working_of one ≡ working_of two) where
  same_length : length one ≡ length two
  same_length = sym (length-map one works) ∙ ap length same ∙ length-map two works

  slot_alike : (t : ℕ) → t < length one → wakeful (get_or (sleep_rule q start one) t 0) ≡ wakeful (get_or (sleep_rule q start two) t 0)
  slot_alike t l =
      let m : t < length two = omega (arith, same_length) in
      let alike : works (get_or one t 0) ≡ works (get_or two t 0) = sym (working_of_lem one t l) ∙ ap (λ (W : List Bool). working W t) same ∙ working_of_lem two t m in
      by_bool (works (get_or one t 0))
      (λ w.
      let v = sym alike ∙ w in
      ap wakeful (working_kept q start one t l w) ∙ works_awake (get_or one t 0) w ∙ sym (ap wakeful (working_kept q start two t m v) ∙ works_awake (get_or two t 0) v))
      (λ w.
      ap wakeful (others_marked q start one t l w ∙ ap (λ (W : List Bool). mark_byte (idle_at q start W t)) same ∙ sym (others_marked q start two t m (sym alike ∙ w))))

  pub slept_alike : awake_of (sleep_rule q start one) ≡ awake_of (sleep_rule q start two)
  slept_alike =
      ext_get_or false (awake_of (sleep_rule q start one)) (awake_of (sleep_rule q start two))
      (awake_of_length (sleep_rule q start one) ∙ slept_length q start one ∙ same_length ∙ sym (awake_of_length (sleep_rule q start two) ∙ slept_length q start two))
      (λ t l.
      let a : t < length one = omega (arith, awake_of_length (sleep_rule q start one), slept_length q start one) in
      awake_of_lem (sleep_rule q start one) t (omega (arith, slept_length q start one)) ∙ slot_alike t a
      ∙ sym (awake_of_lem (sleep_rule q start two) t (omega (arith, slept_length q start two, same_length))))
