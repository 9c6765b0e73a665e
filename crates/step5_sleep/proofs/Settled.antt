-- The pass over the table, from one working slot to the next.
use Prim.Native.Nat.{ℕ, zero, suc, ◌+◌, ◌-◌, ◌≤◌, ◌<◌}
use mathlib.Core.Path.{◌≡◌, refl, sym, ap, ap₂, ◌∙◌}
use mathlib.Core.Bool.{Bool, true, false}
use mathlib.Core.List.{List, [], ◌∷◌, ◌++◌, append_assoc}
use mathlib.Core.Logic.{◌≢◌, ◌⊎◌, inl, inr}
use mathlib.Core.Option.{Option, none, some}
use native.Mathlib.Numerals.{add-one}
use native.Mathlib.Omega.{arith}
use borrow.Author.Tests.{lt-ltb, le-ltb}
use lib.ListN.{length, get_or, take, drop, replicate, length-append, length-drop, length-replicate}
use lib.Dec.{ltb}
use lib.Seq.{length-take-le, drop-cons, drop-drop, drop-length, get_or-drop, take-append-add, drop-append-add, append_snoc}
use Rattle.sched.proofs.Bounded.Laws.{lt_suc}
use Rattle.sched.specs.Buffers.{poured}
use Rattle.sched.specs.Slots.{mark_byte, asleep, works}
use Rattle.steps.specs.Sleep.{stays_awake, sleep_rule}
use Rattle.steps.proofs.Sleep.FromFront.{next_work, slept_from, next_here, next_none, slept_none, slept_work, slept_stretch, rule_from_front}
use Rattle.step5_sleep.specs.Settling.{work_ending}

-- the byte of a stretch

module _ (q : ℕ) (start : Bool) (from to : ℕ) where
  -- before the first working slot, from a start asleep and from a start awake
  pub byte_asleep : start ≡ false → from ≡ 0 → asleep ≡ mark_byte (stays_awake q start (work_ending from) (some to))
  byte_asleep s z = rw (s, z) refl

  pub byte_front : start ≡ true → from ≡ 0 → mark_byte (ltb to q) ≡ mark_byte (stays_awake q start (work_ending from) (some to))
  byte_front s z = rw (s, z) refl

-- behind a working slot
pub byte_behind : (q : ℕ) (start : Bool) (from to : ℕ) → from ≢ 0 → mark_byte (ltb (to - from) q) ≡ mark_byte (stays_awake q start (work_ending from) (some to))
byte_behind q start zero to n = absurd (n refl)
byte_behind q start (suc a) to n = refl

-- of h slots, those before `from` are as the rule has them, and those from there up to slot t do not work
pub record Settled (q : ℕ) (start : Bool) (h : ℕ) (table₀ table : List ℕ) (from t : ℕ) : Type 0 where
  pub long : length table ≡ h
  pub begun : from ≤ t
  pub within : t ≤ h
  pub done : sleep_rule q start table₀ ≡ take from table ++ slept_from q start (work_ending from) from (drop from table)
  pub quiet : (i : ℕ) → from ≤ i → i < t → works (get_or table i 0) ≡ false

pub settled_start : (q : ℕ) (start : Bool) (table : List ℕ) → Settled q start (length table) table table 0 0
settled_start q start table = record {
  long = refl;
  begun = omega arith;
  within = omega arith;
  done = rule_from_front q start table;
  quiet = λ i l m. absurd (omega arith);
}

module _ {q : ℕ} {start : Bool} {h : ℕ} {table₀ table : List ℕ} {from t : ℕ} (s : Settled q start h table₀ table from t) where
  -- the open stretch, by the byte that it gets
  stretch : (byte : ℕ) → byte ≡ mark_byte (stays_awake q start (work_ending from) (next_work t (drop t table))) →
      sleep_rule q start table₀ ≡ (take from table ++ replicate (t - from) byte) ++ slept_from q start (work_ending from) t (drop t table)
  stretch byte e =
      let b = work_ending from in
      let along : from + (t - from) ≡ t = omega (arith, s.begun) in
      let behind : drop (t - from) (drop from table) ≡ drop t table = drop-drop (t - from) from table ∙ ap (λ (n : ℕ). drop n table) along in
      let (next, slept) =
      slept_stretch q start b (t - from) from (drop from table) (omega (arith, length-drop from table, s.long, s.within))
      (λ i l. ap works (get_or-drop from table i 0) ∙ s.quiet (from + i) (omega arith) (omega arith)) in
      s.done
      ∙ ap (λ (r : List ℕ). take from table ++ r)
      (slept
      ∙ ap₂ (λ (n : ℕ) (l : List ℕ). replicate (t - from) (mark_byte (stays_awake q start b (next_work n l))) ++ slept_from q start b n l) along behind
      ∙ ap (λ (x : ℕ). replicate (t - from) x ++ slept_from q start b t (drop t table)) (sym e))
      ∙ sym (append_assoc (take from table) (replicate (t - from) byte) (slept_from q start b t (drop t table)))

  front_long : (byte : ℕ) → length (take from table ++ replicate (t - from) byte) ≡ t
  front_long byte =
      omega (
        arith,
        s.long,
        s.begun,
        s.within,
        length-append (take from table) (replicate (t - from) byte),
        length-take-le from table (omega (arith, s.long, s.begun, s.within)),
        length-replicate (t - from) byte,
      )

  pub settled_rest : t < h → 64 ≤ get_or table t 0 → Settled q start h table₀ table from (t + 1)
  settled_rest l high = record {
    long = s.long;
    begun = omega (arith, s.begun);
    within = omega arith;
    done = s.done;
    quiet = λ i a b. go i a (lt_suc (simp add-one at b));
  }
    where
      go : (i : ℕ) → from ≤ i → (i < t) ⊎ (i ≡ t) → works (get_or table i 0) ≡ false
      go i a (inl m) = s.quiet i a m
      go i a (inr e) = rw e (le-ltb (get_or table t 0) 64 high)

  module _ {byte : ℕ} {table' : List ℕ} (l : t < h) (low : get_or table t 0 < 64)
      (e : byte ≡ mark_byte (stays_awake q start (work_ending from) (some t))) (same : length table' ≡ length table) (p : table' ≡ poured from t byte table) where
    abbrev job : ℕ
    job = get_or table t 0

    abbrev rest : List ℕ
    rest = drop (suc t) table

    abbrev front : List ℕ
    front = take from table ++ replicate (t - from) byte

    w : works job ≡ true
    w = lt-ltb job 64 low

    cut : drop t table ≡ job ∷ rest
    cut = drop-cons table t 0 (omega (arith, s.long))

    ends : length front + 1 ≡ suc t
    ends = omega (arith, front_long byte)

    whole : table' ≡ front ++ (job ∷ rest)
    whole = p ∙ sym (append_assoc (take from table) (replicate (t - from) byte) (drop t table)) ∙ ap (λ (r : List ℕ). front ++ r) cut

    front' : take (suc t) table' ≡ front ++ (job ∷ [])
    front' = ap (take (suc t)) whole ∙ ap (λ (n : ℕ). take n (front ++ (job ∷ rest))) (sym ends) ∙ take-append-add front (job ∷ rest) 1

    rest' : drop (suc t) table' ≡ rest
    rest' = ap (drop (suc t)) whole ∙ ap (λ (n : ℕ). drop n (front ++ (job ∷ rest))) (sym ends) ∙ drop-append-add front (job ∷ rest) 1

    pub settled_work : Settled q start h table₀ table' (t + 1) (t + 1)
    settled_work = simp add-one (record {
      long = same ∙ s.long;
      begun = omega arith;
      within = omega arith;
      done =
          stretch byte (e ∙ ap (λ (o : Option ℕ). mark_byte (stays_awake q start (work_ending from) o)) (sym (ap (next_work t) cut ∙ next_here t job rest w)))
          ∙ ap (λ (r : List ℕ). front ++ r) (ap (slept_from q start (work_ending from) t) cut ∙ slept_work t job rest q start (work_ending from) w)
          ∙ sym (append_snoc front job (slept_from q start (some t) (suc t) rest))
          ∙ ap₂ (λ (f r : List ℕ). f ++ slept_from q start (some t) (suc t) r) (sym front') (sym rest');
      quiet = λ i a b. absurd (omega arith);
    })

  pub settled_end : {table' : List ℕ} → h ≤ t → table' ≡ poured from h asleep table → table' ≡ sleep_rule q start table₀
  settled_end {table'} l p =
      let all : t ≡ h = omega (arith, s.within) in
      let nothing : drop t table ≡ [] = ap (λ (n : ℕ). drop n table) (all ∙ sym s.long) ∙ drop-length table in
      p
      ∙ sym (ap (λ (n : ℕ). poured from n asleep table) all)
      ∙ sym (append_assoc (take from table) (replicate (t - from) asleep) (drop t table))
      ∙ ap (λ (r : List ℕ). (take from table ++ replicate (t - from) asleep) ++ r) (nothing ∙ sym (slept_none q start (work_ending from) t) ∙ ap (slept_from q start (work_ending from) t) (sym nothing))
      ∙ sym (stretch asleep (sym (ap (λ (o : Option ℕ). mark_byte (stays_awake q start (work_ending from) o)) (ap (next_work t) nothing ∙ next_none t) ∙ none_after from)))
    where
      none_after : (n : ℕ) → mark_byte (stays_awake q start (work_ending n) none) ≡ asleep
      none_after zero = refl
      none_after (suc n) = refl
