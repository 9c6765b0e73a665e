-- The list of runs has each longest stretch once, in rising order, and as many as `runs` counts; and it is found stretch by stretch.
use Rattle.std.specs.Prelude.{ℕ, zero, suc, ◌+◌, ◌-◌, ◌≤◌, ◌<◌, ◌≡◌, refl, Bool, true, false, ◌⊎◌, length, get_or, drop}
use Rattle.std.proofs.Common.{sym, ap, ◌∙◌, inl, inr, zero-add, suc-add, add-suc, add-zero, le_refl, arith, drop_of_length-le, drop-drop, get_or-drop}
use mathlib.Core.List.Memᴰ
use mathlib.Core.List.{List, [], ◌∷◌, Memᴰ}
use Rattle.std.proofs.Math.Decide.{dec_lt}
use Rattle.std.proofs.Math.ListN.{get_or-eq_default}
use Rattle.sched.proofs.Bounded.Laws.{true_not_false}
use Rattle.sched.specs.Slots.{awake, awake_before}
use Rattle.sched.specs.Energy.{runs_from}
use Rattle.sched.specs.Runs.{Run, Longest, leading, run_list_from, run_list, Apart, ListsRuns, StretchEnd}

as_many_as_runs : (b : Bool) (t : ℕ) (S : List Bool) → length (run_list_from b t S) ≡ runs_from b S
unfolding run_list_from runs_from
as_many_as_runs b t [] = refl
as_many_as_runs true t (false ∷ S) = as_many_as_runs false (suc t) S
as_many_as_runs false t (false ∷ S) = as_many_as_runs false (suc t) S
as_many_as_runs true t (true ∷ S) = as_many_as_runs true (suc t) S
as_many_as_runs false t (true ∷ S) = ap suc (as_many_as_runs true (suc t) S)

-- the awake slots at the front

leading_awake : (S : List Bool) (i : ℕ) → i < leading S → get_or S i false ≡ true
unfolding leading
leading_awake [] i l = absurd (omega arith)
leading_awake (false ∷ S) i l = absurd (omega arith)
leading_awake (true ∷ S) zero l = refl
leading_awake (true ∷ S) (suc i) l = leading_awake S i (omega arith)

leading_ends : (S : List Bool) → get_or S (leading S) false ≡ false
unfolding leading
leading_ends [] = refl
leading_ends (false ∷ S) = refl
leading_ends (true ∷ S) = leading_ends S

leading_is : (S : List Bool) (l : ℕ) → ((i : ℕ) → i < l → get_or S i false ≡ true) → get_or S l false ≡ false → l ≡ leading S
unfolding leading
leading_is [] zero inside after = refl
leading_is [] (suc l) inside after = true_not_false false (inside 0 (omega arith)) refl
leading_is (false ∷ S) zero inside after = refl
leading_is (false ∷ S) (suc l) inside after = true_not_false false (inside 0 (omega arith)) refl
leading_is (true ∷ S) zero inside after = true_not_false true refl after
leading_is (true ∷ S) (suc l) inside after = ap suc (leading_is S l (λ i m. inside (suc i) (omega arith)) after)

-- a longest stretch of S, whose slots are counted from S's first one; the Bool is the state before

before : Bool → List Bool → ℕ → Bool
before b S zero = b
before b S (suc a) = awake S a

record LongestFrom (b : Bool) (S : List Bool) (a l : ℕ) : Type 0 where
  some : 1 ≤ l
  asleep_before : before b S a ≡ false
  inside : (i : ℕ) → i < l → awake S (a + i) ≡ true
  after : awake S (a + l) ≡ false

before_shift : (b x : Bool) (S : List Bool) (a : ℕ) → before b (x ∷ S) (suc a) ≡ before x S a
unfolding before
before_shift b x S zero = refl
before_shift b x S (suc a) = refl

-- one slot more in front, and one less
shift : (b x : Bool) (S : List Bool) (a l : ℕ) → LongestFrom x S a l → LongestFrom b (x ∷ S) (suc a) l
shift b x S a l r =
    record {
      some = r.some;
      asleep_before = before_shift b x S a ∙ r.asleep_before;
      inside = λ i m. rw suc-add (r.inside i m);
      after = rw suc-add r.after;
    }

unshift : (b x : Bool) (S : List Bool) (a l : ℕ) → LongestFrom b (x ∷ S) (suc a) l → LongestFrom x S a l
unshift b x S a l r =
    record {
      some = r.some;
      asleep_before = sym (before_shift b x S a) ∙ r.asleep_before;
      inside = λ i m. rw suc-add at (r.inside i m);
      after = rw suc-add at r.after;
    }

-- the stretch that begins with the first slot
first_stretch : (S : List Bool) → LongestFrom false (true ∷ S) 0 (suc (leading S))
unfolding before leading
first_stretch S =
    record {
      some = omega arith;
      asleep_before = refl;
      inside = λ i m. rw zero-add (leading_awake (true ∷ S) i m);
      after = rw zero-add (leading_ends (true ∷ S));
    }

-- where a listed stretch lies
record Lies (b : Bool) (t : ℕ) (S : List Bool) (r : Run) : Type 0 where
  at : ℕ
  place : r.first ≡ t + at
  longest : LongestFrom b S at r.slots

later : (b x : Bool) (t : ℕ) (S : List Bool) (r : Run) → Lies x (suc t) S r → Lies b t (x ∷ S) r
later b x t S r k =
    record { at = suc k.at; place = omega (arith, k.place); longest = shift b x S k.at r.slots k.longest }

listed_lies : (b : Bool) (t : ℕ) (S : List Bool) (r : Run) → Memᴰ r (run_list_from b t S) → Lies b t S r
unfolding run_list_from
listed_lies b t [] r m = absurd (Memᴰ.not-nil m)
listed_lies true t (false ∷ S) r m = later true false t S r (listed_lies false (suc t) S r m)
listed_lies false t (false ∷ S) r m = later false false t S r (listed_lies false (suc t) S r m)
listed_lies true t (true ∷ S) r m = later true true t S r (listed_lies true (suc t) S r m)
listed_lies false t (true ∷ S) r m = go (Memᴰ.cases_cons m) (λ w. listed_lies true (suc t) S r w)
  where
    go : (r ≡ record { first = t; slots = suc (leading S) }) ⊎ Memᴰ r (run_list_from true (suc t) S) → (Memᴰ r (run_list_from true (suc t) S) → Lies true (suc t) S r) → Lies false t (true ∷ S) r
    go (inl e) ih =
        record { at = 0; place = ap (λ (s : Run). s.first) e ∙ sym (add-zero t); longest = rw (ap (λ (s : Run). s.slots) e) (first_stretch S) }
    go (inr w) ih = later false true t S r (ih w)

-- a longest stretch of the rest is listed with its place
moved : (t a l : ℕ) (rs : List Run) → Memᴰ (record { first = suc t + a; slots = l }) rs → Memᴰ (record { first = t + suc a; slots = l }) rs
moved t a l rs m = let e : t + suc a ≡ suc t + a = omega arith in rw e m

lies_listed : (b : Bool) (t : ℕ) (S : List Bool) (a l : ℕ) → LongestFrom b S a l → Memᴰ (record { first = t + a; slots = l }) (run_list_from b t S)
unfolding run_list_from before leading
lies_listed b t [] a l r = true_not_false false (r.inside 0 r.some) refl
lies_listed true t (false ∷ S) zero l r = true_not_false false (r.inside 0 r.some) refl
lies_listed false t (false ∷ S) zero l r = true_not_false false (r.inside 0 r.some) refl
lies_listed true t (false ∷ S) (suc a) l r =
    moved t a l (run_list_from false (suc t) S) (lies_listed false (suc t) S a l (unshift true false S a l r))
lies_listed false t (false ∷ S) (suc a) l r =
    moved t a l (run_list_from false (suc t) S) (lies_listed false (suc t) S a l (unshift false false S a l r))
lies_listed true t (true ∷ S) zero l r = true_not_false true refl r.asleep_before
lies_listed true t (true ∷ S) (suc a) l r =
    moved t a l (run_list_from true (suc t) S) (lies_listed true (suc t) S a l (unshift true true S a l r))
lies_listed false t (true ∷ S) zero l r =
    let e : l ≡ suc (leading S) = leading_is (true ∷ S) l (λ i m. rw zero-add at (r.inside i m)) (rw zero-add at r.after) in
    let q : ◌≡◌ {A = Run} (record { first = t + 0; slots = l }) (record { first = t; slots = suc (leading S) }) = rw (add-zero t, e) in
    Memᴰ.head q
lies_listed false t (true ∷ S) (suc a) l r =
    Memᴰ.tail (moved t a l (run_list_from true (suc t) S) (lies_listed true (suc t) S a l (unshift false true S a l r)))

-- from the start of the set

before_is : (S : List Bool) (a : ℕ) → awake_before S a ≡ before false S a
unfolding before
before_is S zero = refl
before_is S (suc a) = refl

listed_longest : (S : List Bool) (r : Run) → Memᴰ r (run_list S) → Longest S r
listed_longest S r m =
    let k = listed_lies false 0 S r m in
    let e : r.first ≡ k.at = k.place ∙ zero-add k.at in
    record {
      some = k.longest.some;
      before = before_is S r.first ∙ ap (before false S) e ∙ k.longest.asleep_before;
      inside = λ i l. rw e (k.longest.inside i l);
      after = rw e k.longest.after;
    }

longest_listed : (S : List Bool) (r : Run) → Longest S r → Memᴰ r (run_list S)
longest_listed S r k =
    rw zero-add at (lies_listed false 0 S r.first r.slots
    (record {
      some = k.some;
      asleep_before = sym (before_is S r.first) ∙ k.before;
      inside = k.inside;
      after = k.after;
    }))

-- rising, with a sleeping slot between neighbours

apart_earlier : (m n : ℕ) (rs : List Run) → m ≤ n → Apart n rs → Apart m rs
unfolding Apart
apart_earlier m n [] l a = a
apart_earlier m n (r ∷ rs) l a = (omega (arith, a.0), a.1)

-- in a run the next one begins behind it
next_from : Bool → ℕ → List Bool → ℕ
next_from false t S = t
next_from true t S = suc (t + leading S)

apart_from : (b : Bool) (t : ℕ) (S : List Bool) → Apart (next_from b t S) (run_list_from b t S)
unfolding Apart run_list_from next_from leading
apart_from b t [] = tt
apart_from true t (false ∷ S) = rw add-zero (apart_from false (suc t) S)
apart_from false t (false ∷ S) = apart_earlier t (suc t) (run_list_from false (suc t) S) (omega arith) (apart_from false (suc t) S)
apart_from true t (true ∷ S) = rw (add-suc t (leading S), ← suc-add t (leading S)) (apart_from true (suc t) S)
apart_from false t (true ∷ S) = (le_refl t, rw (add-suc t (leading S), ← suc-add t (leading S)) (apart_from true (suc t) S))

stretches_apart : (S : List Bool) → Apart 0 (run_list S)
unfolding next_from
stretches_apart S = apart_from false 0 S

-- The runs of a set are its longest stretches.
pub runs_are_longest_stretches : (S : List Bool) → ListsRuns S (run_list S)
runs_are_longest_stretches S =
    record {
      count = as_many_as_runs false 0 S;
      longest = listed_longest S;
      every = longest_listed S;
      apart = stretches_apart S;
    }

-- stretch by stretch: k sleeping slots have no run

skip_asleep : (k t : ℕ) (S : List Bool) → ((i : ℕ) → i < k → get_or S i false ≡ false) → run_list_from false t S ≡ run_list_from false (t + k) (drop k S)
unfolding run_list_from
skip_asleep zero t S inside = ap (λ (n : ℕ). run_list_from false n S) (sym (add-zero t))
skip_asleep (suc k) t [] inside = refl
skip_asleep (suc k) t (true ∷ S) inside = true_not_false true refl (inside 0 (omega arith))
skip_asleep (suc k) t (false ∷ S) inside =
    let e : suc t + k ≡ t + suc k = omega arith in
    skip_asleep k (suc t) S (λ i l. inside (suc i) (omega arith)) ∙ ap (λ (n : ℕ). run_list_from false n (drop k S)) e

-- k awake slots belong to a run that has begun, or are the next one

skip_awake : (k t : ℕ) (S : List Bool) → ((i : ℕ) → i < k → get_or S i false ≡ true) → get_or S k false ≡ false → run_list_from true t S ≡ run_list_from false (t + k) (drop k S)
unfolding run_list_from
skip_awake zero t [] inside after = refl
skip_awake zero t (true ∷ S) inside after = true_not_false true refl after
skip_awake zero t (false ∷ S) inside after = ap (λ (n : ℕ). run_list_from false (suc n) S) (sym (add-zero t))
skip_awake (suc k) t [] inside after = true_not_false false (inside 0 (omega arith)) refl
skip_awake (suc k) t (false ∷ S) inside after = true_not_false false (inside 0 (omega arith)) refl
skip_awake (suc k) t (true ∷ S) inside after =
    let e : suc t + k ≡ t + suc k = omega arith in
    skip_awake k (suc t) S (λ i l. inside (suc i) (omega arith)) after ∙ ap (λ (n : ℕ). run_list_from false n (drop k S)) e

take_awake : (k t : ℕ) (S : List Bool) → 1 ≤ k → ((i : ℕ) → i < k → get_or S i false ≡ true) → get_or S k false ≡ false → run_list_from false t S ≡ record { first = t; slots = k } ∷ run_list_from false (t + k) (drop k S)
unfolding run_list_from
take_awake zero t S some inside after = absurd (omega arith)
take_awake (suc k) t [] some inside after = true_not_false false (inside 0 (omega arith)) refl
take_awake (suc k) t (false ∷ S) some inside after = true_not_false false (inside 0 (omega arith)) refl
take_awake (suc k) t (true ∷ S) some inside after =
    let tail : (i : ℕ) → i < k → get_or S i false ≡ true = λ i l. inside (suc i) (omega arith) in
    let e : suc t + k ≡ t + suc k = omega arith in
    let long : leading S ≡ k = sym (leading_is S k tail after) in
    let rest : run_list_from true (suc t) S ≡ run_list_from false (t + suc k) (drop k S) =
    skip_awake k (suc t) S tail after ∙ ap (λ (n : ℕ). run_list_from false n (drop k S)) e in
    rw (long, rest)

-- the runs of a set from slot t on, where none is under way
abbrev pub runs_left : List Bool → ℕ → List Run
runs_left S t = run_list_from false t (drop t S)

-- none behind the last slot
pub none_left : (S : List Bool) (t : ℕ) → length S ≤ t → runs_left S t ≡ []
unfolding run_list_from
none_left S t l = ap (run_list_from false t) (drop_of_length-le S {i = t} l)

module _ (S : List Bool) (n from end : ℕ) where
  slot : (i : ℕ) → get_or (drop from S) i false ≡ awake S (from + i)
  slot i = get_or-drop from S i false

  moved_to : from ≤ end → run_list_from false (from + (end - from)) (drop (end - from) (drop from S)) ≡ runs_left S end
  moved_to l =
      let e : from + (end - from) ≡ end = omega arith in
      ap (run_list_from false (from + (end - from))) (drop-drop (end - from) from S) ∙ ap (runs_left S) e

  -- a sleeping stretch is passed
  pub stretch_asleep : StretchEnd S n from false end → runs_left S from ≡ runs_left S end
  stretch_asleep s =
      skip_asleep (end - from) from (drop from S) (λ i l. slot i ∙ s.inside (from + i) (omega arith) (omega arith)) ∙ moved_to s.starts

  -- an awake one is the next run
  pub stretch_awake : length S ≡ n → StretchEnd S n from true end → from < end → runs_left S from ≡ record { first = from; slots = end - from } ∷ runs_left S end
  stretch_awake long s l =
      take_awake (end - from) from (drop from S) (omega arith) (λ i m. slot i ∙ s.inside (from + i) (omega arith) (omega arith))
      (slot (end - from) ∙ ap (awake S) (let e : from + (end - from) ≡ end = omega arith in e) ∙ ends (dec_lt end n))
      ∙ ap (λ (rest : List Run). record { first = from; slots = end - from } ∷ rest) (moved_to s.starts)
    where
      ends : Dec (end < n) → awake S end ≡ false
      ends (yes m) = s.turns m
      ends (no m) = get_or-eq_default S false (omega arith)
