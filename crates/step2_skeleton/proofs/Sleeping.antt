-- The loops of a turn of the pass that prices the places: what sleep costs, where a run is best ended, what sleep costs with one job more.
use Prim.Native.Nat.{ℕ, suc, ◌+◌, ◌≤◌, ◌<◌}
use mathlib.Core.Path.{◌≡◌, sym, ap, ◌∙◌}
use mathlib.Core.Bool.{Bool, true, false, ◌&&◌, ◌||◌}
use mathlib.Core.List.{List, ◌∷◌, map}
use native.Mathlib.Numerals.{add-one}
use native.Mathlib.Omega.{arith}
use Rattle.std.proofs.lemmas.List.{get_or-take, length-take-le}
use lib.ListN.{length, get_or, drop, take, length-map, drop_of_length-le}
use lib.Seq.{drop-cons}
use lib.Dec.{leb, ltb, eqb}
use Rattle.sched.proofs.Bounded.Laws.{by_bool}
use Rattle.sched.specs.Jobs.{Jobs}
use Rattle.laws_skeleton.specs.Windows.{window_start}
use Rattle.laws_skeleton.specs.Runs.{sleep_cost, through_cost, takes, run_end}
use Rattle.laws_skeleton.proofs.Runs.Clauses.{sleep_none, sleep_wakes, sleep_skips, run_end_none, run_end_takes, run_end_keeps}
use Rattle.orders.specs.Placing.{map_at}
use Rattle.step2_skeleton.specs.declared.Ending.{Ending}
use Rattle.step2_skeleton.specs.Places.{one_of, wins, SleepFrom, Rests, EndFrom}

-- by place and by job
module _ (J : Jobs) (ranks starts : List ℕ) (e : starts ≡ map (window_start J) ranks) where
  pub starts_many : length starts ≡ length ranks
  starts_many = ap length e ∙ length-map ranks (window_start J)

  pub start_at : (k : ℕ) → k < length starts → get_or starts k 0 ≡ window_start J (get_or ranks k 0)
  start_at k l = ap (λ (s : List ℕ). get_or s k 0) e ∙ map_at (window_start J) ranks k (omega (arith, starts_many))

  -- what sleep costs

  module _ (numbers : List ℕ) (same : length numbers ≡ length starts) (s k : ℕ) where
    head : k < length starts → sleep_cost J s (drop k ranks) (drop k numbers)
        ≡ sleep_cost J s (get_or ranks k 0 ∷ drop (suc k) ranks) (get_or numbers k 0 ∷ drop (suc k) numbers)
    head l =
        ap (λ (js : List ℕ). sleep_cost J s js (drop k numbers)) (drop-cons ranks k 0 (omega (arith, starts_many)))
        ∙ ap (sleep_cost J s (get_or ranks k 0 ∷ drop (suc k) ranks)) (drop-cons numbers k 0 (omega arith))

    pub sleep_past : k < length starts → get_or starts k 0 < s
        → sleep_cost J s (drop k ranks) (drop k numbers) ≡ sleep_cost J s (drop (k + 1) ranks) (drop (k + 1) numbers)
    sleep_past l m = simp add-one (head l ∙ sleep_skips J s (get_or ranks k 0) (get_or numbers k 0) (drop (suc k) ranks) (drop (suc k) numbers)
        (omega (arith, start_at k l)))

    pub sleep_here : k < length starts → s ≤ get_or starts k 0 → sleep_cost J s (drop k ranks) (drop k numbers) ≡ J.wake + get_or numbers k 0
    sleep_here l m = head l ∙ sleep_wakes J s (get_or ranks k 0) (get_or numbers k 0) (drop (suc k) ranks) (drop (suc k) numbers)
        (omega (arith, start_at k l))

    pub sleep_over : length starts ≤ k → sleep_cost J s (drop k ranks) (drop k numbers) ≡ 0
    sleep_over m = ap (λ (js : List ℕ). sleep_cost J s js (drop k numbers)) (drop_of_length-le ranks {i = k} (omega (arith, starts_many)))
        ∙ sleep_none J s (drop k numbers)

-- no window from `from` up to k starts at s or later
abbrev pub Asleep : ℕ → List ℕ → List ℕ → ℕ → ℕ → ℕ → Type 0
Asleep q starts numbers from s k =
    (J : Jobs) (ranks : List ℕ) → J.wake ≡ q → starts ≡ map (window_start J) ranks
    → sleep_cost J s (drop from ranks) (drop from (take (length starts) numbers)) ≡ sleep_cost J s (drop k ranks) (drop k (take (length starts) numbers))

module _ (q : ℕ) (starts numbers : List ℕ) (from s k : ℕ) (room : length starts ≤ length numbers) (a : Asleep q starts numbers from s k) where
  same : length (take (length starts) numbers) ≡ length starts
  same = length-take-le (length starts) numbers room

  pub asleep_turn : k < length starts → get_or starts k 0 < s → Asleep q starts numbers from s (k + 1)
  asleep_turn l m J ranks w e = a J ranks w e ∙ sleep_past J ranks starts e (take (length starts) numbers) same s k l m

  pub asleep_found : k < length starts → s ≤ get_or starts k 0 → SleepFrom q starts numbers from s (q + get_or numbers k 0)
  asleep_found l m J ranks w e =
      ap (λ (n : ℕ). q + n) (sym (get_or-take (length starts) numbers k 0 l))
      ∙ ap (λ (n : ℕ). n + get_or (take (length starts) numbers) k 0) (sym w)
      ∙ sym (a J ranks w e ∙ sleep_here J ranks starts e (take (length starts) numbers) same s k l m)

  pub asleep_end : length starts ≤ k → SleepFrom q starts numbers from s 0
  asleep_end m J ranks w e = sym (a J ranks w e ∙ sleep_over J ranks starts e (take (length starts) numbers) same s k m)

-- the end of a run: another end loses or wins

module _ (J : Jobs) (js vs : List ℕ) (low end through c paid end' through' k : ℕ) (ks : List ℕ)
    (at : c ≡ suc (window_start J k)) (here : paid ≡ through_cost J js vs c) (best : through ≡ through_cost J js vs end)
    (ends : end' ≡ one_of (wins low c paid end through) c end) (throughs : through' ≡ one_of (wins low c paid end through) paid through) where
  test : wins low c paid end through ≡ takes J js vs low end k
  test =
      ap (λ (n : ℕ). leb low c && (ltb n through || eqb n through && ltb c end)) here
      ∙ ap (λ (n : ℕ). leb low c && (ltb (through_cost J js vs c) n || eqb (through_cost J js vs c) n && ltb c end)) best
      ∙ ap (λ (n : ℕ). leb low n && (ltb (through_cost J js vs n) (through_cost J js vs end) || eqb (through_cost J js vs n)
      (through_cost J js vs end) && ltb n end)) at

  pub end_turn : (run_end J js vs low end (k ∷ ks) ≡ run_end J js vs low end' ks) × (through' ≡ through_cost J js vs end')
  end_turn = by_bool (wins low c paid end through) won lost
    where
      won : wins low c paid end through ≡ true → (run_end J js vs low end (k ∷ ks) ≡ run_end J js vs low end' ks) ×
          (through' ≡ through_cost J js vs end')
      won t =
          let e : end' ≡ c = ends ∙ ap (λ (b : Bool). one_of b c end) t in
          let p : through' ≡ paid = throughs ∙ ap (λ (b : Bool). one_of b paid through) t in (
            run_end_takes J js vs low end k ks (sym test ∙ t) ∙ ap (λ (n : ℕ). run_end J js vs low n ks) (sym (e ∙ at)),
            p ∙ here ∙ ap
                (through_cost J js vs) (sym e),
          )

      lost : wins low c paid end through ≡ false
          → (run_end J js vs low end (k ∷ ks) ≡ run_end J js vs low end' ks) × (through' ≡ through_cost J js vs end')
      lost t =
          let e : end' ≡ end = ends ∙ ap (λ (b : Bool). one_of b c end) t in
          let p : through' ≡ through = throughs ∙ ap (λ (b : Bool). one_of b paid through) t in (
            run_end_keeps J js vs low end k ks (sym test ∙ t) ∙ ap (λ (n : ℕ). run_end J js vs low n ks) (sym e),
            p ∙ best ∙ ap (through_cost J js vs)
                (sym e),
          )

-- the best end but for the windows from place k on
abbrev pub Ended : List ℕ → List ℕ → ℕ → ℕ → ℕ → ℕ → ℕ → ℕ → Type 0
Ended starts rests from low through₀ end through k =
    (J : Jobs) (ranks vs : List ℕ) → starts ≡ map (window_start J) ranks → Rests J starts rests (drop from ranks) vs from
    → through₀ ≡ through_cost J (drop from ranks) vs low
    → (run_end J (drop from ranks) vs low low (drop from ranks) ≡ run_end J (drop from ranks) vs low end (drop k ranks))
    × (through ≡ through_cost J (drop from ranks) vs end)

module _ (starts rests : List ℕ) (from low through₀ : ℕ) where
  pub ended_turn : (best best' : Ending) (k : ℕ) → from ≤ k → k < length starts → Ended starts rests from low through₀ best.end best.through k
      → best'.end ≡ one_of (wins low (get_or starts k 0 + 1) (get_or starts k 0 + 1 + get_or rests k 0) best.end best.through) (get_or starts k 0 + 1) best.end
      → best'.through ≡ one_of (wins low (get_or starts k 0 + 1) (get_or starts k 0 + 1 + get_or rests k 0) best.end best.through)
      (get_or starts k 0 + 1 + get_or rests k 0) best.through
      → Ended starts rests from low through₀ best'.end best'.through (k + 1)
  ended_turn best best' k f l m a b J ranks vs e r t =
      let i = m J ranks vs e r t in
      let js = drop from ranks in
      let one : get_or starts k 0 + 1 ≡ suc (get_or starts k 0) = add-one (get_or starts k 0) in
      let at : get_or starts k 0 + 1 ≡ suc (window_start J (get_or ranks k 0)) = one ∙ ap suc (start_at J ranks starts e k l) in
      let paid : get_or starts k 0 + 1 + get_or rests k 0 ≡ through_cost J js vs (get_or starts k 0 + 1) =
      ap (λ (n : ℕ). get_or starts k 0 + 1 + n) (r k f l ∙ ap (λ (n : ℕ). sleep_cost J n js vs) (sym one)) in
      let turn = end_turn J js vs low best.end best.through (get_or starts k 0 + 1) (get_or starts k 0 + 1 + get_or rests k 0) best'.end best'.through (get_or ranks k 0)
      (drop (suc k) ranks) at paid i.1 a b in (
        i.0 ∙ ap (run_end J js vs low best.end) (drop-cons ranks k 0 (omega (arith, starts_many J ranks starts e))) ∙ turn.0 ∙ ap
            (λ (n : ℕ). run_end J js vs low best'.end (drop n ranks)) (sym (add-one k)),
        turn.1,
      )

  pub ended_end : (end through k : ℕ) → length starts ≤ k → Ended starts rests from low through₀ end through k
      → EndFrom starts rests from low through₀ end through
  ended_end end through k l m J ranks vs e r t =
      let i = m J ranks vs e r t in (
        sym (i.0 ∙ ap (run_end J (drop from ranks) vs low end)
            (drop_of_length-le ranks {i = k} (omega (arith, starts_many J ranks starts e))) ∙ run_end_none J (drop from ranks) vs low end),
        i.1,
      )

-- one job more to wake for

pub record Waked (first cost : ℕ) (starts rests₀ rests : List ℕ) (k : ℕ) : Type 0 where
  pub within : k ≤ length starts
  pub many : length rests ≡ 64
  pub done : (j : ℕ) → j < k → get_or rests j 0 ≡ one_of (ltb (get_or starts j 0) first) cost (get_or rests₀ j 0)
  pub left : (j : ℕ) → k ≤ j → get_or rests j 0 ≡ get_or rests₀ j 0
