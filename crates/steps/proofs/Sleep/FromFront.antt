-- The sleep rule as it can be followed from the first slot on: of the slots before only the nearest working one is kept in mind.
use Rattle.std.specs.Prelude.{ℕ, zero, suc, ◌+◌, ◌-◌, ◌≤◌, ◌<◌, ◌≡◌, Bool, length, get_or, drop, replicate}
use Rattle.std.proofs.Math.Path.{refl, sym, ap}
use Rattle.std.proofs.Common.{ap₂, ◌∙◌, add-one, arith, length-drop, drop-drop, get_or-drop}
use Rattle.std.proofs.Math.Bool.{true, false}
use mathlib.Core.List.{List, [], ◌∷◌, ◌++◌}
use Rattle.std.proofs.Math.Option.{Option, none, some}
use Rattle.std.proofs.Math.Numerals.{unary_clauses}
use Rattle.std.proofs.lemmas.List.{length-map}
use Rattle.std.proofs.Math.ListN.{get_or-map}
use Rattle.sched.specs.Bounded.{least_from, last_below, values_from}
use Rattle.sched.proofs.Bounded.Laws.{by_bool}
use Rattle.sched.specs.Slots.{mark_byte, works, working_of}
use Rattle.steps.specs.Sleep.{working, stays_awake, slept_byte, sleep_rule}

-- the first working slot of the slots from t on
unfoldable pub next_work : ℕ → List ℕ → Option ℕ
next_work t [] = none
next_work t (byte ∷ rest) = elim (works byte) [ true ↦ some t | false ↦ next_work (suc t) rest ]

-- the slots from t on; `before` is the nearest working slot before them
unfoldable pub slept_from : ℕ → Bool → Option ℕ → ℕ → List ℕ → List ℕ
slept_from q start before t [] = []
slept_from q start before t (byte ∷ rest) =
    elim (works byte) [
      | true ↦ byte ∷ slept_from q start (some t) (suc t) rest
      | false ↦ mark_byte (stays_awake q start before (next_work (suc t) rest)) ∷ slept_from q start before (suc t) rest
    ]

-- clause by clause

module _ (t byte : ℕ) (rest : List ℕ) where
  pub next_here : works byte ≡ true → next_work t (byte ∷ rest) ≡ some t
  unfolding next_work
  next_here e = rw (e, next_work)

  pub next_later : works byte ≡ false → next_work t (byte ∷ rest) ≡ next_work (suc t) rest
  unfolding next_work
  next_later e = rw (e, next_work)

  module _ (q : ℕ) (start : Bool) (before : Option ℕ) where
    pub slept_work : works byte ≡ true → slept_from q start before t (byte ∷ rest) ≡ byte ∷ slept_from q start (some t) (suc t) rest
    unfolding slept_from
    slept_work e = rw (e, slept_from)

    pub slept_rest : works byte ≡ false →
        slept_from q start before t (byte ∷ rest) ≡ mark_byte (stays_awake q start before (next_work (suc t) rest)) ∷ slept_from q start before (suc t) rest
    unfolding slept_from
    slept_rest e = rw (e, slept_from)

pub next_none : (t : ℕ) → next_work t [] ≡ none
unfolding next_work
next_none t = refl

pub slept_none : (q : ℕ) (start : Bool) (before : Option ℕ) (t : ℕ) → slept_from q start before t [] ≡ []
unfolding slept_from
slept_none q start before t = refl

-- n slots that do not work are all awake or all asleep
pub slept_stretch : (q : ℕ) (start : Bool) (before : Option ℕ) (n t : ℕ) (l : List ℕ) → n ≤ length l → ((i : ℕ) → i < n → works (get_or l i 0) ≡ false) →
    (next_work t l ≡ next_work (t + n) (drop n l))
    × (slept_from q start before t l ≡ replicate n (mark_byte (stays_awake q start before (next_work (t + n) (drop n l)))) ++ slept_from q start before (t + n) (drop n l))
slept_stretch q start before zero t l short quiet = (simp unary_clauses refl, simp unary_clauses refl)
slept_stretch q start before (suc n) t [] short quiet = absurd (omega arith)
slept_stretch q start before (suc n) t (byte ∷ rest) short quiet =
    let (next, slept) = slept_stretch q start before n (suc t) rest (omega arith) (λ i l. quiet (suc i) (omega arith)) in
    let along : suc t + n ≡ t + suc n = omega arith in
    let none_here = quiet 0 (omega arith) in (
      next_later t byte rest none_here ∙ next ∙ ap (λ (s : ℕ). next_work s (drop n rest)) along,
      slept_rest t byte rest q start before none_here
          ∙ ap₂ (λ (o : Option ℕ) (r : List ℕ). mark_byte (stays_awake q start before o) ∷ r) next slept
          ∙ ap (λ (s : ℕ). replicate (suc n) (mark_byte (stays_awake q start before (next_work s (drop n rest)))) ++ slept_from q start before s (drop n rest)) along,
    )

-- It is the rule: `l` are the slots of the table from t on.
module _ (q : ℕ) (start : Bool) (table : List ℕ) where
  abbrev test : ℕ → Bool
  test = working (working_of table)

  module _ (t byte : ℕ) (rest : List ℕ) (e : drop t table ≡ byte ∷ rest) where
    byte_at : (d : ℕ) → get_or table t d ≡ byte
    byte_at d = simp unary_clauses at (sym (get_or-drop t table 0 d) ∙ ap (λ (l : List ℕ). get_or l 0 d) e)

    works_at : test t ≡ works byte
    works_at = get_or-map works table t 64 ∙ ap works (byte_at 64)

    behind : drop (suc t) table ≡ rest
    behind = simp add-one at (sym (drop-drop 1 t table) ∙ ap (drop 1) e)

    left_behind : length (working_of table) - suc t ≡ length rest
    left_behind = omega (arith, length-map table works, length-drop (suc t) table, ap length behind)

  next_is : (t : ℕ) (l : List ℕ) → drop t table ≡ l → least_from (length l) t test ≡ next_work t l
  unfolding least_from next_work
  next_is t [] e = refl
  next_is t (byte ∷ rest) e =
      ap (λ (b : Bool). elim b [ true ↦ some t | false ↦ least_from (length rest) (suc t) test ]) (works_at t byte rest e)
      ∙ ap (λ (o : Option ℕ). elim (works byte) [ true ↦ some t | false ↦ o ]) (next_is (suc t) rest (behind t byte rest e))

  slept_is : (t : ℕ) (l : List ℕ) → drop t table ≡ l → values_from (length l) t (slept_byte q start table) ≡ slept_from q start (last_below t test) t l
  unfolding values_from last_below
  slept_is t [] e = sym (slept_none q start (last_below t test) t)
  slept_is t (byte ∷ rest) e = by_bool (works byte) (works_here (slept_is (suc t) rest (behind t byte rest e))) (rests_here (slept_is (suc t) rest (behind t byte rest e)))
    where
      Later : Type 0
      Later = values_from (length rest) (suc t) (slept_byte q start table) ≡ slept_from q start (last_below (suc t) test) (suc t) rest

      works_here : Later → works byte ≡ true → slept_byte q start table t ∷ values_from (length rest) (suc t) (slept_byte q start table) ≡ slept_from q start (last_below t test) t (byte ∷ rest)
      works_here later w =
          let here : test t ≡ true = works_at t byte rest e ∙ w in
          ap₂ (λ (b : ℕ) (r : List ℕ). b ∷ r) (rw (here, slept_byte) (byte_at t byte rest e 0)) (later ∙ rw (here, last_below))
          ∙ sym (slept_work t byte rest q start (last_below t test) w)

      rests_here : Later → works byte ≡ false → slept_byte q start table t ∷ values_from (length rest) (suc t) (slept_byte q start table) ≡ slept_from q start (last_below t test) t (byte ∷ rest)
      rests_here later w =
          let here : test t ≡ false = works_at t byte rest e ∙ w in
          let after : least_from (length (working_of table) - suc t) (suc t) test ≡ next_work (suc t) rest =
          ap (λ (n : ℕ). least_from n (suc t) test) (left_behind t byte rest e) ∙ next_is (suc t) rest (behind t byte rest e) in
          ap₂ (λ (b : ℕ) (r : List ℕ). b ∷ r) (rw (here, slept_byte, after)) (later ∙ rw (here, last_below))
          ∙ sym (slept_rest t byte rest q start (last_below t test) w)

  pub rule_from_front : sleep_rule q start table ≡ slept_from q start none 0 table
  unfolding sleep_rule last_below
  rule_from_front = slept_is 0 table refl
