-- Bytes put one part after the other, from a place on: words, numbers, and lines.
use Prim.Native.Nat.{ℕ, ◌+◌, ◌≤◌, ◌<◌}
use mathlib.Core.Path.{◌≡◌, refl, sym, ap, ◌∙◌}
use mathlib.Core.List.{List, [], ◌∷◌, ◌++◌}
use native.Mathlib.Numerals.{add-one}
use native.Mathlib.Omega.{arith}
use lib.ListN.{length, get_or, set, drop, length-set, length-append, drop_of_length-le}
use lib.Seq.{sets, sets-eq, drop-cons}
use Rattle.decimal.specs.Decimal.{digits, PutsDigits}
use Rattle.sched.specs.Buffers.{PutAt}
use Rattle.sched.proofs.Buffers.Laws.{sets_append, put_length}
use Rattle.report.specs.Report.{numbers, line}
use Rattle.report.specs.Report.Laws.{numbers_few}

-- of the bytes `all`, which go to out₀ from at₀ on, `rest` is still to be put, from `at` on
pub record ToPut (out₀ : List ℕ) (at₀ : ℕ) (all out : List ℕ) (at : ℕ) (rest : List ℕ) : Type 0 where
  pub ends : at + length rest ≡ at₀ + length all
  pub long : length out ≡ length out₀
  pub stored : sets out₀ at₀ all ≡ sets out at rest

pub put_none : (out : List ℕ) (at : ℕ) (all : List ℕ) → ToPut out at all out at all
put_none out at all = record { ends = refl; long = refl; stored = refl }

module _ (out₀ : List ℕ) (at₀ : ℕ) (all out : List ℕ) (at : ℕ) where
  -- the next part
  pub put_part : (part rest : List ℕ) (next : ℕ) (after : List ℕ) → ToPut out₀ at₀ all out at (part ++ rest) → PutAt out at part next after → ToPut out₀ at₀ all after next rest
  put_part part rest next after t p =
      record {
        ends = omega (arith, t.ends, p.next, length-append part rest);
        long = put_length out after part at next p ∙ t.long;
        stored = t.stored ∙ sets_append part rest out at ∙ rw (p.stored, p.next);
      }

  pub put_room : (part rest : List ℕ) → ToPut out₀ at₀ all out at (part ++ rest) → at₀ + length all ≤ length out₀ → at + length part ≤ length out
  put_room part rest t room = omega (arith, t.ends, t.long, length-append part rest)

  pub put_all : ToPut out₀ at₀ all out at [] → PutAt out₀ at₀ all at out
  put_all t = record { next = omega (arith, t.ends); stored = sym t.stored }

-- a space and a number

pub number_put : (x : ℕ) (out : List ℕ) (at end : ℕ) (after : List ℕ) → at + length (32 ∷ digits x) ≤ length out → PutsDigits x (at + 1) (set out at 32) end after → PutAt out at (32 ∷ digits x) end after
number_put x out at end after room p =
    let inside : at + 1 + length (digits x) ≤ length (set out at 32) = simp length-set (omega arith) in
    record {
      next = omega (arith, p.next);
      stored =
          p.bytes ∙ sym (sets-eq (digits x) (set out at 32) (at + 1) inside)
          ∙ ap (λ (i : ℕ). sets (set out at 32) i (digits x)) (add-one at);
    }

-- numbers

module _ (values : List ℕ) (i : ℕ) (l : i < length values) where
  pub next_number : numbers (drop i values) ≡ (32 ∷ digits (get_or values i 0)) ++ numbers (drop (i + 1) values)
  unfolding numbers
  next_number = rw (drop-cons values i 0 l, add-one)

module _ (values out₀ : List ℕ) (at₀ : ℕ) (out : List ℕ) (at i : ℕ) (t : ToPut out₀ at₀ (numbers values) out at (numbers (drop i values))) where
  with_number : i < length values → ToPut out₀ at₀ (numbers values) out at ((32 ∷ digits (get_or values i 0)) ++ numbers (drop (i + 1) values))
  with_number l = rw (← next_number values i l) t

  pub numbers_room : i < length values → at₀ + length (numbers values) ≤ length out₀ → at + length (32 ∷ digits (get_or values i 0)) ≤ length out
  numbers_room l room =
      put_room out₀ at₀ (numbers values) out at (32 ∷ digits (get_or values i 0)) (numbers (drop (i + 1) values)) (with_number l) room

  pub numbers_turn : (next : ℕ) (after : List ℕ) → i < length values → PutAt out at (32 ∷ digits (get_or values i 0)) next after →
      ToPut out₀ at₀ (numbers values) after next (numbers (drop (i + 1) values))
  numbers_turn next after l p =
      put_part out₀ at₀ (numbers values) out at (32 ∷ digits (get_or values i 0)) (numbers (drop (i + 1) values)) next after (with_number l) p

  pub numbers_end : length values ≤ i → PutAt out₀ at₀ (numbers values) at out
  unfolding numbers
  numbers_end l =
      let none : numbers (drop i values) ≡ [] = ap numbers (drop_of_length-le values l) in
      put_all out₀ at₀ (numbers values) out at (rw (← none) t)

-- their length, number by number
pub record Sized (values : List ℕ) (n i : ℕ) : Type 0 where
  pub left : n + length (numbers (drop i values)) ≡ length (numbers values)

module _ (values : List ℕ) (n i : ℕ) (s : Sized values n i) where
  pub sized_turn : (x : ℕ) → i < length values → x ≡ length (digits (get_or values i 0)) → Sized values (n + (1 + x)) (i + 1)
  sized_turn x l e =
      record {
        left =
            omega (arith, s.left, ap length (next_number values i l), length-append (32 ∷ digits (get_or values i 0)) (numbers (drop (i + 1) values)));
      }

  pub sized_few : length values ≤ 4 → n ≤ 84
  sized_few few = omega (arith, s.left, numbers_few values)

  pub sized_end : length values ≤ i → n ≡ length (numbers values)
  unfolding numbers
  sized_end l = omega (arith, s.left, ap (λ (ns : List ℕ). length (numbers ns)) (drop_of_length-le values l))

-- a line: the word, the numbers, byte 10

module _ (word values out : List ℕ) (at next : ℕ) (out₁ : List ℕ) (p : PutAt out at word next out₁) (room : at + length (line word values) ≤ length out) where
  behind_word : ToPut out at (line word values) out₁ next (numbers values ++ (10 ∷ []))
  behind_word = put_part out at (line word values) out at word (numbers values ++ (10 ∷ [])) next out₁ (put_none out at (line word values)) p

  module _ (end : ℕ) (out₂ : List ℕ) (q : PutAt out₁ next (numbers values) end out₂) where
    behind_numbers : ToPut out at (line word values) out₂ end (10 ∷ [])
    behind_numbers = put_part out at (line word values) out₁ next (numbers values) (10 ∷ []) end out₂ behind_word q

    pub line_put : PutAt out at (line word values) (end + 1) (set out₂ end 10)
    line_put =
        put_all out at (line word values) (set out₂ end 10) (end + 1)
        (put_part out at (line word values) out₂ end (10 ∷ []) [] (end + 1) (set out₂ end 10) behind_numbers (record { next = refl; stored = refl }))
