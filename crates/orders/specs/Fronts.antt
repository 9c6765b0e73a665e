-- The front of an array, lent and given back: a function that fills n entries of a local array lends `a[..n]`, and reads it there later.
use Rattle.std.specs.Prelude.{ℕ, ◌≤◌, ◌<◌, ◌≡◌, List, ◌++◌, length, get_or, take, drop, replicate}
use Rattle.std.proofs.Common.{ap, sym, ◌∙◌, arith, length-append, length-drop, length-take-le, take_at, get_or-take}

-- an array before it is filled
abbrev pub blank : List ℕ
blank = replicate 64 0

pub front_length : (n : ℕ) (l : List ℕ) → n ≤ length l → n ≡ length (take n l)
front_length n l m = sym (length-take-le n l m)

-- s was filled in
module _ (n : ℕ) (l s : List ℕ) (fits : n ≤ length l) (kept : length s ≡ length (take n l)) where
  filled_length : length s ≡ n
  filled_length = kept ∙ length-take-le n l fits

  pub filled_fits : n ≤ length (s ++ drop n l)
  filled_fits = omega (arith, length-append s (drop n l), filled_length)

  pub filled_front_length : n ≡ length (take n (s ++ drop n l))
  filled_front_length = front_length n (s ++ drop n l) filled_fits

  pub front_filled : take n (s ++ drop n l) ≡ s
  front_filled = take_at s (drop n l) n filled_length

  pub filled_at : (k : ℕ) → k < n → get_or (s ++ drop n l) k 0 ≡ get_or s k 0
  filled_at k m = sym (get_or-take n (s ++ drop n l) k 0 m) ∙ ap (λ (r : List ℕ). get_or r k 0) front_filled

  pub filled_long : length (s ++ drop n l) ≡ length l
  filled_long = omega (arith, length-append s (drop n l), filled_length, length-drop n l)
