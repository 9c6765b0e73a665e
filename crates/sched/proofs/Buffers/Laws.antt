-- Laws of bytes that are put part by part.
use Rattle.std.specs.Prelude.{ℕ, suc, ◌+◌, ◌≡◌, List, [], ◌∷◌, ◌++◌, length, set}
use Rattle.std.proofs.Common.{ap, ◌∙◌, add-zero, suc-add, add-suc}
use Rattle.std.proofs.lemmas.List.Edits.{sets}
use Rattle.std.proofs.Math.Seq.{length-sets}
use Rattle.sched.specs.Buffers.{PutAt}

pub sets_append : (xs ys out : List ℕ) (i : ℕ) → sets out i (xs ++ ys) ≡ sets (sets out i xs) (i + length xs) ys
sets_append [] ys out i = rw add-zero
sets_append (x ∷ xs) ys out i = sets_append xs ys (set out i x) (suc i) ∙ rw (suc-add, add-suc)

pub put_length : (out out' xs : List ℕ) (at end : ℕ) → PutAt out at xs end out' → length out' ≡ length out
put_length out out' xs at end f = ap length f.stored ∙ length-sets out at xs
