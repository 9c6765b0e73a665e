-- The first numbers of one list, copied to another.
use Prim.Native.Nat.{ℕ, ◌+◌, ◌<◌}
use mathlib.Core.Path.{◌≡◌}
use mathlib.Core.List.{List, ◌++◌}
use native.Mathlib.Nat.{zero-add}
use native.Mathlib.Numerals.{add-one}
use lib.ListN.{length, get_or, take, drop, set}
use lib.Seq.{paste-suc}

pub copied_turn : (source to₀ to : List ℕ) (i : ℕ) → i < length source → i < length to₀ → to ≡ take i source ++ drop i to₀ → set to i (get_or source i 0) ≡ take (i + 1) source ++ drop (i + 1) to₀
copied_turn source to₀ to i l m e = rw (e, add-one) (simp zero-add at (paste-suc to₀ 0 source i 0 (simp zero-add m) l))
