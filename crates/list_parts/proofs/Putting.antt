-- The bytes of an entry, stored one part after the other.
use Prim.Native.Nat.{ℕ, ◌+◌}
use mathlib.Core.Path.{◌≡◌, ◌∙◌}
use mathlib.Core.List.{List, ◌++◌}
use native.Mathlib.Numerals.{add-one}
use native.Mathlib.Omega.{arith}
use lib.ListN.{length, set, length-append}
use Rattle.sched.specs.Buffers.{PutAt}
use Rattle.sched.proofs.Buffers.Laws.{sets_append}
use Rattle.list_parts.specs.Layout.{absent_release, absent_deadline, absent_volume, stands, bytes_if, job_map, entry_bytes}

pub entry_length : (h r d p : ℕ) →
    length (entry_bytes h r d p) ≡
    1 + length (bytes_if (stands absent_release r) r) + length (bytes_if (stands (absent_deadline h) d) d) + length (bytes_if (stands absent_volume p) p)
unfolding entry_bytes
entry_length h r d p = simp length-append (omega arith)

-- one part behind another
put_both : (out out₁ out₂ xs ys : List ℕ) (at next end : ℕ) → PutAt out at xs next out₁ → PutAt out₁ next ys end out₂ →
    PutAt out at (xs ++ ys) end out₂
put_both out out₁ out₂ xs ys at next end f g =
    record {
      next = omega (arith, f.next, g.next, length-append xs ys);
      stored = g.stored ∙ rw (f.stored, f.next, ← sets_append xs ys out at);
    }

pub put_entry : (h r d p : ℕ) (out out₁ out₂ out₃ : List ℕ) (map at n₁ n₂ n₃ : ℕ) →
    map ≡ job_map h r d p →
    PutAt (set out at map) (at + 1) (bytes_if (stands absent_release r) r) n₁ out₁ → PutAt out₁ n₁ (bytes_if (stands (absent_deadline h) d) d) n₂ out₂ →
    PutAt out₂ n₂ (bytes_if (stands absent_volume p) p) n₃ out₃ → PutAt out at (entry_bytes h r d p) n₃ out₃
unfolding entry_bytes
put_entry h r d p out out₁ out₂ out₃ map at n₁ n₂ n₃ e f g k =
    let whole = put_both (set out at map) out₁ out₃ _ _ (at + 1) n₁ n₃ f (put_both out₁ out₂ out₃ _ _ n₁ n₂ n₃ g k) in
    record {
      next = whole.next ∙ omega arith;
      stored = whole.stored ∙ rw (e, add-one);
    }
