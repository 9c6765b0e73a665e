-- What a caller knows of an entry that was read, and of what is left of an input at an offset.
use Rattle.std.specs.Prelude.{ℕ, ◌+◌, ◌-◌, ◌≤◌, ◌≡◌, refl, List, length, take, drop, Err, Ok, Result}
use Rattle.std.proofs.Common.{ap, arith, length-drop, take_all}
use Rattle.sched.specs.declared.Refusal.{Refusal}
use Rattle.list_parts.specs.Parts.{fields_of, entry_of}
use Rattle.list_parts.specs.declared.entry.Fields.{Fields}
use Rattle.sched.specs.Refusals.{Checked}

-- what was told of an entry
pub told_read : (h : ℕ) (rest : List ℕ) (c : Checked) (e : Result Fields Refusal) (f : Fields) → e ≡ entry_of c h rest → e ≡ Ok f →
    (c ≡ Ok tt) × (f ≡ fields_of h rest)
told_read h rest (Ok tt) e f a b = (refl, cc)
told_read h rest (Err r) e f a b = let z : ◌≡◌ {A = ℕ} 0 1 = cc in absurd (omega arith)

pub told_refused : (h : ℕ) (rest : List ℕ) (c : Checked) (e : Result Fields Refusal) (r : Refusal) → e ≡ entry_of c h rest → e ≡ Err r → c ≡ Err r
told_refused h rest (Ok tt) e r a b = let z : ◌≡◌ {A = ℕ} 0 1 = cc in absurd (omega arith)
told_refused h rest (Err x) e r a b = let s : x ≡ r = cc in ap Err s

-- a part that runs to the end
pub part_rest : (at : ℕ) (bytes : List ℕ) → take (length bytes - at) (drop at bytes) ≡ drop at bytes
part_rest at bytes = take_all (length bytes - at) (drop at bytes) (omega (arith, length-drop at bytes))

pub part_length : (at : ℕ) (bytes : List ℕ) → at ≤ length bytes → at + length (take (length bytes - at) (drop at bytes)) ≡ length bytes
part_length at bytes l = omega (arith, ap length (part_rest at bytes), length-drop at bytes)
