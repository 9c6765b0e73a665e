-- A buffer that is filled piece by piece, each piece by a function that is lent the part from behind the last one.
use Prim.Native.Nat.{ℕ, ◌-◌, ◌≤◌}
use mathlib.Core.Path.{◌≡◌, sym, ap, ◌∙◌}
use mathlib.Core.List.{List, [], ◌++◌, append_assoc, append-nil}
use native.Mathlib.Omega.{arith}
use borrow.Rule.Slice.PartMut.{mid_of, put_mid, post_of, Post-is}
use lib.ListN.{length, take, drop, length-append, length-drop, drop_of_length-le}
use lib.Seq.{take_all, take_at, drop_at, drop-drop}
use Rattle.record_map.specs.Stored.{stored}

pub length_stored : (bytes out : List ℕ) → length bytes ≤ length out → length (stored bytes out) ≡ length out
length_stored bytes out l = simp (length-append, length-drop) (omega arith)

-- the part from a on
pub part_is : (out : List ℕ) (a : ℕ) → mid_of a (length out - a) out ≡ drop a out
part_is out a = take_all (length out - a) (drop a out) (rw length-drop (omega arith))

-- the next piece, stored at the front of the part behind the pieces before it
pub next_piece : (front piece out₀ out part : List ℕ) (a : ℕ) → a ≡ length front → length front ≤ length out₀ → out ≡ stored front out₀ → part ≡ stored piece (mid_of a (length out - a) out) → put_mid a (length out - a) out part ≡ stored (front ++ piece) out₀
next_piece front piece out₀ out part a e room o p =
    let rest = drop (length front) out₀ in
    let before : take a out ≡ front = rw o (take_at front rest a (sym e)) in
    let behind : drop a out ≡ rest = rw o (drop_at front rest a (sym e)) in
    let long : length out ≡ length out₀ = ap length o ∙ length_stored front out₀ room in
    let none : post_of a (length out - a) out ≡ [] = Post-is a (length out) out (omega arith) ∙ drop_of_length-le out {i = length out} (omega arith) in
    let new : part ≡ piece ++ drop (length piece) rest = p ∙ ap (stored piece) (part_is out a ∙ behind) in
    rw (before, none, new, append-nil, drop-drop, append_assoc, length-append)
