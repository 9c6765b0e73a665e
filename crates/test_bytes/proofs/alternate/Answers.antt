-- `test_bytes::alternate` meets its contract: before slot i all slots are as they should be.
use Rattle.std.proofs.Common.{◌≡◌, ℕ, suc, ◌+◌, ◌-◌, ◌%◌, ◌<◌, ◌≤◌, List, ◌++◌, length, take, set, ◌∙◌, append_assoc, append-nil, add-one, arith, length-set, take_all, take-suc-set}
use Rattle.test_bytes.specs.Bytes.{turns_from}
use Rattle.test_bytes.proofs.alternate.Goals as goal
use Rattle.test_bytes.proofs.alternate.Goals.{then-i-eq0, else-i-eq0}

one_more : (t : List ℕ) (i byte : ℕ) → i < length t → byte ≡ 254 + i % 2 →
    take (i + 1) (set t i byte) ++ turns_from (length (set t i byte) - (i + 1)) (i + 1) ≡ take i t ++ turns_from (length t - i) i
unfolding turns_from
one_more t i byte l e =
    let q : length t - i ≡ suc (length t - (i + 1)) = omega arith in
    rw (length-set t i byte, q, add-one, take-suc-set t i byte, append_assoc, e)

all_turned : (t : List ℕ) (i : ℕ) → length t ≤ i → take i t ++ turns_from (length t - i) i ≡ t
unfolding turns_from
all_turned t i l =
    let z : length t - i ≡ 0 = omega arith in
    rw (z, take_all i t l, append-nil)

pub loop-i-preserved : goal.loop-i-preserved
loop-i-preserved c =
    let below : c.loop-i.i < length c.loop-i.t = omega (arith, c.loop-i.auto.t) in
    let byte : c.if-i-eq0.byte ≡ 254 + c.loop-i.i % 2 =
    elim c.if-i-eq0.branch [ then-i-eq0 w ↦ omega arith | else-i-eq0 w ↦ omega arith ] in
    one_more _ _ _ below byte ∙ c.loop-i.invariant

pub returns : goal.returns
returns c =
    let past : length c.loop-i.t ≤ c.loop-i.i = omega (arith, c.loop-i.auto.t) in
    let turned = all_turned _ _ past in
    cc
