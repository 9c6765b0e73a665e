-- Bytes cut in two; a number in two bytes, written and read back, and read and written again.
use Rattle.std.specs.Prelude.{ℕ, zero, suc, ◌+◌, ◌*◌, ◌/◌, ◌%◌, ◌<◌, ◌≡◌, List, [], ◌∷◌, take, drop}
use Rattle.std.proofs.Common.{arith, get_or-drop}
use Rattle.sched.specs.TwoBytes.{AreBytes, two_bytes, word}

pub are_bytes_take : (k : ℕ) (bs : List ℕ) → AreBytes bs → AreBytes (take k bs)
are_bytes_take zero bs small i = omega arith
are_bytes_take (suc k) [] small i = small i
are_bytes_take (suc k) (b ∷ bs) small zero = small 0
are_bytes_take (suc k) (b ∷ bs) small (suc i) = are_bytes_take k bs (λ j. small (suc j)) i

pub are_bytes_drop : (k : ℕ) (bs : List ℕ) → AreBytes bs → AreBytes (drop k bs)
are_bytes_drop k bs small i = rw get_or-drop (small (k + i))

pub word_back : (x : ℕ) → word (two_bytes x) ≡ x
word_back x = omega arith

pub word_again : (x y : ℕ) → x < 256 → two_bytes (x + 256 * y) ≡ x ∷ y ∷ []
word_again x y l =
    let a : (x + 256 * y) % 256 ≡ x = omega arith in
    let b : (x + 256 * y) / 256 ≡ y = omega arith in
    rw (a, b)
