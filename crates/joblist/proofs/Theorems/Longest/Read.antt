-- What is read of a longest list, and of more bytes.
use Rattle.std.specs.Prelude.{ℕ, ◌≡◌, refl, List, length, take, Err, Ok}
use Rattle.std.proofs.Common.{sym, ap, ◌∙◌, arith, take_all}
use Rattle.joblist.specs.Reading.{read_check, reading}
use Rattle.joblist.proofs.Laws.Input.{reading_refused}
use Rattle.joblist.proofs.Laws.Front.{read_short}
use Rattle.joblist.proofs.Theorems.Longest.{first_bytes_check}
use Rattle.sched.specs.Refusals.{Checked}

-- bytes that are read are no more than these
pub read_all_first : (bytes : List ℕ) (r d p : ℕ) → read_check bytes r d p ≡ Ok tt → take 454 bytes ≡ bytes
read_all_first bytes r d p e = take_all 454 bytes (omega (arith, read_short bytes r d p e))

-- the answer, and the three lists afterwards
pub first_bytes_read : (bytes rs ds ps : List ℕ) → reading (take 454 bytes) rs ds ps ≡ reading bytes rs ds ps
first_bytes_read bytes rs ds ps = go (read_check bytes (length rs) (length ds) (length ps)) refl
  where
    go : (c : Checked) → read_check bytes (length rs) (length ds) (length ps) ≡ c → reading (take 454 bytes) rs ds ps ≡ reading bytes rs ds ps
    go (Ok tt) e = ap (λ (b : List ℕ). reading b rs ds ps) (read_all_first bytes (length rs) (length ds) (length ps) e)
    go (Err r) e =
        reading_refused (take 454 bytes) rs ds ps r (first_bytes_check bytes (length rs) (length ds) (length ps) ∙ e)
        ∙ sym (reading_refused bytes rs ds ps r e)
