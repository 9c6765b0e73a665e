-- "A program reads up to 454 bytes": what it prints of an input is what the definition says of the whole of it.
use Rattle.std.specs.Prelude.{◌≡◌, refl, List, ℕ, take, Err, Ok}
use Rattle.std.proofs.Common.{ap, sym, ◌∙◌}
use Rattle.joblist.specs.Reading.{read_check}
use Rattle.joblist.proofs.Theorems.Longest.{first_bytes_check}
use Rattle.joblist.proofs.Theorems.Longest.Read.{read_all_first}
use Rattle.plan.specs.Program.{printed_after, printed}
use Rattle.sched.specs.Refusals.{Checked}

pub first_bytes_print : (input : List ℕ) → printed (take 454 input) ≡ printed input
unfolding printed
first_bytes_print input = go (read_check input 64 64 64) refl
  where
    go : (c : Checked) → read_check input 64 64 64 ≡ c →
        printed_after (read_check (take 454 input) 64 64 64) (take 454 input) ≡ printed_after (read_check input 64 64 64) input
    go (Ok tt) e =
        ap (λ (bytes : List ℕ). printed_after (read_check bytes 64 64 64) bytes) (read_all_first input 64 64 64 e)
    go (Err r) e =
        ap (λ (c : Checked). printed_after c (take 454 input)) (first_bytes_check input 64 64 64 ∙ e)
        ∙ sym (ap (λ (c : Checked). printed_after c input) e)
