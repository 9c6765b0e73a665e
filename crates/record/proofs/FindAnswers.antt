-- The answer about a run of a record that passes the checks.
use Rattle.std.specs.Prelude.{Ok, Result}
use Prim.Native.Nat.{ℕ, ◌-◌}
use mathlib.Core.Path.{◌≡◌, sym, ap, ap₂, ◌∙◌}
use mathlib.Core.Bool.{Bool}
use mathlib.Core.List.{List}
use lib.ListN.{take, drop}
use Rattle.sched.specs.TwoBytes.{word}
use Rattle.sched.proofs.Checks.Laws.{then_passes}
use Rattle.sched.specs.declared.Refusal.{Refusal}
use Rattle.record.specs.declared.RunPlace.{RunPlace}
use Rattle.record_map.specs.MapBits.{bits_of}
use Rattle.record_parts.specs.Layout.{behind_map}
use Rattle.record_parts.specs.Bytes.{slots_in, record_check}
use Rattle.record.specs.OneRun.{exists_check, run_answer, run_in, found_number, found_values, Finds}
use Rattle.record.proofs.Opened.{map_is}

pub searched : (bytes : List ℕ) (k : ℕ) (p : record_check bytes ≡ Ok tt) (h : ℕ) (e : h ≡ word bytes) (behind : ℕ) (f : behind ≡ behind_map h) (answer : Result RunPlace Refusal) →
    answer ≡ run_answer (take h (bits_of (take (behind - 2) (drop 2 bytes)))) behind k (exists_check (take h (bits_of (take (behind - 2) (drop 2 bytes)))) k) →
    Finds bytes k answer
searched bytes k p h e behind f answer a =
    let S = take h (bits_of (take (behind - 2) (drop 2 bytes))) in
    let is : S ≡ slots_in bytes = ap₂ (λ (n : ℕ) (M : List ℕ). take n (bits_of M)) e (map_is bytes p h e behind f) in
    let same : answer ≡ run_in bytes k =
    a
    ∙ ap₂ (λ (T : List Bool) (b : ℕ). run_answer T b k (exists_check T k)) is (f ∙ ap behind_map e)
    ∙ sym (ap (run_answer (slots_in bytes) (behind_map (word bytes)) k) (then_passes (record_check bytes) (exists_check (slots_in bytes) k) p)) in
    record { number = ap found_number same; values = ap found_values same; same = same }
