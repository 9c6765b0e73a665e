-- 02, card 2: "the slot bytes of one awake run, chosen by its number from 0, handed out as that part of the record itself".
use Rattle.std.specs.Prelude.{ℕ, ◌+◌, ◌≡◌, Bool, List, [], ◌∷◌, length, get_or, take, drop, leb, Err, Ok, Result}
use Rattle.std.specs.Borrow.{Bor}
use Rattle.sched.specs.TwoBytes.{word}
use Rattle.sched.specs.Energy.{awake_slots}
use Rattle.sched.specs.Runs.{Run, run_list}
use Rattle.sched.specs.Refusals.{number, place, Checked}
use Rattle.sched.specs.Checks.{refuse_if, and_then}
use Rattle.sched.specs.declared.Refusal.TheVariants.{NoSuchRun}
use Rattle.record_parts.specs.Layout.{behind_map}
use Rattle.record_parts.specs.Bytes.{slots_in, record_check}
use Rattle.sched.specs.declared.Refusal.{Refusal}
use Rattle.record.specs.declared.RunPlace.{RunPlace}

-- run k of a set, from 0 on, in rising order; where there is none, what stands here is not used
abbrev pub run_at : List Bool → ℕ → Run
run_at S k = get_or (run_list S) k (record { first = 0; slots = 0 })

-- "33, place the number of runs, there is no such run"
abbrev pub exists_check : List Bool → ℕ → Checked
exists_check S k = refuse_if (leb (length (run_list S)) k) (NoSuchRun (length (run_list S))) (Ok tt)

-- "The order is .. 16, then .. 33 for the run"
abbrev pub run_check : List ℕ → ℕ → Checked
run_check bytes k = and_then (record_check bytes) (exists_check (slots_in bytes) k)

-- the run's first slot, and where its slot bytes stand: one byte a slot, in a part that begins behind the map (at the offset `behind`) and
-- behind the bytes of all awake slots before the run
abbrev pub found_at : List Bool → ℕ → Run → Result RunPlace Refusal
found_at S behind run =
    Ok (record { first = run.first; offset = behind + awake_slots (take run.first S); len = run.slots })

abbrev pub run_answer : List Bool → ℕ → ℕ → Checked → Result RunPlace Refusal
run_answer S behind k (Ok tt) = found_at S behind (run_at S k)
run_answer S behind k (Err r) = Err r

-- run k of a record
abbrev pub run_in : List ℕ → ℕ → Result RunPlace Refusal
run_in bytes k = run_answer (slots_in bytes) (behind_map (word bytes)) k (run_check bytes k)

-- the part of the record that an answer tells of; none where it is a refusal
abbrev pub part_of : List ℕ → Result RunPlace Refusal → List ℕ
part_of bytes (Ok part) = take part.len (drop part.offset bytes)
part_of bytes (Err r) = []

-- the part that holds the slot bytes of run k
abbrev pub run_part : List ℕ → ℕ → List ℕ
run_part bytes k = part_of bytes (run_in bytes k)

-- where that part begins; 0 where there is none
abbrev pub part_from : Result RunPlace Refusal → ℕ
part_from (Ok part) = part.offset
part_from (Err r) = 0

-- a refusal has its number with its place; 0 with first slot, offset and length is ours
abbrev pub found_number : Result RunPlace Refusal → ℕ
found_number (Ok part) = 0
found_number (Err r) = number r

abbrev pub found_values : Result RunPlace Refusal → List ℕ
found_values (Ok part) = part.first ∷ part.offset ∷ part.len ∷ []
found_values (Err r) = place r ∷ []

-- the promise: number and values of the answer, and its case
pub record Finds (bytes : List ℕ) (k : ℕ) (answer : Result RunPlace Refusal) : Type 0 where
  pub number : found_number answer ≡ found_number (run_in bytes k)
  pub values : found_values answer ≡ found_values (run_in bytes k)
  pub same : answer ≡ run_in bytes k

-- where the part handed out stands: in the block of the lent record, at its beginning plus the offset that `find_run` tells
pub record HandsOut (lent : Bor (List ℕ)) (k : ℕ) (handed : Bor (List ℕ)) : Type 0 where
  pub block : handed.ref_ptr.0 ≡ lent.ref_ptr.0
  pub offset : handed.ref_ptr.1 ≡ lent.ref_ptr.1 + part_from (run_in lent.now k)
