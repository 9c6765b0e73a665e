-- What `sleep_plan` promises: the equations for everything that a call gives back; demand 3, that no table in which the same slots work costs less, and
-- what `added` counts, in terms of what a caller in C sees.
use Rattle.std.specs.Prelude.{ℕ, ◌≤◌, ◌<◌, ◌≡◌, false, List, length, get_or, take, Ok}
use Rattle.sched.specs.Jobs.{Jobs}
use Rattle.sched.specs.Checks.{Passes}
use Rattle.laws_rivals.specs.Rivals.{Answered, AgainstRivals, CheapestSleep, CountsWoken}
use Rattle.joblist.specs.Bytes.{spelling}
use Rattle.joblist.specs.Reading.{list_of}
use Rattle.sleep_plan.specs.Block.{block_length, number_in}
use Rattle.sleep_plan.specs.Entry.{bytes_check, call_answer, entry}

-- what a caller in C can read off the number that comes back and the block: 18 says overloaded and the block's first two numbers show the
-- interval; 0 says planned and the block's first number reports the energy
abbrev pub as_call : ℕ → List ℕ → Answered
as_call returned block =
    record {
      overloaded = returned ≡ 18;
      shows = λ from to. (returned ≡ 18) × (number_in block 0 ≡ from) × (number_in block 1 ≡ to);
      reports = λ reported. (returned ≡ 0) × (number_in block 0 ≡ reported);
    }

pub record CallPromise (list lent_table lent_block : List ℕ) (r : ℕ) (table' block' : List ℕ) : Type 0 where
  pub returned : r ≡ (entry list lent_table lent_block).number
  pub table : table' ≡ (entry list lent_table lent_block).table
  pub block : block' ≡ (entry list lent_table lent_block).block
  -- no value is too large for its four bytes
  pub numbers : block_length ≤ length lent_block → (i : ℕ) → i < 4 → number_in block' i ≡ get_or (call_answer list lent_table).values i 0
  -- demand 3: the bytes spell a list that passes the list checks, the table is long enough, the block has 16 bytes or more
  pub rivals : (J : Jobs) → J.start ≡ false → Passes J → list ≡ spelling J → J.horizon ≤ length lent_table → block_length ≤ length lent_block → AgainstRivals J (as_call r block') (take J.horizon table')
  -- the same for bytes that the reader takes, which spell the list that it reads
  pub rivals_of_bytes : bytes_check list ≡ Ok tt → (list_of list).horizon ≤ length lent_table → block_length ≤ length lent_block → AgainstRivals (list_of list) (as_call r block') (take (list_of list).horizon table')
  -- 02, card 5: whenever 0 comes back, the block's first number is the energy of the table handed back, and no table in which the same slots work costs less
  pub cheapest : (J : Jobs) → J.start ≡ false → Passes J → list ≡ spelling J → CheapestSleep J (as_call r block') (take J.horizon table')
  -- the same for any bytes
  pub cheapest_of_bytes : CheapestSleep (list_of list) (as_call r block') (take (list_of list).horizon table')
  -- "added counts the slots woken in step 3, and equals the sum of volumes less the skeleton's workable volume": whenever 0 comes back, this
  -- holds of the block's fourth number
  pub added : (J : Jobs) → J.start ≡ false → Passes J → list ≡ spelling J → r ≡ 0 → CountsWoken J (number_in block' 3)
  -- the same for any bytes: 0 comes back only where they were read and both buffers are long enough
  pub added_of_bytes : r ≡ 0 → CountsWoken (list_of list) (number_in block' 3)
