-- What is asked of the lists that are lent, and what they hold afterwards.
use Rattle.std.specs.Prelude.{ℕ, ◌-◌, ◌≤◌, ◌<◌, ◌≡◌, Bool, true, false, List, ◌≢◌, length, get_or}
use Rattle.laws_extension.specs.Chain.{RankBooks, Tried, tried}
use Rattle.step3_slot.specs.declared.Books.{Books}

-- some slot below `below` holds the byte
pub record Stops (byte below : ℕ) (table : List ℕ) : Type 0 where
  pub within : below ≤ length table
  pub slot : ℕ
  pub lower : slot < below
  pub holds : get_or table slot 0 ≡ byte

-- rank k can gain slot t
pub record Gainable (k t : ℕ) (ranks lost reach ends table : List ℕ) : Type 0 where
  pub in_ranks : k < length ranks
  pub in_lost : k < length lost
  pub in_reach : k < length reach
  pub in_ends : k < length ends
  pub in_table : t < length table
  pub small : length table ≤ 4096
  pub unit : 0 < get_or lost k 0

-- the lists are those of the books
pub record Booked (books : RankBooks) (table lost reach ends : List ℕ) : Type 0 where
  pub table_is : table ≡ books.table
  pub lost_is : lost ≡ books.lost
  pub reach_is : reach ≡ books.reach
  pub ends_is : ends ≡ books.ends

-- slot x lies in the table and sleeps, and no rank reaches behind the table; a rank that has lost no unit holds the slot that its reach ends at,
-- and the ranks are different jobs
pub record Tryable (x first : ℕ) (releases ranks lost reach ends table : List ℕ) : Type 0 where
  pub few : length releases ≤ 64
  pub ranks_long : length releases ≤ length ranks
  pub lost_long : length releases ≤ length lost
  pub reach_long : length releases ≤ length reach
  pub ends_long : length releases ≤ length ends
  pub small : length table ≤ 4096
  pub inside : x < length table
  pub within : first ≤ length releases
  pub reach_in : (k : ℕ) → k < length releases → get_or reach k 0 ≤ length table
  pub asleep : get_or table x 0 ≡ 255
  pub last : (k : ℕ) → k < length releases → get_or lost k 0 ≡ 0 → 0 < get_or reach k 0 → get_or table (get_or reach k 0 - 1) 0 ≡ get_or ranks k 0
  pub apart : (i k : ℕ) → i < k → k < length releases → get_or ranks i 0 ≢ get_or ranks k 0
  pub jobs : (k : ℕ) → k < length releases → get_or ranks k 0 < 255

-- the ranks from `first` on are asked
abbrev pub attempt : ℕ → ℕ → List ℕ → List ℕ → List ℕ → List ℕ → List ℕ → List ℕ → Tried
attempt x first releases ranks lost reach ends table = tried releases ranks (length releases - first) first x table lost reach ends

-- the answer says whether the slot helps; if it does the books are those of the chain, if not they are as before
pub record Attempted (x first : ℕ) (releases ranks lost reach ends table : List ℕ) (helped : Bool) (lost' reach' ends' table' : List ℕ) : Type 0 where
  pub helped_is : helped ≡ (attempt x first releases ranks lost reach ends table).helped
  pub booked : helped ≡ true → Booked (attempt x first releases ranks lost reach ends table).books table' lost' reach' ends'
  pub undone : helped ≡ false → (table' ≡ table) × (lost' ≡ lost) × (reach' ≡ reach) × (ends' ≡ ends)

-- the books have the same lists, whatever these hold now
pub record SameLists (old new : Books) : Type 0 where
  pub lost : new.lost.ghost_name ≡ old.lost.ghost_name
  pub reach : new.reach.ghost_name ≡ old.reach.ghost_name
  pub ends : new.ends.ghost_name ≡ old.ends.ghost_name
  pub table : new.table.ghost_name ≡ old.table.ghost_name
