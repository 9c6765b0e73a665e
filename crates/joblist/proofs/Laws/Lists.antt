-- A whole list, header and entries, written and read back, and read and written again.
use Rattle.std.specs.Prelude.{ℕ, ◌≤◌, ◌≡◌, false, List, length, drop}
use Rattle.std.proofs.Math.Path.{refl, sym}
use Rattle.std.proofs.Common.{◌∙◌}
use native.Mathlib.Omega.{arith}
use Rattle.sched.specs.Jobs.{Jobs, count}
use Rattle.sched.specs.Checks.{Passes}
use Rattle.sched.specs.TwoBytes.{AreBytes}
use Rattle.sched.proofs.TwoBytes.Laws.{are_bytes_drop, word_back}
use Rattle.list_parts.specs.Header.{header_length, header_horizon, header_wake, header_count, header_start}
use Rattle.list_parts.specs.Entries.{entry_size, release_of, deadline_of, volume_of, column}
use Rattle.list_parts.proofs.Laws.Header.{count_in_byte, start_in_byte, header_again}
use Rattle.list_parts.proofs.Laws.Walk.{column_length}
use Rattle.joblist.specs.Bytes.{entries_bytes, spelling}
use Rattle.joblist.specs.Reading.{LentRoom, list_of}
use Rattle.joblist.proofs.Laws.Input.{GoodInput}
use Rattle.joblist.proofs.Laws.RoundTrip.{EntriesBack, entries_back, EntriesAgain, entries_again}

pub same_list : (J K : Jobs) → J.horizon ≡ K.horizon → J.wake ≡ K.wake → J.start ≡ K.start →
    J.releases ≡ K.releases → J.deadlines ≡ K.deadlines → J.volumes ≡ K.volumes → J ≡ K
same_list J K h q s r d p = λ i. record { horizon = h i; wake = q i; start = s i; releases = r i; deadlines = d i; volumes = p i }

module _ (J : Jobs) where
  pub horizon_back : header_horizon (spelling J) ≡ J.horizon
  unfolding spelling
  horizon_back = word_back J.horizon

  pub wake_back : header_wake (spelling J) ≡ J.wake
  unfolding spelling
  wake_back = word_back J.wake

  pub count_back : header_count (spelling J) ≡ count J
  unfolding spelling
  count_back = count_in_byte J.start (count J)

  start_back : J.start ≡ false → header_start (spelling J) ≡ J.start
  unfolding spelling
  start_back asleep = start_in_byte J.start (count J) asleep

  rest_back : drop header_length (spelling J) ≡ entries_bytes J.horizon J.releases J.deadlines J.volumes
  unfolding spelling
  rest_back = refl

  header_long : header_length ≤ length (spelling J)
  unfolding spelling
  header_long = omega arith

  back : Passes J → EntriesBack J.horizon J.releases J.deadlines J.volumes
  back p = entries_back J.horizon J.releases J.deadlines J.volumes p.same_deadlines p.same_volumes p.good

  -- the spelling of a list that passes the list checks passes the reader's
  pub spelling_good : (r d p : ℕ) → Passes J → LentRoom (count J) r d p → GoodInput (spelling J) r d p
  spelling_good r d p g room =
      record {
        header =
            record {
              long = header_long;
              low = rw horizon_back g.low;
              high = rw horizon_back g.high;
              few = rw count_back g.few;
            };
        room = rw count_back room;
        entries = rw (count_back, horizon_back, rest_back) ((back g).passed (length (spelling J)) 0 header_length);
      }

  -- the bytes say nothing of the state before slot 0: it is asleep
  pub list_back : J.start ≡ false → Passes J → list_of (spelling J) ≡ J
  list_back asleep g =
      same_list (list_of (spelling J)) J horizon_back wake_back (start_back asleep)
      (rw (count_back, rest_back) (back g).releases)
      (rw (horizon_back, count_back, rest_back) (back g).deadlines)
      (rw (count_back, rest_back) (back g).volumes)

-- Read and written again

-- each field is read as often as the header says
pub field_count : (bytes : List ℕ) (field : List ℕ → ℕ) →
    length (column entry_size field (header_count bytes) (drop header_length bytes)) ≡ header_count bytes
field_count bytes field = column_length entry_size field (header_count bytes) (drop header_length bytes)

module _ (bytes : List ℕ) (r d p : ℕ) (small : AreBytes bytes) (g : GoodInput bytes r d p) where
  again : EntriesAgain (header_horizon bytes) (header_count bytes) (drop header_length bytes)
  again =
      entries_again (header_count bytes) (header_horizon bytes) (length bytes) 0 header_length (drop header_length bytes)
      (are_bytes_drop header_length bytes small) g.entries

  pub input_again : bytes ≡ spelling (list_of bytes)
  unfolding spelling
  input_again =
      sym (rw (field_count bytes release_of) (header_again bytes _ small g.header.long again.bytes))

  pub list_passes : Passes (list_of bytes)
  list_passes =
      record {
        low = g.header.low;
        high = g.header.high;
        same_deadlines = field_count bytes (deadline_of (header_horizon bytes)) ∙ sym (field_count bytes release_of);
        same_volumes = field_count bytes volume_of ∙ sym (field_count bytes release_of);
        few = rw (field_count bytes release_of) g.header.few;
        good = λ j l. again.good j (rw (field_count bytes release_of) at l);
      }
