-- 02, card 2: "A record that is read and written again has the same bytes, and a table that is written and read is the same table." `Writes` and
-- `Reads` are what `write` and `read` promise.
use Rattle.std.specs.Prelude.{ℕ, ◌≤◌, ◌≡◌, refl, List, [], ◌++◌, ◌↔◌, length, take, drop, Err, Ok, Result}
use Rattle.std.proofs.Common.{sym, ap, ap₂, subst, ◌∙◌, append-nil, arith, take_at, get_or-take, length-take-le}
use Rattle.sched.specs.TwoBytes.{AreBytes, word}
use Rattle.sched.proofs.TwoBytes.Laws.{are_bytes_take}
use Rattle.sched.specs.Slots.{awake_of}
use Rattle.sched.specs.Energy.{awake_slots}
use Rattle.sched.specs.Checks.{horizon_check, length_check, table_check, byte_check, bytes_from, slots_check}
use Rattle.sched.proofs.Checks.Laws.{then_passed, then_passes, length_good, length_passes, slots_good}
use Rattle.sched.proofs.Checks.Bytes.{bytes_good, bytes_pass}
use Rattle.record.specs.declared.RecordSize.{RecordSize}
use Rattle.record_map.specs.Stored.{stored}
use Rattle.record_parts.specs.Layout.{record_of}
use Rattle.record_parts.specs.Bytes.{slots_in, record_check}
use Rattle.record_parts.proofs.Bytes.Laws.{GoodRecord, record_passed}
use Rattle.record.specs.Record.{record_bytes, room_check, write_check, write_answer, out_after, Writes}
use Rattle.record.specs.Reading.{table_in, read_check, read_answer, Reads}
use Rattle.record.proofs.Reading.Back.{record_taken, record_horizon, record_table, length_table, table_awake, table_bytes, record_again, table_taken}
use Rattle.sched.specs.declared.Refusal.{Refusal}
use Rattle.sched.specs.Refusals.{Checked}

-- what is known of a call that was accepted

size_of : Result RecordSize Refusal → ℕ
size_of (Ok size) = size.bytes
size_of (Err r) = 0

horizon_of : Result ℕ Refusal → ℕ
horizon_of (Ok h) = h
horizon_of (Err r) = 0

record Wrote (h : ℕ) (table out : List ℕ) (size : RecordSize) (after : List ℕ) : Type 0 where
  taken : slots_check h table ≡ Ok tt
  long : size.bytes ≡ length (record_bytes h table)
  put : after ≡ stored (record_bytes h table) out

wrote : (h : ℕ) (table out after : List ℕ) (size : RecordSize) → Writes h table out (Ok size) after → Wrote h table out size after
unfolding size_of
wrote h table out after size w = by (write_check h table out) refl
  where
    by : (c : Checked) → write_check h table out ≡ c → Wrote h table out size after
    by (Err r) e =
        let q : Ok size ≡ Err r = w.same ∙ ap (write_answer h (take h table)) e in
        let z : ◌≡◌ {A = ℕ} 0 1 = cc in
        absurd (omega arith)
    by (Ok tt) e =
        record {
          taken = (then_passed (slots_check h table) (room_check (record_bytes h table) out) e).0;
          long = ap size_of (w.same ∙ ap (write_answer h (take h table)) e);
          put = w.bytes ∙ ap (out_after (record_bytes h table) out) e;
        }

pub record HasRead (bytes lent : List ℕ) (h : ℕ) (filled : List ℕ) : Type 0 where
  pub good : GoodRecord bytes
  pub horizon : h ≡ word bytes
  pub put : filled ≡ stored (table_in bytes) lent

pub has_read : (bytes lent filled : List ℕ) (h : ℕ) → Reads bytes lent (Ok h) filled → HasRead bytes lent h filled
unfolding horizon_of
has_read bytes lent filled h w = by (read_check bytes (length lent)) refl
  where
    by : (c : Checked) → read_check bytes (length lent) ≡ c → HasRead bytes lent h filled
    by (Err r) e =
        let q : Ok h ≡ Err r = w.same ∙ ap (read_answer bytes) e in
        let z : ◌≡◌ {A = ℕ} 0 1 = cc in
        absurd (omega arith)
    by (Ok tt) e =
        record {
          good = record_passed bytes (then_passed (record_check bytes) (length_check (length lent) (word bytes)) e).0;
          horizon = ap horizon_of (w.same ∙ ap (read_answer bytes) e);
          put = w.table ∙ ap (out_after (table_in bytes) lent) e;
        }

-- the table that was read stands in front
read_front : (bytes lent filled : List ℕ) (h : ℕ) → AreBytes bytes → Reads bytes lent (Ok h) filled → take h filled ≡ table_in bytes
read_front bytes lent filled h small r =
    let k = has_read bytes lent filled h r in
    ap (take h) k.put
    ∙ take_at (table_in bytes) (drop (length (table_in bytes)) lent) h (length_table bytes k.good small ∙ sym k.horizon)

-- the writer looks at the first h bytes only
slots_front : (h : ℕ) (table : List ℕ) → slots_check h table ≡ Ok tt → slots_check h (take h table) ≡ Ok tt
slots_front h table e =
    let (size, bytes) = then_passed (table_check h (length table)) (bytes_from h 0 table) e in
    let (low, room) = then_passed (horizon_check h) (length_check (length table) h) size in
    let long : length (take h table) ≡ h = length-take-le h table (length_good (length table) h room) in
    then_passes (table_check h (length (take h table))) (bytes_from h 0 (take h table))
    (then_passes (horizon_check h) (length_check (length (take h table)) h) low ∙ length_passes (length (take h table)) h (omega arith))
    ∙ bytes_pass byte_check h 0 (take h table)
    (λ i l m. ap (byte_check i) (get_or-take h table i 0 (omega arith)) ∙ bytes_good byte_check h 0 table bytes i l m)

-- What a call that reads has done: H is 1 to 4,096, the table of the record has H bytes, and these are put in front of what was lent; where the
-- map has a one a slot is awake, and only there.
pub record Filled (bytes lent : List ℕ) (h : ℕ) (filled : List ℕ) : Type 0 where
  pub low : 1 ≤ h
  pub high : h ≤ 4096
  pub long : length (table_in bytes) ≡ h
  pub table : filled ≡ table_in bytes ++ drop h lent
  pub awake : awake_of (take h filled) ≡ slots_in bytes

pub read_fills : (bytes lent filled : List ℕ) (h : ℕ) → AreBytes bytes → Reads bytes lent (Ok h) filled → Filled bytes lent h filled
read_fills bytes lent filled h small r =
    let k = has_read bytes lent filled h r in
    let long : length (table_in bytes) ≡ h = length_table bytes k.good small ∙ sym k.horizon in
    record {
      low = omega (arith, k.horizon, k.good.low);
      high = omega (arith, k.horizon, k.good.high);
      long = long;
      table = k.put ∙ ap (λ (n : ℕ). table_in bytes ++ drop n lent) long;
      awake = ap awake_of (read_front bytes lent filled h small r) ∙ table_awake bytes k.good small;
    }

-- 1. A table that is written and read is the same table: H comes back, and the first H bytes.
pub written_is_read : (h : ℕ) (table out after lent filled : List ℕ) (size : RecordSize) (answer : Result ℕ Refusal) → AreBytes table →
    Writes h table out (Ok size) after → h ≤ length lent → Reads (take size.bytes after) lent answer filled →
    (answer ≡ Ok h) × (filled ≡ take h table ++ drop h lent)
written_is_read h table out after lent filled size answer small w room r =
    let k = wrote h table out after size w in
    let slots = take h table in
    let long : length slots ≡ h = length-take-le h table (slots_good h table k.taken).1 in
    let taken = slots_front h table k.taken in
    let few = are_bytes_take h table small in
    let R = record_bytes h table in
    let is : take size.bytes after ≡ R = ap (take size.bytes) k.put ∙ take_at R (drop (length R) out) size.bytes (sym k.long) in
    let s : Reads R lent answer filled = subst (λ (x : List ℕ). Reads x lent answer filled) is r in
    let back : word R ≡ h = record_horizon h slots long in
    let passed : read_check R (length lent) ≡ (Ok tt) =
    then_passes (record_check R) (length_check (length lent) (word R)) (record_taken h slots long few taken)
    ∙ ap (length_check (length lent)) back ∙ length_passes (length lent) h room in (
      s.same ∙ ap (read_answer R) passed ∙ ap Ok back,
      s.table ∙ ap (out_after (table_in R) lent) passed ∙ ap (λ (x : List ℕ). stored x lent) (record_table h slots long)
          ∙ ap (λ (n : ℕ). slots ++ drop n lent) long,
    )

-- 2. A record that is read and written again has the same bytes: the writer takes the table that the reader has filled.
pub read_is_written : (bytes lent filled out after : List ℕ) (h : ℕ) (answer : Result RecordSize Refusal) → AreBytes bytes →
    Reads bytes lent (Ok h) filled → length bytes ≤ length out → Writes h filled out answer after →
    (answer ≡ Ok (record { bytes = length bytes; awake = awake_slots (awake_of (take h filled)) })) × (after ≡ bytes ++ drop (length bytes) out)
read_is_written bytes lent filled out after h answer small r room w =
    let k = has_read bytes lent filled h r in
    let T = table_in bytes in
    let front : take h filled ≡ T = read_front bytes lent filled h small r in
    let is : record_bytes h filled ≡ bytes = ap₂ record_of k.horizon front ∙ record_again bytes k.good small in
    let taken : slots_check h filled ≡ (Ok tt) = ap₂ slots_check k.horizon k.put ∙ table_taken bytes k.good small (drop (length T) lent) in
    let passed : write_check h filled out ≡ (Ok tt) =
    then_passes (slots_check h filled) (room_check (record_bytes h filled) out) taken
    ∙ ap (λ (x : List ℕ). room_check x out) is ∙ length_passes (length out) (length bytes) room in (
      w.same ∙ ap (write_answer h (take h filled)) passed
          ∙ ap (λ (x : List ℕ). Ok (record { bytes = length x; awake = awake_slots (awake_of (take h filled)) })) is,
      w.bytes ∙ ap (out_after (record_bytes h filled) out) passed ∙ ap (λ (x : List ℕ). stored x out) is,
    )

-- 3. A record has one spelling: two that are read to one horizon and one table are the same bytes.
pub one_spelling : (bytes bytes' lent lent' filled filled' : List ℕ) (h : ℕ) → AreBytes bytes → AreBytes bytes' →
    Reads bytes lent (Ok h) filled → Reads bytes' lent' (Ok h) filled' → take h filled ≡ take h filled' → bytes ≡ bytes'
one_spelling bytes bytes' lent lent' filled filled' h small small' r r' same =
    again bytes lent filled small r ∙ ap (record_of h) same ∙ sym (again bytes' lent' filled' small' r')
  where
    again : (b l f : List ℕ) → AreBytes b → Reads b l (Ok h) f → b ≡ record_of h (take h f)
    again b l f s x =
        let k = has_read b l f h x in
        sym (ap₂ record_of k.horizon (read_front b l f h s x) ∙ record_again b k.good s)

-- 4. The reader's checks let through just the records of the tables that the writer takes.
pub record RecordFrom (bytes : List ℕ) : Type 0 where
  pub h : ℕ
  pub slots : List ℕ
  pub long : length slots ≡ h
  pub small : AreBytes slots
  pub taken : slots_check h slots ≡ Ok tt
  pub written : bytes ≡ record_of h slots

pub read_iff_written : (bytes : List ℕ) → AreBytes bytes → (record_check bytes ≡ Ok tt) ↔ RecordFrom bytes
read_iff_written bytes small = (from, back)
  where
    from : record_check bytes ≡ Ok tt → RecordFrom bytes
    from p =
        let g = record_passed bytes p in
        record {
          h = word bytes;
          slots = table_in bytes;
          long = length_table bytes g small;
          small = table_bytes bytes g small;
          taken = ap (slots_check (word bytes)) (sym (append-nil (table_in bytes))) ∙ table_taken bytes g small [];
          written = sym (record_again bytes g small);
        }

    back : RecordFrom bytes → record_check bytes ≡ Ok tt
    back k = ap record_check k.written ∙ record_taken k.h k.slots k.long k.small k.taken
