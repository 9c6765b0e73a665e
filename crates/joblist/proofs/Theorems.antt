-- 01, "Job list bytes": "each list has one spelling". The writer's bytes are read back to the same list, and bytes that are read are just
-- those that the writer gives for what was read. `reading` and `writing` are what `read` and `write` promise, so all of it holds of the code.
use Rattle.std.specs.Prelude.{ℕ, ◌≤◌, ◌≡◌, refl, false, List, ◌++◌, ◌↔◌, length, take, drop, Err, Ok}
use Rattle.std.proofs.Common.{ap, sym, subst, ◌∙◌, take_at}
use Rattle.sched.specs.Jobs.{Jobs, jobs_of, count}
use Rattle.sched.specs.Checks.{Passes, length_check, check_of}
use Rattle.sched.proofs.Checks.Laws.{then_passes, length_passes, passes_passed}
use Rattle.sched.specs.TwoBytes.{AreBytes}
use Rattle.sched.specs.declared.Refusal.{Refusal}
use Rattle.sched.specs.Refusals.{place, Checked}
use Rattle.sched.proofs.Refusals.Laws.{refusal_number}
use Rattle.list_parts.specs.Header.{header_count}
use Rattle.list_parts.specs.Entries.{release_of}
use Rattle.joblist.specs.Bytes.{spelling}
use Rattle.joblist.specs.Reading.{LentRoom, read_check, list_of, Reading, reading, read_number}
use Rattle.joblist.specs.Writing.{Writing, spell_check, written_if, writing}
use Rattle.joblist.proofs.Laws.Input.{read_passed, read_passes, reading_accepted, reading_refused}
use Rattle.joblist.proofs.Theorems.Handed.{read_list}
use Rattle.joblist.proofs.Laws.Places.{PlaceWithin, read_within}
use Rattle.joblist.proofs.Laws.Lists.{list_back, spelling_good, count_back, field_count, input_again, list_passes}
use Rattle.joblist.specs.declared.ListHeader.{ListHeader}
pub mod Handed
pub mod Longest
pub mod FaultyField
pub mod OnlyNumber
pub mod TellsJob
pub mod EightMaps
pub mod LaidOut
pub mod LengthsAsBefore

-- the reading that hands over just the list J, past which the lent lists keep their entries
abbrev pub hands_over : Jobs → List ℕ → List ℕ → List ℕ → Reading
hands_over J rs ds ps =
    record {
      answer = Ok (record { h = J.horizon; q = J.wake; count = count J });
      releases = J.releases ++ drop (count J) rs;
      deadlines = J.deadlines ++ drop (count J) ds;
      volumes = J.volumes ++ drop (count J) ps;
    }

-- the list that a reading hands over under a header
abbrev pub handed : ListHeader → Reading → Jobs
handed list x =
    jobs_of list.h list.q (take list.count x.releases) (take list.count x.deadlines) (take list.count x.volumes)

-- 1. A list that passes the list checks, written, is read back to the same list.
pub read_after_write : (J : Jobs) (rs ds ps : List ℕ) → J.start ≡ false → Passes J → LentRoom (count J) (length rs) (length ds) (length ps) →
    reading (spelling J) rs ds ps ≡ hands_over J rs ds ps
read_after_write J rs ds ps asleep g room =
    reading_accepted (spelling J) rs ds ps
    (read_passes (spelling J) (length rs) (length ds) (length ps) (spelling_good J (length rs) (length ds) (length ps) g room))
    ∙ ap (λ (K : Jobs). over K (header_count (spelling J))) (list_back J asleep g)
    ∙ ap (λ (n : ℕ). over J n) (count_back J)
  where
    over : Jobs → ℕ → Reading
    over K n =
        record {
          answer = Ok (record { h = K.horizon; q = K.wake; count = n });
          releases = K.releases ++ drop n rs;
          deadlines = K.deadlines ++ drop n ds;
          volumes = K.volumes ++ drop n ps;
        }

-- 2. Bytes that are read without refusal are the bytes that are written for what was read, and that list passes the list checks.
pub write_after_read : (bytes rs ds ps : List ℕ) (list : ListHeader) → AreBytes bytes → (reading bytes rs ds ps).answer ≡ Ok list →
    (bytes ≡ spelling (handed list (reading bytes rs ds ps))) × Passes (handed list (reading bytes rs ds ps))
write_after_read bytes rs ds ps list small e =
    let x = reading bytes rs ds ps in
    let l =
    read_list bytes rs ds ps x.releases x.deadlines x.volumes x.answer
    (record { same = refl; number = refl; values = refl; releases = refl; deadlines = refl; volumes = refl }) list e in
    let g = read_passed bytes (length rs) (length ds) (length ps) l.passed in (
      input_again bytes (length rs) (length ds) (length ps) small g ∙ ap spelling (sym l.jobs),
      rw l.jobs (list_passes bytes (length rs) (length ds) (length ps) small g),
    )

-- 3. Each list has one spelling: bytes that are read to the same header and jobs are equal.
pub one_spelling : (bytes bytes' rs ds ps rs' ds' ps' : List ℕ) (list list' : ListHeader) → AreBytes bytes → AreBytes bytes' →
    (reading bytes rs ds ps).answer ≡ Ok list → (reading bytes' rs' ds' ps').answer ≡ Ok list' →
    handed list (reading bytes rs ds ps) ≡ handed list' (reading bytes' rs' ds' ps') → bytes ≡ bytes'
one_spelling bytes bytes' rs ds ps rs' ds' ps' list list' small small' e e' same =
    (write_after_read bytes rs ds ps list small e).0 ∙ ap spelling same ∙ sym (write_after_read bytes' rs' ds' ps' list' small' e').0

-- 4. What a caller of `read` knows of the bytes that it lent; what it knows of the answer and the three lists stands in `Handed`.

-- the spelling of a list that passes the list checks is read, to that list
pub spelling_read : (J : Jobs) (r d p : ℕ) → Passes J → LentRoom (count J) r d p → read_check (spelling J) r d p ≡ Ok tt
spelling_read J r d p g room = read_passes (spelling J) r d p (spelling_good J r d p g room)

pub spelling_list : (J : Jobs) → J.start ≡ false → Passes J → list_of (spelling J) ≡ J
spelling_list = list_back

-- bytes that are read stand for a list that passes the list checks
pub read_list_passes : (bytes : List ℕ) (r d p : ℕ) → AreBytes bytes → read_check bytes r d p ≡ Ok tt → Passes (list_of bytes)
read_list_passes bytes r d p small e = list_passes bytes r d p small (read_passed bytes r d p e)

-- the place of every refusal is small: no list has more than 453 bytes, and what follows them is told by its offset
pub place_small : (bytes : List ℕ) (r d p : ℕ) (x : Refusal) → read_check bytes r d p ≡ Err x → place x ≤ 453
place_small bytes r d p x e = subst (PlaceWithin 453) e (read_within bytes r d p)

-- 5. "Given as bytes, it passes if the bytes are the one spelling of such a list": the reader takes bytes exactly where they spell a list that
-- passes the list checks and the lent lists have room for it; they spell no other, and by `read_after_write` it is the list that is read.

pub record SpellsOnly (bytes : List ℕ) (J : Jobs) : Type 0 where
  pub passes : Passes J
  pub asleep : J.start ≡ false
  pub spelled : bytes ≡ spelling J
  pub only : (K : Jobs) → Passes K → K.start ≡ false → bytes ≡ spelling K → K ≡ J

pub read_iff_spelled : (bytes rs ds ps : List ℕ) → AreBytes bytes →
    (read_number (reading bytes rs ds ps).answer ≡ 0) ↔ ((J : Jobs) × (SpellsOnly bytes J × LentRoom (count J) (length rs) (length ds) (length ps)))
read_iff_spelled bytes rs ds ps small = (λ z. spells z (read_check bytes r d p) refl, taken)
  where
    r : ℕ
    r = length rs

    d : ℕ
    d = length ds

    p : ℕ
    p = length ps

    spells : read_number (reading bytes rs ds ps).answer ≡ 0 → (c : Checked) → read_check bytes r d p ≡ c →
        (J : Jobs) × (SpellsOnly bytes J × LentRoom (count J) r d p)
    spells z (Err x) e =
        absurd (refusal_number x (sym (ap (λ (y : Reading). read_number y.answer) (reading_refused bytes rs ds ps x e)) ∙ z))
    spells z (Ok tt) e =
        let g = read_passed bytes r d p e in (
          list_of bytes,
          (
            record {
              passes = list_passes bytes r d p small g;
              asleep = refl;
              spelled = input_again bytes r d p small g;
              only = λ K passes asleep same. sym (ap list_of same ∙ spelling_list K asleep passes);
            },
            rw (field_count bytes release_of) g.room,
          ),
        )

    taken : (J : Jobs) × (SpellsOnly bytes J × LentRoom (count J) r d p) → read_number (reading bytes rs ds ps).answer ≡ 0
    taken (J, (one, room)) =
        ap (λ (b : List ℕ). read_number (reading b rs ds ps).answer) one.spelled
        ∙ ap (λ (y : Reading). read_number y.answer) (read_after_write J rs ds ps one.asleep one.passes room)

-- The same of the writer itself, with a buffer that is long enough

spell_passes : (J : Jobs) (size : ℕ) → Passes J → length (spelling J) ≤ size → spell_check J size ≡ Ok tt
spell_passes J size p m =
    then_passes (check_of J) (length_check size (length (spelling J))) (passes_passed J p)
    ∙ length_passes size (length (spelling J)) m

pub written : (J : Jobs) (out : List ℕ) → Passes J → length (spelling J) ≤ length out →
    writing J out ≡ record { answer = Ok (length (spelling J)); out = spelling J ++ drop (length (spelling J)) out }
unfolding writing
written J out p m = ap (λ (c : Checked). written_if c J out) (spell_passes J (length out) p m)

-- what is written for a list that passes the list checks is read back to the same list
pub written_is_read : (J : Jobs) (out rs ds ps : List ℕ) → J.start ≡ false → Passes J → length (spelling J) ≤ length out →
    LentRoom (count J) (length rs) (length ds) (length ps) → reading (take (length (spelling J)) (writing J out).out) rs ds ps ≡ hands_over J rs ds ps
written_is_read J out rs ds ps asleep p m room =
    ap (λ (w : Writing). reading (take (length (spelling J)) w.out) rs ds ps) (written J out p m)
    ∙ ap (λ (b : List ℕ). reading b rs ds ps) (take_at (spelling J) (drop (length (spelling J)) out) (length (spelling J)) refl)
    ∙ read_after_write J rs ds ps asleep p room

-- what was read is written to the same bytes
pub read_is_written : (bytes rs ds ps out : List ℕ) (list : ListHeader) → AreBytes bytes → (reading bytes rs ds ps).answer ≡ Ok list →
    length bytes ≤ length out →
    writing (handed list (reading bytes rs ds ps)) out ≡ record { answer = Ok (length bytes); out = bytes ++ drop (length bytes) out }
read_is_written bytes rs ds ps out list small e m =
    let w = write_after_read bytes rs ds ps list small e in
    written (handed list (reading bytes rs ds ps)) out w.1 (subst (λ (b : List ℕ). length b ≤ length out) w.0 m)
    ∙ ap (λ (b : List ℕ). accepts b) (sym w.0)
  where
    accepts : List ℕ → Writing
    accepts b = record { answer = Ok (length b); out = b ++ drop (length b) out }
