-- The lines of the runs of a table, run by run.
use Prim.Native.Nat.{ℕ, ◌+◌, ◌-◌, ◌≤◌, ◌<◌}
use mathlib.Core.Path.{◌≡◌, ap}
use mathlib.Core.Bool.{true, false}
use mathlib.Core.List.{List, [], ◌++◌}
use native.Mathlib.Omega.{arith}
use lib.ListN.{length, length-append}
use Rattle.sched.specs.Slots.{awake_of}
use Rattle.sched.proofs.Slots.Laws.{awake_of_length}
use Rattle.sched.proofs.Energy.Laws.{room, runs_at_most}
use Rattle.sched.specs.Runs.{Run, StretchEnd}
use Rattle.sched.proofs.Runs.Laws.{runs_left, none_left, stretch_asleep, stretch_awake}
use Rattle.sched.proofs.Runs.Search.{RunFrom, run_from, run_moves}
use Rattle.sched.specs.Buffers.{PutAt}
use Rattle.report.specs.Report.{run_line, lines_of, run_lines}
use Rattle.report.specs.Report.Laws.{run_line_few, lines_few}
use Rattle.report.proofs.Putting.{ToPut, put_none, put_part, put_room, put_all}

-- the lines of the runs: those from the first one on, the next one and the others, none

first_lines : (table : List ℕ) (first : ℕ) → StretchEnd (awake_of table) (length table) 0 false first → run_lines table ≡ lines_of (runs_left (awake_of table) first)
first_lines table first e = ap lines_of (stretch_asleep (awake_of table) (length table) 0 first e)

next_lines : (table : List ℕ) (first behind : ℕ) → RunFrom (awake_of table) (length table) first → first < length table → StretchEnd (awake_of table) (length table) first true behind →
    lines_of (runs_left (awake_of table) first) ≡ run_line first (behind - first) ++ lines_of (runs_left (awake_of table) behind)
unfolding lines_of
next_lines table first behind g l e = ap lines_of (stretch_awake (awake_of table) (length table) first behind (awake_of_length table) e (run_moves (awake_of table) (length table) first behind g l e))

last_lines : (table : List ℕ) (first : ℕ) → length table ≤ first → lines_of (runs_left (awake_of table) first) ≡ []
unfolding lines_of
last_lines table first l = ap lines_of (none_left (awake_of table) first (rw awake_of_length l))

-- a line of a table of at most 65,535 slots takes at most 16 bytes, and there are at most 32,768
pub lines_most : (table : List ℕ) → length table ≤ 65535 → length (run_lines table) ≤ 524288
unfolding room
lines_most table l =
    let S = awake_of table in
    let long : length S ≡ length table = awake_of_length table in
    let short : (first slots : ℕ) → first + slots ≤ 65535 → length (run_line first slots) ≤ 16 =
    λ first slots m. run_line_few 5 first slots (omega arith) (omega arith) (omega arith) in
    omega (arith, lines_few 65535 16 short false 0 S (omega arith), runs_at_most false S)

-- their length, run by run
pub record LinesSized (table : List ℕ) (n first : ℕ) : Type 0 where
  pub from : RunFrom (awake_of table) (length table) first
  pub left : n + length (lines_of (runs_left (awake_of table) first)) ≡ length (run_lines table)

pub lines_sized_start : (table : List ℕ) (first : ℕ) → StretchEnd (awake_of table) (length table) 0 false first → LinesSized table 0 first
lines_sized_start table first e =
    record { from = run_from (awake_of table) (length table) 0 first e; left = omega (arith, ap length (first_lines table first e)) }

module _ (table : List ℕ) (n first : ℕ) (s : LinesSized table n first) where
  module _ (behind x : ℕ) (l : first < length table) (e : StretchEnd (awake_of table) (length table) first true behind) (q : x ≡ length (run_line first (behind - first))) where
    with_run : n + x + length (lines_of (runs_left (awake_of table) behind)) ≡ length (run_lines table)
    with_run =
        omega (
          arith,
          s.left,
          ap length (next_lines table first behind s.from l e),
          length-append (run_line first (behind - first)) (lines_of (runs_left (awake_of table) behind)),
        )

    pub lines_sized_few : length table ≤ 65535 → n + x ≤ 524288
    lines_sized_few few = omega (arith, with_run, lines_most table few)

    pub lines_sized_turn : (next : ℕ) → StretchEnd (awake_of table) (length table) behind false next → LinesSized table (n + x) next
    lines_sized_turn next f =
        record {
          from = run_from (awake_of table) (length table) behind next f;
          left = omega (arith, with_run, ap (λ (rs : List Run). length (lines_of rs)) (stretch_asleep (awake_of table) (length table) behind next f));
        }

  pub lines_sized_end : length table ≤ first → n ≡ length (run_lines table)
  lines_sized_end l = omega (arith, s.left, ap length (last_lines table first l))

-- the lines put, run by run
pub record LinesLeft (table out₀ : List ℕ) (at₀ : ℕ) (out : List ℕ) (at first : ℕ) : Type 0 where
  pub from : RunFrom (awake_of table) (length table) first
  pub put : ToPut out₀ at₀ (run_lines table) out at (lines_of (runs_left (awake_of table) first))

pub lines_left_start : (table out : List ℕ) (at first : ℕ) → StretchEnd (awake_of table) (length table) 0 false first → LinesLeft table out at out at first
lines_left_start table out at first e =
    record { from = run_from (awake_of table) (length table) 0 first e; put = rw (← first_lines table first e) (put_none out at (run_lines table)) }

module _ (table out₀ : List ℕ) (at₀ : ℕ) (out : List ℕ) (at first : ℕ) (s : LinesLeft table out₀ at₀ out at first) where
  module _ (behind : ℕ) (l : first < length table) (e : StretchEnd (awake_of table) (length table) first true behind) where
    next_run : ToPut out₀ at₀ (run_lines table) out at (run_line first (behind - first) ++ lines_of (runs_left (awake_of table) behind))
    next_run = rw (← next_lines table first behind s.from l e) s.put

    pub lines_left_room : at₀ + length (run_lines table) ≤ length out₀ → at + length (run_line first (behind - first)) ≤ length out
    lines_left_room room =
        put_room out₀ at₀ (run_lines table) out at (run_line first (behind - first)) (lines_of (runs_left (awake_of table) behind)) next_run room

    pub lines_left_turn : (place : ℕ) (after : List ℕ) → PutAt out at (run_line first (behind - first)) place after → (next : ℕ) → StretchEnd (awake_of table) (length table) behind false next → LinesLeft table out₀ at₀ after place next
    lines_left_turn place after p next f =
        let put : ToPut out₀ at₀ (run_lines table) after place (lines_of (runs_left (awake_of table) behind)) =
        put_part out₀ at₀ (run_lines table) out at (run_line first (behind - first)) (lines_of (runs_left (awake_of table) behind)) place after next_run p in
        record { from = run_from (awake_of table) (length table) behind next f; put = rw (← stretch_asleep (awake_of table) (length table) behind next f) put }

  pub lines_left_end : length table ≤ first → PutAt out₀ at₀ (run_lines table) at out
  lines_left_end l = put_all out₀ at₀ (run_lines table) out at (rw (← last_lines table first l) s.put)
