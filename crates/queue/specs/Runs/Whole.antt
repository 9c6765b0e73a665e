-- A run that begins with slot 0 is the whole run.
use Rattle.std.specs.Prelude.{ℕ, ◌-◌, ◌≡◌, List, length}
use Rattle.std.proofs.Common.{ap, ◌∙◌, arith}
use Rattle.sched.specs.Slots.{awake, awake_of}
use Rattle.laws_edf.specs.Run.{Spans, bytes, final}
use Rattle.laws_edf.specs.Search.{state_of}
use Rattle.queue.specs.Runs.{RunDone}

module _ {F : Spans} {left table left' table' : List ℕ} (d : RunDone F 0 left table left' table') where
  whole : length table - 0 ≡ length table
  whole = omega arith

  pub whole_table : table' ≡ bytes F (awake (awake_of table)) (length table) 0 (state_of left)
  whole_table = d.table_is ∙ ap (λ (h : ℕ). bytes F (awake (awake_of table)) h 0 (state_of left)) whole

  pub whole_left : state_of left' ≡ final F (awake (awake_of table)) (length table) 0 (state_of left)
  whole_left = d.left_is ∙ ap (λ (h : ℕ). final F (awake (awake_of table)) h 0 (state_of left)) whole
