-- `grow::is_near` meets its contract; slot 0 has one neighbour.
use Rattle.std.proofs.Common.{◌≡◌, ◌+◌, ◌-◌, ◌∙◌, ap, sym, arith, ltb-true}
use Rattle.sched.specs.Slots.{awake, awake_of}
use Rattle.sched.proofs.Slots.Laws.{awake_of_lem}
use Rattle.step3_extend.proofs.Reading.{near_first, near_before, near_behind}
use Rattle.step3_extend.proofs.grow.is_near.Goals as goal
use Rattle.step3_extend.proofs.grow.is_near.Goals.{then-t-gt0, else-t-gt0}

pub returns-then-books-t : goal.returns-then-books-t
returns-then-books-t c =
    let a = c.args in
    elim c.if-t-gt0.branch [
      | then-t-gt0 w ↦ c.if-books-t.true ∙ near_before (awake_of a.books.now.table.now) a.t _ (λ z. absurd (omega (arith, w.if-t-gt0.true)))
          (w.value-is ∙ sym (awake_of_lem a.books.now.table.now (a.t - 1) (omega arith))) c.if-books-t.true
      | else-t-gt0 w ↦ absurd (omega (arith, w.if-t-gt0.false, ltb-true 0 a.t (sym w.value-is ∙ c.if-books-t.true)))
    ]

pub returns-else-books-t : goal.returns-else-books-t
returns-else-books-t c =
    let a = c.args in
    elim c.if-t-gt0.branch [
      | then-t-gt0 w ↦ near_behind (awake_of a.books.now.table.now) a.t _ _ (λ z. absurd (omega (arith, w.if-t-gt0.true)))
          (w.value-is ∙ sym (awake_of_lem a.books.now.table.now (a.t - 1) (omega arith))) c.if-books-t.false c.is_awake.ensures
      | else-t-gt0 w ↦
          let one : a.t + 1 ≡ 1 = omega (arith, w.if-t-gt0.false) in
          near_first (awake_of a.books.now.table.now) a.t _ (omega (arith, w.if-t-gt0.false))
          (c.is_awake.ensures ∙ ap (awake (awake_of a.books.now.table.now)) one)
    ]
