-- `grow::grow` meets its contract. While volume is short, some slot can be woken, and none before the cursor: so the search ends inside
-- the table, at the slot that step 3 wakes next.
use Rattle.std.proofs.Common.{◌≡◌, ◌+◌, ◌-◌, ◌<◌, refl, arith, rules}
use Rattle.step3_extend.proofs.Growing.{grown_start, grown_again, grown_step, grown_through, grown_end, lists_along}
use Rattle.step3_extend.proofs.Growing.{growing_inside, growing_small, growing_tryable, growing_pass, growing_vain, growing_turn, growing_long}
use Rattle.step3_extend.proofs.grow.grow.Goals as goal
use Rattle.step3_extend.proofs.grow.grow.Goals.{then-is_next+else-wake, else-is_next}

pub loop-woken-init : goal.loop-woken-init
loop-woken-init c = record { grown = grown_start (omega arith) c.requires c.first_near-cursor.ensures (omega arith); same_lists = search rules }

pub search-init : goal.search-init
search-init c = record { grown = grown_again c.loop-woken.invariant.grown; same_lists = search rules }

pub is_next-requires : goal.is_next-requires
is_next-requires c =
    let some : 0 < c.args.shortfall - c.loop-woken._woken = omega arith in
    growing_inside c.search.invariant.grown.now some

pub wake-requires-clause-tryable : goal.wake-requires-clause-tryable
wake-requires-clause-tryable c =
    let some : 0 < c.args.shortfall - c.loop-woken._woken = omega arith in
    growing_tryable c.search.invariant.grown.now c.first_due_after-first.ensures some _ c.is_next.ensures c.if-is_next.true

pub overflow_add-cursor : goal.overflow_add-cursor
overflow_add-cursor c =
    let some : 0 < c.args.shortfall - c.loop-woken._woken = omega arith in
    let small : c.search.cursor < 4096 = growing_small c.search.invariant.grown.now some in
    omega arith

pub search-smaller : goal.search-smaller
search-smaller c =
    let some : 0 < c.args.shortfall - c.loop-woken._woken = omega arith in
    omega (arith, growing_inside c.search.invariant.grown.now some, c.search.invariant.grown.same_table)

pub search-preserved : goal.search-preserved
search-preserved c =
    let been = c.search.invariant in
    let some : 0 < c.args.shortfall - c.loop-woken._woken = omega arith in
    elim c.if-is_next.branch [
      | then-is_next+else-wake w ↦
          rw (w.books-is, w.first-is) (record {
            grown =
                grown_step been.grown
                (λ K g. growing_vain g w.first_due_after-first.ensures some _ c.is_next.ensures w.if-is_next.true w.wake.ensures.attempted
                w.if-wake.false)
                w.first_due_after-first.ensures.within;
            same_lists = lists_along been.same_lists w.wake.ensures.same_lists;
          })
      | else-is_next w ↦
          rw (w.books-is, w.first-is) (record {
            grown = grown_step been.grown (λ K g. growing_pass g _ c.is_next.ensures w.if-is_next.false) been.grown.first_in;
            same_lists = been.same_lists;
          })
    ]

pub go_on_from-cursor-requires : goal.go_on_from-cursor-requires
go_on_from-cursor-requires c =
    let now = c.search.invariant.grown.now in
    let some : 0 < c.args.shortfall - c.loop-woken._woken = omega arith in
    let next = growing_turn now c.first_due_after-first.ensures some _ c.is_next.ensures c.if-is_next.true
    c.wake.ensures.attempted c.if-wake.true _ refl in
    omega (arith, growing_inside now some, growing_long now next)

pub loop-woken-preserved : goal.loop-woken-preserved
loop-woken-preserved c =
    let outer = c.loop-woken.invariant in
    let inner = c.search.invariant in
    let some : 0 < c.args.shortfall - c.loop-woken._woken = omega arith in
    let less : c.args.shortfall - c.loop-woken._woken - 1 ≡ c.args.shortfall - (c.loop-woken._woken + 1) = omega arith in
    record {
      grown =
          rw less at (grown_step (grown_through outer.grown inner.grown)
          (λ K g. growing_turn g c.first_due_after-first.ensures some _ c.is_next.ensures c.if-is_next.true
          c.wake.ensures.attempted c.if-wake.true _ c.go_on_from-cursor.ensures)
          c.first_due_after-first.ensures.within);
      same_lists = lists_along outer.same_lists (lists_along inner.same_lists c.wake.ensures.same_lists);
    }

pub returns-clause-extended : goal.returns-clause-extended
returns-clause-extended c =
    λ K k.
    let all : c.loop-woken._woken ≡ c.args.shortfall = omega (arith, c.loop-woken-test.false) in
    rw all at (grown_end c.loop-woken.invariant.grown (omega arith) K k)
