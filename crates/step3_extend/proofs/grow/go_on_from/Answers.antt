-- `grow::go_on_from` meets its contract: its tests tell the slots before x apart as `cursor_after` does.
use Rattle.step3_extend.proofs.Reading.{byte_awake, byte_asleep, set_long, cursor_first, woken_awake, woken_second, woken_beside, woken_back}
use Rattle.sched.specs.Slots.{awake_of}
use Prim.Native.Nat.{◌-◌}
use mathlib.Core.Path.{refl}
use native.Mathlib.Omega.{arith}
use Rattle.step3_extend.proofs.grow.go_on_from.Goals as goal

pub returns-then-x-eq0 : goal.returns-then-x-eq0
returns-then-x-eq0 c = cursor_first _ _ c.if-x-eq0.true

pub returns-then-books-x : goal.returns-then-books-x
returns-then-books-x c =
    let table = c.args.books.now.table.now in
    let x = c.args.x in
    woken_awake (awake_of table) x _ c.if-x-eq0.false (byte_awake table (x - 1) (omega (arith, c.requires)) c.if-books-x.true) refl

pub returns-then-x-eq1 : goal.returns-then-x-eq1
returns-then-x-eq1 c =
    let table = c.args.books.now.table.now in
    let x = c.args.x in
    woken_second (awake_of table) x _ (set_long table x c.requires) c.if-x-eq1.true
    (byte_asleep table (x - 1) (omega (arith, c.requires)) c.if-books-x.false) refl

pub returns-then-books-x-2 : goal.returns-then-books-x-2
returns-then-books-x-2 c =
    let table = c.args.books.now.table.now in
    let x = c.args.x in
    woken_beside (awake_of table) _ _ x (set_long table x c.requires) c.if-x-eq0.false
    (byte_asleep table (x - 1) (omega (arith, c.requires)) c.if-books-x.false) refl
    c.if-x-eq1.false (byte_awake table (x - 2) (omega (arith, c.requires)) c.if-books-x-2.true) refl

pub returns : goal.returns
returns c =
    let table = c.args.books.now.table.now in
    let x = c.args.x in
    woken_back (awake_of table) _ _ x (set_long table x c.requires) c.if-x-eq0.false
    (byte_asleep table (x - 1) (omega (arith, c.requires)) c.if-books-x.false) refl
    c.if-x-eq1.false (byte_asleep table (x - 2) (omega (arith, c.requires)) c.if-books-x-2.false) refl
