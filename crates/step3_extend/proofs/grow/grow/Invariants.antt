-- `grow::grow` meets its contract. While volume is short, some slot can be woken, and none before the cursor: so the search ends inside
-- the table, at the slot that step 3 wakes next.
use Rattle.std.proofs.Common.{◌-◌, length}
use Rattle.step3_slot.specs.Books.{SameLists}
use Rattle.step3_extend.proofs.Growing.{Grown}
use Rattle.step3_extend.proofs.grow.grow.Given as goal

abbrev pub invariant-search : goal.invariant-search
invariant-search l =
    record {
      grown : Grown l.releases l.deadlines l.ranks l.initial.books.lost.now l.initial.books.reach.now l.initial.books.ends.now
          l.initial.books.table.now (l.shortfall - l._woken) l._woken l.initial.cursor l.books.lost.now l.books.reach.now l.books.ends.now
          l.books.table.now (l.shortfall - l._woken) l._woken l.cursor l.first;
      same_lists : SameLists l.initial.books l.books;
    }

abbrev pub decreases-search : goal.decreases-search
decreases-search l = length l.initial.books.table.now - l.cursor

abbrev pub invariant-loop-woken : goal.invariant-loop-woken
invariant-loop-woken l =
    record {
      grown : Grown l.releases l.deadlines l.ranks l.initial.books.lost.now l.initial.books.reach.now l.initial.books.ends.now
          l.initial.books.table.now l.shortfall 0 0 l.books.lost.now l.books.reach.now l.books.ends.now l.books.table.now
          (l.shortfall - l._woken) l._woken l.cursor l.first;
      same_lists : SameLists l.initial.books l.books;
    }
