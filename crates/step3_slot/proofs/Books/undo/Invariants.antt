-- `undo` meets its contract: each turn puts one note back.
use Rattle.std.proofs.Common.{◌≡◌, length}
use Rattle.step3_slot.specs.Books.{SameLists}
use Rattle.step3_slot.specs.Notes.{takers_of, taken_of}
use Rattle.step3_slot.proofs.Undoing.{Undoing}
use Rattle.step3_slot.proofs.Books.undo.Given as goal

abbrev pub invariant-loop-i : goal.invariant-loop-i
invariant-loop-i l =
    record {
      undoing : Undoing (length l.notes) l.last (takers_of l.notes) (taken_of l.notes) l.ranks l.initial.self.reach.now l.initial.self.table.now
          l.self.reach.now l.self.table.now l.at l.i;
      same_lost : l.self.lost.now ≡ l.initial.self.lost.now;
      same_ends : l.self.ends.now ≡ l.initial.self.ends.now;
      same_lists : SameLists l.initial.self l.self;
    }
