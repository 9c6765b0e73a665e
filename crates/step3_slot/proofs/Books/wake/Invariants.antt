-- `wake` meets its contract: one pass over the ranks is the chain, and its notes put back what it changed.
use Rattle.step3_slot.specs.Books.{SameLists}
use Rattle.step3_slot.specs.Notes.{takers_of, taken_of}
use Rattle.step3_slot.proofs.Asking.{Asking}
use Rattle.step3_slot.proofs.Books.wake.Given as goal

abbrev pub invariant-loop-k : goal.invariant-loop-k
invariant-loop-k l =
    record {
      asking : Asking l.x l.first l.releases l.ranks l.initial.self.lost.now l.initial.self.reach.now
          l.initial.self.ends.now l.initial.self.table.now l.self.lost.now l.self.reach.now
          l.self.ends.now l.self.table.now (takers_of l.notes) (taken_of l.notes) l.noted l.at l.k;
      same_lists : SameLists l.initial.self l.self;
    }
