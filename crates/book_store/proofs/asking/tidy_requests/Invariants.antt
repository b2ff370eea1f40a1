use Rattle.chem_model.specs.Numbered.{standing}
use Rattle.book_store.specs.Asked.{AreAsked}
use Rattle.book_store.proofs.asking.tidy_requests.Given as goal

abbrev pub decreases-loop-left : goal.decreases-loop-left
decreases-loop-left l = l.left

abbrev pub invariant-loop-left : goal.invariant-loop-left
invariant-loop-left l =
    AreAsked l.numbered.version (standing l.numbered.places) l.asking l.table
