use Rattle.chem_model.specs.Numbered.{standing}
use Rattle.book_store.specs.Watched.{AreWatched, no_number}
use Rattle.book_store.proofs.waiting.tidy_rules.Given as goal

abbrev pub decreases-loop-left : goal.decreases-loop-left
decreases-loop-left l = l.left

abbrev pub invariant-loop-left : goal.invariant-loop-left
invariant-loop-left l = AreWatched no_number (standing l.numbered.places) l.older.keys.keys
    l.waiting l.numbered.rules
