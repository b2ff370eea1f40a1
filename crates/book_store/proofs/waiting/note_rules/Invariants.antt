use Rattle.chem_model.specs.Numbered.{standing}
use Rattle.book_store.specs.Watched.{AreWatched, no_number}
use Rattle.book_store.proofs.waiting.note_rules.Given as goal

abbrev pub invariant-loop-place : goal.invariant-loop-place
invariant-loop-place l = AreWatched no_number (standing l.numbered.places) l.older.keys.keys
    l.waiting l.numbered.rules
