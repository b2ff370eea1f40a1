use Rattle.std.specs.Option.{option_copied}
use Rattle.book_store.specs.Older.{whole}
use Rattle.trace_history.proofs.Looked.{SoFar}
use Rattle.trace_history.proofs.search.best_of_newest.Given as goal

abbrev pub invariant-loop-atom : goal.invariant-loop-atom
invariant-loop-atom l = SoFar (whole l.sight.older.now.table l.sight.numbered.now) l.sight.from
    l.waiting l.atom-items l.atom-index l.last (option_copied l.best)
