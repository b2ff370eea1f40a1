use Rattle.std.proofs.Common.{◌++◌, take}
use Rattle.book_store.specs.Older.{whole}
use Rattle.trace_history.specs.inside.Causes.{Covers}
use Rattle.trace_history.proofs.all_causes.file_newest.Given as goal

abbrev pub invariant-loop-atom : goal.invariant-loop-atom
invariant-loop-atom l = Covers (whole l.older.table l.numbered)
    (l.older.table ++ take l.atom-index l.atom-items) l.lefts
