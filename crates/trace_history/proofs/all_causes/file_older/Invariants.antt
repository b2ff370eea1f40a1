use Rattle.std.proofs.Common.{◌≡◌, ◌++◌, List}
use Rattle.chem_model.specs.declared.numbered.NumberedAtom.{NumberedAtom}
use Rattle.book_store.specs.Older.{whole}
use Rattle.trace_history.specs.inside.Causes.{Covers}
use Rattle.trace_history.proofs.all_causes.file_older.Given as goal

abbrev pub invariant-loop-atom : goal.invariant-loop-atom
invariant-loop-atom l = (done : List NumberedAtom) × (done ++ l.atom-iterator ≡ l.older.table)
    × Covers (whole l.older.table l.numbered) done l.lefts
