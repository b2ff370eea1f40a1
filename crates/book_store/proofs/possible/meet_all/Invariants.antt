use Rattle.std.proofs.Common.{◌≡◌, ◌≤◌, ◌++◌, length, drop}
use Rattle.std.specs.Prelude.{is_some}
use Rattle.chem_model.specs.Apply.{received_all}
use Rattle.book_store.proofs.possible.meet_all.Given as goal

abbrev pub invariant-loop-index : goal.invariant-loop-index
invariant-loop-index l = (l.index ≤ length l.took)
    × (is_some (received_all (l.older.table ++ l.numbered.atoms) l.at (drop l.index l.pats)
    (drop l.index l.took))
    ≡ is_some (received_all (l.older.table ++ l.numbered.atoms) l.at l.pats l.took))
