use Rattle.std.proofs.Common.{◌≡◌, ◌++◌, drop}
use Rattle.std.specs.List.{list_all}
use Rattle.chem_causes.specs.Ready.{is_met}
use Rattle.book_store.proofs.possible.is_ready.Given as goal

abbrev pub invariant-loop-pat : goal.invariant-loop-pat
invariant-loop-pat l =
    list_all (is_met (l.older.table ++ l.numbered.atoms) l.rule.loc) (drop l.pat-index l.pat-items)
    ≡ list_all (is_met (l.older.table ++ l.numbered.atoms) l.rule.loc) l.pat-items
