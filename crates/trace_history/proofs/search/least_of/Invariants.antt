use Rattle.std.proofs.Common.{◌≡◌, drop}
use Rattle.std.specs.Option.{option_copied}
use Rattle.trace_history.specs.inside.Search.{first_of}
use Rattle.chem_causes.specs.Ready.{receives}
use Rattle.book_store.specs.Older.{atom_before}
use Rattle.trace_history.proofs.search.least_of.Given as goal

abbrev pub invariant-loop-atom : goal.invariant-loop-atom
invariant-loop-atom l =
    first_of (receives l.at l.pat) atom_before (option_copied l.least) (drop l.atom-index l.atoms)
    ≡ first_of (receives l.at l.pat) atom_before (option_copied l.fn.found) l.atoms
