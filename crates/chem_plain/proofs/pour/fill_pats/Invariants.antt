use Rattle.std.proofs.Common.{◌≡◌, ◌++◌, drop}
use Rattle.chem_model.specs.Fill.{fill_pats}
use Rattle.chem_plain.specs.inside.Names.{names_of}
use Rattle.chem_plain.proofs.pour.fill_pats.Given as goal

abbrev pub invariant-loop-pat : goal.invariant-loop-pat
invariant-loop-pat l =
    l.list ++ fill_pats (names_of l.names) (drop l.pat-index l.pat-items)
    ≡ fill_pats (names_of l.names) l.pat-items
