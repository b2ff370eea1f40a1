use Rattle.std.proofs.Common.{◌≡◌, ◌++◌, drop}
use Rattle.chem_model.specs.Fill.{fill_refs}
use Rattle.chem_plain.specs.inside.Names.{names_of}
use Rattle.chem_plain.proofs.pour.fill_refs.Given as goal

abbrev pub invariant-loop-occurrence : goal.invariant-loop-occurrence
invariant-loop-occurrence l =
    l.list ++ fill_refs (names_of l.names) (drop l.occurrence-index l.occurrence-items)
    ≡ fill_refs (names_of l.names) l.occurrence-items
