use Rattle.std.proofs.Common.{◌≡◌, ◌++◌, drop}
use Rattle.chem_model.specs.Process.{definitions}
use Rattle.chem_model.specs.Pour.{births_of}
use Rattle.chem_plain.specs.inside.Names.{names_of}
use Rattle.chem_plain.proofs.pour.add_births.Given as goal

abbrev pub invariant-loop-definition : goal.invariant-loop-definition
invariant-loop-definition l =
    l.births
    ++ births_of l.root (names_of l.names)
    (definitions (drop l.definition-index l.definition-items))
    ≡ l.initial.births ++ births_of l.root (names_of l.names) (definitions l.definition-items)
