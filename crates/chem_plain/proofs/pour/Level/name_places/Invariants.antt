use Rattle.std.proofs.Common.{◌≡◌, drop}
use Rattle.chem_model.specs.Process.{definitions}
use Rattle.chem_model.specs.Pour.{name_places}
use Rattle.chem_plain.specs.inside.Drawn.{drawn}
use Rattle.chem_plain.proofs.pour.Level.name_places.Given as goal

abbrev pub invariant-loop-definition : goal.invariant-loop-definition
invariant-loop-definition l =
    name_places l.site (definitions (drop l.definition-index l.definition-items)) (drawn l.self)
    ≡ name_places l.site (definitions l.definition-items) (drawn l.initial.self)
