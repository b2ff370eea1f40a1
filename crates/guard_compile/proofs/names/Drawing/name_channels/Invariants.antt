use Rattle.std.proofs.Common.{◌≡◌, drop}
use Rattle.chem_model.specs.Process.{definitions}
use Rattle.chem_model.specs.Pour.{name_channels}
use Rattle.guard_compile.specs.inside.Drawing.{drawn}
use Rattle.guard_compile.proofs.names.Drawing.name_channels.Given as goal

abbrev pub invariant-loop-definition : goal.invariant-loop-definition
invariant-loop-definition l =
    name_channels l.site l.home (definitions (drop l.definition-index l.definition-items))
    (drawn l.self)
    ≡ name_channels l.site l.home (definitions l.definition-items) (drawn l.initial.self)
