use Rattle.std.proofs.Common.{◌≡◌, drop}
use Rattle.chem_model.specs.Pour.{name_pats}
use Rattle.chem_plain.specs.inside.Drawn.{drawn}
use Rattle.chem_plain.proofs.pour.Level.name_pats.Given as goal

abbrev pub invariant-loop-pat : goal.invariant-loop-pat
invariant-loop-pat l = name_pats l.site l.at (drop l.pat-index l.pat-items) (drawn l.self)
    ≡ name_pats l.site l.at l.pat-items (drawn l.initial.self)
