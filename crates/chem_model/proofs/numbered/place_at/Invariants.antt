use Rattle.std.proofs.Common.{◌≡◌, drop}
use Rattle.chem_model.specs.Numbered.{standing}
use Rattle.chem_model.proofs.numbered.place_at.Given as goal

abbrev pub invariant-loop-placed : goal.invariant-loop-placed
invariant-loop-placed l =
    standing (drop l.placed-index l.placed-items) l.at ≡ standing l.placed-items l.at
