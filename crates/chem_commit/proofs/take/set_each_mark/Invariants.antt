use Rattle.std.proofs.Common.{◌≡◌, ◌++◌, take, drop, map}
use Rattle.chem_commit.specs.inside.Parts.{marked}
use Rattle.chem_commit.proofs.take.set_each_mark.Given as goal

abbrev pub invariant-loop-index : goal.invariant-loop-index
invariant-loop-index l =
    l.places ≡ map (marked l.at) (take l.index l.initial.places) ++ drop l.index l.initial.places
