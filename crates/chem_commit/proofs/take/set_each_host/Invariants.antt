use Rattle.std.proofs.Common.{◌≡◌, ◌++◌, take, drop, map}
use Rattle.chem_commit.specs.inside.Parts.{hosted}
use Rattle.chem_commit.proofs.take.set_each_host.Given as goal

abbrev pub invariant-loop-index : goal.invariant-loop-index
invariant-loop-index l = l.places
    ≡ map (hosted l.at l.host) (take l.index l.initial.places) ++ drop l.index l.initial.places
