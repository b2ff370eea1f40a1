use Rattle.std.proofs.Common.{take}
use Rattle.chem_commit.specs.inside.Differ.{ArePicked}
use Rattle.chem_commit.proofs.near.picked.Given as goal

abbrev pub invariant-loop-id : goal.invariant-loop-id
invariant-loop-id l = ArePicked l.solution.atoms (take l.id-index l.id-items) l.few
