use Rattle.std.proofs.Common.{◌≡◌, ◌≤◌, length, take, drop}
use Rattle.chem_model.specs.Apply.{without_all}
use Rattle.chem_commit.specs.inside.Differ.{AtomsDiffer}
use Rattle.chem_commit.proofs.take.take_out_all.Given as goal

-- the first ones are those that are left of the first ones, and the others stay
abbrev pub invariant-loop-id : goal.invariant-loop-id
invariant-loop-id l = (l.left ≤ length l.atoms)
    × (without_all (drop l.id-index l.id-items) (take l.left l.atoms)
    ≡ without_all l.id-items (take l.initial.left l.initial.atoms))
    × (drop l.left l.atoms ≡ drop l.initial.left l.initial.atoms)
    × AtomsDiffer (take l.left l.atoms)
