use Rattle.std.proofs.Common.{◌≡◌, drop}
use Rattle.chem_model.specs.Apply.{atom_at}
use Rattle.chem_plain.proofs.effect.atom_at.Given as goal

abbrev pub invariant-loop-atom : goal.invariant-loop-atom
invariant-loop-atom l = atom_at (drop l.atom-index l.atom-items) l.id ≡ atom_at l.atom-items l.id
