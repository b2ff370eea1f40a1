use Rattle.std.proofs.Common.{◌≡◌, take}
use Rattle.chem_model.proofs.numbered.Items+NumberedAtom.copy.Given as goal

abbrev pub invariant-loop-member : goal.invariant-loop-member
invariant-loop-member l = l.list ≡ take l.member-index l.member-items
