use Rattle.std.proofs.Common.{◌≡◌, ◌&&◌, rules}
use Rattle.std.specs.Bool.{Decides}
use Rattle.std.proofs.lemmas.Slice.Eq.{slice_eq-Decides}
use lib.Dec.{eqb}
use Rattle.chem_model.specs.declared.event.AtomId.{AtomId}
use Rattle.shared_net.proofs.inside.same_atoms.Goals as goal

at_atom : (a b : AtomId) → Decides (eqb a.site b.site && eqb a.k b.k) (a ≡ b)
at_atom a b = search rules

pub returns : goal.returns
returns c = slice_eq-Decides at_atom _ _ _ c.eq.ensures
