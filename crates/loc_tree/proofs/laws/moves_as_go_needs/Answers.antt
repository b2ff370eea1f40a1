use Rattle.loc_tree.proofs.Alive.{moves_as_go_needs}
use Rattle.loc_tree.proofs.laws.moves_as_go_needs.Goals as goal

pub returns : goal.returns
returns c = moves_as_go_needs
