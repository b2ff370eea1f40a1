use Rattle.loc_tree.proofs.Alive.{dies_as_detect_needs}
use Rattle.loc_tree.proofs.laws.dies_as_detect_needs.Goals as goal

pub returns : goal.returns
returns c = dies_as_detect_needs
