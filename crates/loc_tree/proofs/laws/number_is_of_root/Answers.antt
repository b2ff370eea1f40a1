use Rattle.loc_tree.proofs.Alive.{number_is_of_root}
use Rattle.loc_tree.proofs.laws.number_is_of_root.Goals as goal

pub returns : goal.returns
returns c = number_is_of_root
