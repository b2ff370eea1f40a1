use Rattle.loc_tree.proofs.Follows.{move_follows}
use Rattle.loc_tree.proofs.laws.move_follows.Goals as goal

pub returns : goal.returns
returns c = move_follows
