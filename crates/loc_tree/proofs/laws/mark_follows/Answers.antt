use Rattle.loc_tree.proofs.Follows.{mark_follows}
use Rattle.loc_tree.proofs.laws.mark_follows.Goals as goal

pub returns : goal.returns
returns c = mark_follows
