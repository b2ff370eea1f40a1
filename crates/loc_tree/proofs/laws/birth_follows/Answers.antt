use Rattle.loc_tree.proofs.Follows.{birth_follows}
use Rattle.loc_tree.proofs.laws.birth_follows.Goals as goal

pub returns : goal.returns
returns c = birth_follows
