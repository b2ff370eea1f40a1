use Rattle.loc_tree.proofs.Follows.{roots_are_opened}
use Rattle.loc_tree.proofs.laws.roots_are_opened.Goals as goal

pub returns : goal.returns
returns c = roots_are_opened
