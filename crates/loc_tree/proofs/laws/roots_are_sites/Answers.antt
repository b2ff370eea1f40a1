use Rattle.loc_tree.proofs.Sound.{roots_are_sites}
use Rattle.loc_tree.proofs.laws.roots_are_sites.Goals as goal

pub returns : goal.returns
returns c = roots_are_sites
