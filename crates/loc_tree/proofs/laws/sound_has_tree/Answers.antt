use Rattle.loc_tree.proofs.Sound.{sound_has_tree}
use Rattle.loc_tree.proofs.laws.sound_has_tree.Goals as goal

pub returns : goal.returns
returns c = sound_has_tree
