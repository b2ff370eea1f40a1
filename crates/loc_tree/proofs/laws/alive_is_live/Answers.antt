use Rattle.loc_tree.proofs.Alive.{alive_is_live}
use Rattle.loc_tree.proofs.laws.alive_is_live.Goals as goal

pub returns : goal.returns
returns c = alive_is_live
