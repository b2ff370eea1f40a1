use Rattle.loc_tree.proofs.Alive.{holds_what_is_there}
use Rattle.loc_tree.proofs.laws.holds_what_is_there.Goals as goal

pub returns : goal.returns
returns c = holds_what_is_there
