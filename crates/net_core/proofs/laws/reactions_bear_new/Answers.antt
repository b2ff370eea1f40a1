use Rattle.net_core.proofs.Rising.{reactions_bear_new}
use Rattle.net_core.proofs.laws.reactions_bear_new.Goals as goal

pub returns : goal.returns
returns c = reactions_bear_new
