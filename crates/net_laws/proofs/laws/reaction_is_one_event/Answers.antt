use Rattle.net_laws.proofs.ByCode.{reaction_is_one_event}
use Rattle.net_laws.proofs.laws.reaction_is_one_event.Goals as goal

pub returns : goal.returns
returns c = reaction_is_one_event
