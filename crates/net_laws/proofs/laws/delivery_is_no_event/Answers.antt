use Rattle.net_laws.proofs.Meeting.{delivery_is_no_event}
use Rattle.net_laws.proofs.laws.delivery_is_no_event.Goals as goal

pub returns : goal.returns
returns c = λ rules_of. delivery_is_no_event rules_of
