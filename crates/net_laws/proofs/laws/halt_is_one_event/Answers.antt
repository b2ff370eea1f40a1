use Rattle.net_laws.proofs.Meeting.{halt_is_one_event}
use Rattle.net_laws.proofs.laws.halt_is_one_event.Goals as goal

pub returns : goal.returns
returns c = λ rules_of. halt_is_one_event rules_of
