use Rattle.net_laws.proofs.Meeting.{move_within_is_one_event}
use Rattle.net_laws.proofs.laws.move_within_is_one_event.Goals as goal

pub returns : goal.returns
returns c = λ rules_of. move_within_is_one_event rules_of
